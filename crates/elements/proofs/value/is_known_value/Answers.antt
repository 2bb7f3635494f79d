use Rattle.std.proofs.Common.{◌≡◌, ℕ, Bool, true, false, if◌then◌else◌, List, Option, Some, None, ◌∙◌, ap, sym}
use Rattle.std.specs.Option.{option_map_or}
use Rattle.mkv_schema.specs.Schema.{kind_of, may_stand}
use Rattle.mkv_schema.specs.declared.kind.ElementKind.{ElementKind}
use Rattle.mkv_schema.specs.Value.{is_value}
use Rattle.elements.proofs.value.is_known_value.Goals as goal

-- The bytes are a known value if they are a value of the kind that the Element has under its parent.
of_kind : (stands : Bool) (known : Option ElementKind) (kind : ElementKind) (body : List ℕ) → (if stands then known else None) ≡ Some kind
    → (if stands then option_map_or (λ k. is_value k body) known true else true) ≡ is_value kind body
of_kind true known kind body is = ap (λ (o : Option ElementKind). option_map_or (λ k. is_value k body) o true) is
of_kind false known kind body is = (cc)

pub returns-in-Some : goal.returns-in-Some
returns-in-Some c =
    c.is_value.ensures ∙ sym (of_kind (may_stand c.args.id c.args.parent) (kind_of c.args.id) c.in-Some.kind c.args.body.now (sym c.kind_under.ensures ∙ c.in-Some.is))
