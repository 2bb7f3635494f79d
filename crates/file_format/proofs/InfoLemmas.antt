-- Laws on the scale of an Info, and of its file.
use Rattle.std.proofs.Common.{◌≡◌, ◌<◌, ℕ, ◌==◌, Bool, true, false, not, List, [], ◌∷◌, Option, Some, None, IfSome, Result, Ok, Err, IsOk, refl, ap, ◌∙◌, arith, unwrap_or}
use Rattle.std.specs.Option.{option_map, option_and_then}
use Rattle.std.proofs.lemmas.Bool.Decides.{nat_tests}
use Rattle.mkv_schema.specs.declared.ids.TheConstants.{INFO, TIMESTAMP_SCALE}
use Rattle.mkv_schema.specs.Table.{table}
use Rattle.mkv_schema.specs.Schema.{entry_of, uint_default}
use Rattle.mkv_io.specs.declared.damage.Damage.{Damage}
use Rattle.mkv_io.specs.declared.damage.Kind.TheVariants.{BadValue}
use Rattle.mkv_schema.specs.declared.element.Header.{Header}
use Rattle.mkv_schema.specs.Element.{damage}
use Rattle.mkv_schema.specs.Outline.{where_it}
use Rattle.mkv_schema.specs.Value.{body_of}
use Rattle.tree_format.specs.declared.limits.TheConstants.{MAX_NODES}
use Rattle.tree_format.specs.Node.{Node, offset_of}
use Rattle.tree_format.specs.Values.{first_child, integer_of, HasUint}
use Rattle.tree_format.proofs.OrderLemmas.{tree_of-without_limits}
use Rattle.file_format.specs.declared.scale.TheConstants.{DEFAULT_SCALE}
use Rattle.file_format.specs.Info.{scale_of, info_refusal, first_info, info_tree, info_without_limits, scale_in, scale_at, file_scale, scale_without_limits, LimitsChangeNoScale}

-- ---- entries of the table in an Info

pub default : unwrap_or (uint_default TIMESTAMP_SCALE) 0 ≡ DEFAULT_SCALE
unfolding entry_of table
default = refl

pub timestamp_scale : HasUint INFO TIMESTAMP_SCALE
unfolding entry_of table
timestamp_scale = record { stands = refl; kind = refl }

-- ---- an Info

pub scale-none : (info : Node) → first_child TIMESTAMP_SCALE info ≡ None → scale_of info ≡ DEFAULT_SCALE
scale-none info found = ap (λ o. unwrap_or (option_map integer_of o) (unwrap_or (uint_default TIMESTAMP_SCALE) 0)) found ∙ default

-- A scale that isn't refused isn't 0.
pub scale-some : (info : Node) → info_refusal info ≡ None → 0 < scale_of info
scale-some info none = split (first_child TIMESTAMP_SCALE info) none
  where
    passes : (b : Bool) (d : Damage) → where_it (not b) d ≡ None → b ≡ true
    passes true d is = refl
    passes false d is = absurd (cc)

    split : (o : Option Node) → option_and_then (λ n. where_it (not (not (integer_of n == 0))) (damage BadValue TIMESTAMP_SCALE (offset_of n))) o ≡ None
        → 0 < unwrap_or (option_map integer_of o) (unwrap_or (uint_default TIMESTAMP_SCALE) 0)
    split None none = rw default (omega arith)
    split (Some n) none =
        let is : not (integer_of n == 0) ≡ true = passes _ _ none in
        grind (arith, nat_tests)

-- ---- a file

pub file_scale-some : (bytes : List ℕ) (segment h : Header) (info : Node) → first_info bytes segment ≡ Some h → info_tree bytes h ≡ Ok info → file_scale bytes segment ≡ scale_of info
unfolding file_scale
file_scale-some bytes segment h info first tree = rw first (ap scale_in tree)

-- ---- without a reader's limits

tree-same : (bytes : List ℕ) (h : Header) (read : Result Node Damage) → info_tree bytes h ≡ read → IsOk read → scale_in (info_without_limits bytes h) ≡ scale_in read
tree-same bytes h (Ok info) is ok = ap scale_in (tree_of-without_limits h.id h.offset (body_of bytes h) h.body MAX_NODES info is)
tree-same bytes h (Err d) is ok = absurd (cc)

scale-same : (bytes : List ℕ) (first : Option Header) → IfSome first (λ h. IsOk (info_tree bytes h)) → scale_at (info_without_limits bytes) first ≡ scale_at (info_tree bytes) first
scale-same bytes None ok = refl
scale-same bytes (Some h) ok = tree-same bytes h (info_tree bytes h) refl ok

pub limits-no-scale : LimitsChangeNoScale
unfolding file_scale scale_without_limits
limits-no-scale bytes segment ok = scale-same bytes (first_info bytes segment) ok
