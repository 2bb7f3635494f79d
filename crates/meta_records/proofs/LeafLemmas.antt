-- Children of an AttachedFile as leaves.
use Rattle.std.proofs.Common.{◌≡◌, ◌≤◌, ℕ, ◌+◌, ◌-◌, ◌==◌, Bool, true, false, not, if◌then◌else◌, List, [], Result, Ok, sym, ◌∙◌, ap, arith}
use Rattle.std.proofs.lemmas.Bool.Decides.{nat_tests}
use Rattle.mkv_schema.specs.declared.ids.TheConstants.{ATTACHED_FILE, FILE_DATA}
use Rattle.mkv_io.specs.declared.damage.Damage.{Damage}
use Rattle.mkv_io.specs.declared.damage.Kind.TheVariants.{BadValue}
use Rattle.mkv_schema.specs.declared.element.Header.{Header}
use Rattle.mkv_schema.specs.Element.{known, stated_end}
use Rattle.mkv_schema.specs.Outline.{where_it}
use Rattle.mkv_io.specs.Results.{unless}
use Rattle.mkv_schema.specs.Value.{body_of, is_known_value}
use Rattle.tree_format.specs.Node.{Node, leaf}
use Rattle.meta_records.specs.Attachments.{counted_of, header_len, leaf_of, told_at}
use Rattle.meta_records.specs.Walk.{leaf_in, octets_of}
use Rattle.meta_records.proofs.TableFacts.{file_data-value}

-- ---- FileData

is-data : (h : Header) → h.id ≡ FILE_DATA → (h.id == FILE_DATA) ≡ true
is-data h is = grind (arith, nat_tests)

pub leaf_in-data : (bytes : List ℕ) (h : Header) (n : Node) → h.id ≡ FILE_DATA → n ≡ leaf FILE_DATA 0 [] → leaf_in bytes h ≡ Ok n
leaf_in-data bytes h n is made =
    let value : is_known_value ATTACHED_FILE h.id (body_of bytes h) ≡ true = ap (λ (i : ℕ). is_known_value ATTACHED_FILE i (body_of bytes h)) is ∙ file_data-value (body_of bytes h) in
    let ok : Node → Result Node Damage = λ m. Ok m in
    ap (λ (v : Bool). unless (where_it (not v) (told_at BadValue h)) (leaf_of bytes h)) value
    ∙ ap (λ (b : Bool). ok (leaf h.id 0 (if b then [] else body_of bytes h))) (is-data h is)
    ∙ ap (λ (i : ℕ). ok (leaf i 0 [])) is
    ∙ ap ok (sym made)

-- ---- counted bytes

-- The bytes read of a child count, and it has no fewer.
pub octets_of-counted : (h : Header) → h.offset ≤ h.body → (octets_of h ≤ counted_of h) × (counted_of h ≤ stated_end h - h.offset)
octets_of-counted h behind = of (h.id == FILE_DATA)
  where
    of : (b : Bool) → ((if b then 0 else known h.size) ≤ (if b then header_len h else header_len h + known h.size)) × ((if b then header_len h else header_len h + known h.size) ≤ stated_end h - h.offset)
    of true = (omega arith, omega arith)
    of false = (omega arith, omega arith)
