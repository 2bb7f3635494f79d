-- The first Cues that an outline shows.
use Rattle.std.proofs.Common.{◌≡◌, ℕ, ◌==◌, eqb-true, Bool, true, false, if◌then◌else◌, List, [], ◌∷◌, Option, Some, None, Ok, Err, refl, sym, ◌∙◌, ap}
use Rattle.std.specs.Option.{option_map_or}
use Rattle.mkv_schema.specs.Schema.{entry_of, is_master}
use Rattle.mkv_schema.specs.Table.{table}
use Rattle.mkv_schema.specs.declared.ids.TheConstants.{CUES}
use Rattle.mkv_io.specs.declared.damage.Damage.{Damage}
use Rattle.mkv_schema.specs.declared.element.Header.{Header}
use Rattle.mkv_schema.specs.declared.limits.TheConstants.{MAX_CUES_LEN}
use Rattle.mkv_schema.specs.Outline.{over, segment_run}
use Rattle.mkv_io.specs.Results.{and_then, unless}
use Rattle.mkv_schema.specs.Value.{body_of, first_of}
use Rattle.tree_format.specs.Node.{Node}
use Rattle.tree_format.specs.Reading.{tree_of}
use Rattle.element_reader.specs.Load.{limit_of, too_large}
use Rattle.element_reader.specs.Outline.{FileOutline, first_in, outline_in}
use Rattle.element_reader.proofs.OutlineLemmas.{Outlines-shown}
use Rattle.meta_records.proofs.RecordsLemmas.{first_same}
use Rattle.extractors.specs.Reading.{cues_at, first_cues}
use Rattle.extractors.specs.declared.limits.TheConstants.{MAX_CUE_NODES}

-- The table has a Cues as a master.
pub cues-master : is_master CUES ≡ true
unfolding entry_of table
cues-master = refl

-- The header that is found has the ID.
first_of-own : (id : ℕ) (list : List Header) (h : Header) → first_of id list ≡ Some h → h.id ≡ id
first_of-own id [] h found = absurd (cc)
first_of-own id (k ∷ ks) h found = split (first_of-own id ks h) (k.id == id) refl found
  where
    split : (first_of id ks ≡ Some h → h.id ≡ id) → (test : Bool) → (k.id == id) ≡ test → (if test then Some k else first_of id ks) ≡ Some h → h.id ≡ id
    split rest true is some = let same : k ≡ h = cc in ap (λ (e : Header). e.id) (sym same) ∙ eqb-true k.id id is
    split rest false is some = rest some

-- Header `h` is the first Cues of a file whose outline was read.
pub record IsFirstCues (bytes : List ℕ) (v : FileOutline) (h : Header) : Type 0 where
  pub first : first_of CUES (segment_run bytes v.segment).list ≡ Some h
  pub limit : too_large h ≡ over MAX_CUES_LEN h

pub IsFirstCues-shown : (before : ℕ) (bytes : List ℕ) (v : FileOutline) (h : Header) → outline_in before bytes ≡ Ok v → first_in CUES v ≡ Some h → IsFirstCues bytes v h
IsFirstCues-shown before bytes v h outline found =
    let first : first_of CUES (segment_run bytes v.segment).list ≡ Some h = sym (first_same CUES before bytes v refl (Outlines-shown before bytes v outline)) ∙ found in
    record {
      first = first;
      limit = ap (λ (id : ℕ). option_map_or (λ (most : ℕ). over most h) (limit_of id) None) (first_of-own CUES (segment_run bytes v.segment).list h first);
    }

-- There is no Cues.
pub first_cues-none : (before : ℕ) (bytes : List ℕ) (v : FileOutline) → outline_in before bytes ≡ Ok v → first_in CUES v ≡ None → first_cues bytes v.segment ≡ Ok None
first_cues-none before bytes v outline found = ap (cues_at bytes) (sym (first_same CUES before bytes v refl (Outlines-shown before bytes v outline)) ∙ found)

-- The Cues is too large.
pub first_cues-large : (bytes : List ℕ) (v : FileOutline) (h : Header) (d : Damage) → IsFirstCues bytes v h → too_large h ≡ Some d → first_cues bytes v.segment ≡ Err d
first_cues-large bytes v h d is large =
    ap (cues_at bytes) is.first
    ∙ ap (λ (o : Option Damage). and_then (unless o (body_of bytes h)) (λ (body : List ℕ). and_then (tree_of CUES h.offset body h.body MAX_CUE_NODES) (λ (tree : Node). Ok (Some tree)))) (sym is.limit ∙ large)

-- The Cues is read as a tree.
pub first_cues-some : (bytes : List ℕ) (v : FileOutline) (h : Header) (body : List ℕ) → IsFirstCues bytes v h → ((d : Damage) → too_large h ≡ Some d → ⊥) → body ≡ body_of bytes h → first_cues bytes v.segment ≡ and_then (tree_of CUES h.offset body h.body MAX_CUE_NODES) (λ (tree : Node). Ok (Some tree))
first_cues-some bytes v h body is small same =
    ap (cues_at bytes) is.first
    ∙ ap (λ (o : Option Damage). and_then (unless o (body_of bytes h)) (λ (octets : List ℕ). and_then (tree_of CUES h.offset octets h.body MAX_CUE_NODES) (λ (tree : Node). Ok (Some tree)))) (sym is.limit ∙ none (too_large h) refl)
    ∙ ap (λ (octets : List ℕ). and_then (tree_of CUES h.offset octets h.body MAX_CUE_NODES) (λ (tree : Node). Ok (Some tree))) (sym same)
  where
    none : (large : Option Damage) → too_large h ≡ large → large ≡ None
    none None at = refl
    none (Some d) at = absurd (small d at)
