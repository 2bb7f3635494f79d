-- Values that are found in a tree are found in it after writing.
use Rattle.std.proofs.Common.{◌≡◌, ℕ, ◌+◌, ◌==◌, false, List, length, filter, find, Option, Some, refl, sym, ap, ◌∙◌, inl, inr, unwrap_or}
use Rattle.std.specs.List.{AllZip}
use Rattle.std.specs.Option.{option_map}
use Rattle.std.proofs.lemmas.Bool.{cases_Bool}
use Rattle.tree_format.specs.Node.{Node, Nodes, leaf, master, none, node, list_of, id_of, body_of}
use Rattle.tree_format.specs.NormalForm.{is_filler, header_octets, octets, octets_all}
use Rattle.tree_format.specs.Standing.{placed, placed_all}
use Rattle.mkv_schema.specs.Schema.{text_default}
use Rattle.mkv_schema.specs.Value.{text_of}
use Rattle.tree_format.specs.Values.{first_child, integer_in, integer_of, text_in}
pub use Rattle.record_laws.proofs.AtomLemmas.{map-or as map_or-is}
pub use Rattle.record_laws.proofs.SameLemmas.{integer-placed, placed-id as id-placed}
use Rattle.record_laws.proofs.SameLemmas.{filler-other, part-placed as parts-placed}
use Rattle.record_laws.proofs.TrackLemmas.{find-map, first_in}
use Rattle.remerge_laws.specs.Placed.{RecordsSayTheSame, StandsAs}

-- ---- one Element

pub body-placed : (n : Node) (p : ℕ) → body_of (placed p n) ≡ body_of n
body-placed (leaf id at body) p = refl
body-placed (master id at kids) p = refl

-- ---- the first child with an ID

module _ {A : Type 0} (f : Node → A) (same : (n : Node) (p : ℕ) → f (placed p n) ≡ f n) (id : ℕ) (keeps : is_filler id ≡ false) where
  pub find-placed : (ns : Nodes) (p : ℕ) → option_map f (find (λ n. id_of n == id) (list_of (placed_all p ns))) ≡ option_map f (find (λ n. id_of n == id) (list_of ns))
  find-placed ns p =
      find-map f (λ n. id_of n == id) (list_of (placed_all p ns)) ∙ ap first_in (parts-placed f same id ns p keeps) ∙ sym (find-map f (λ n. id_of n == id) (list_of ns))

  -- The first child of an Element.
  pub first-placed : (n : Node) (p : ℕ) → option_map f (first_child id (placed p n)) ≡ option_map f (first_child id n)
  first-placed (leaf i at body) p = refl
  first-placed (master i at kids) p = find-placed kids (p + length (header_octets i (length (octets_all kids))))

pub text-same : (id : ℕ) (n : Node) (p : ℕ) → is_filler id ≡ false → text_in id (placed p n) ≡ text_in id n
text-same id n p keeps =
    let value : Node → Option (List ℕ) = λ m. Some (text_of (body_of m)) in
    map_or-is value (first_child id (placed p n)) (text_default id)
    ∙ ap (λ o. unwrap_or o (text_default id)) (first-placed value (λ m q. ap (λ b. Some (text_of b)) (body-placed m q)) id keeps n p)
    ∙ sym (map_or-is value (first_child id n) (text_default id))

-- A record has the same values after writing.
pub say-same : RecordsSayTheSame
say-same = record {
  integers = λ id n m keeps stands.
      ap (integer_in id) stands.1 ∙ first-placed integer_of integer-placed id keeps n stands.0;
  texts = λ id n m keeps stands. ap (text_in id) stands.1 ∙ text-same id n stands.0 keeps;
}

-- ---- all children with an ID

pub part-placed : (id : ℕ) (ns : Nodes) (p : ℕ) → is_filler id ≡ false → AllZip StandsAs (filter (λ n. id_of n == id) (list_of ns)) (filter (λ n. id_of n == id) (list_of (placed_all p ns)))
part-placed id none p keeps = tt
part-placed id (node n ns) p keeps = elim (cases_Bool (is_filler (id_of n))) [
  | inl filler ↦ rw (filler, filler-other (id_of n) id filler keeps) (part-placed id ns p keeps)
  | inr kept ↦
      let rest = part-placed id ns (p + length (octets n)) keeps in
      elim (cases_Bool (id_of n == id)) [ inl is ↦ rw (kept, id-placed n p, is) ((p, refl), rest) | inr is ↦ rw (kept, id-placed n p, is) rest ]
]
