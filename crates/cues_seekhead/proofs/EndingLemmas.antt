-- The Seeks of the elements after the Clusters.
use Rattle.std.proofs.Common.{◌≡◌, ℕ, suc, ◌+◌, List, [], ◌∷◌, ◌++◌, length, true, Option, Some, None, IfSome, refl, sym, ap, ◌∙◌, subst}
use Rattle.std.proofs.lemmas.List.Elements.{All-from_recursion, All-append}
use Rattle.std.specs.List.{AllByRecursion}
use Rattle.ebml_numbers.specs.Number.{is_id}
use Rattle.mkv_schema.specs.declared.ids.TheConstants.{CHAPTERS, TAGS}
use Rattle.tree_format.specs.Node.{Node, id_of}
use Rattle.output_model.specs.Element.{Element, octets_of}
use Rattle.output_model.specs.declared.places.CuePoint.{CuePoint}
use Rattle.output_model.specs.declared.places.Seek.{Seek}
use Rattle.output_model.specs.Cues.{cues_elements}
use Rattle.output_model.specs.SeekHead.{seeks_from}
use Rattle.output_model.specs.Document.{tree_elements, back_with}
use Rattle.cues_seekhead.specs.Places.{Adds, AreIds}

abbrev HaveIds : List Element → Type 0
HaveIds [] = Unit {0}
HaveIds (e ∷ es) = (is_id e.id ≡ true) × HaveIds es

seeks-valid : (p : ℕ) (es : List Element) → HaveIds es → AllByRecursion (λ s. is_id s.id ≡ true) (seeks_from p es)
seeks-valid p [] ids = tt
seeks-valid p (e ∷ es) ids = (ids.0, seeks-valid (p + length (octets_of e)) es ids.1)

HaveIds-append : (xs ys : List Element) → HaveIds xs → HaveIds ys → HaveIds (xs ++ ys)
HaveIds-append [] ys one two = two
HaveIds-append (x ∷ xs) ys one two = (one.0, HaveIds-append xs ys one.1 two)

cues-valid : (points : List CuePoint) → HaveIds (cues_elements points)
unfolding is_id
cues-valid [] = tt
cues-valid (p ∷ ps) = (refl, tt)

tree-valid : (id : ℕ) (n : Option Node) → is_id id ≡ true → IfSome n (λ n. id_of n ≡ id) → HaveIds (tree_elements n)
tree-valid id None valid is = tt
tree-valid id (Some n) valid is = (ap is_id is ∙ valid, tt)

chapters-valid : is_id CHAPTERS ≡ true
unfolding is_id
chapters-valid = refl

tags-valid : is_id TAGS ≡ true
unfolding is_id
tags-valid = refl

-- The IDs of the Seeks are valid.
pub ids-behind : (at : ℕ) (points : List CuePoint) (chapters tags : Option Node) (out out' : List ℕ) (seeks seeks' : List Seek) → IfSome chapters (λ n. id_of n ≡ CHAPTERS) → IfSome tags (λ n. id_of n ≡ TAGS)
    → Adds at (back_with points chapters tags) out out' seeks seeks' → AreIds seeks → AreIds seeks'
ids-behind at points chapters tags out out' seeks seeks' is_chapters is_tags adds ids =
    let valid = HaveIds-append (cues_elements points) (tree_elements chapters ++ tree_elements tags) (cues-valid points)
    (HaveIds-append (tree_elements chapters) (tree_elements tags) (tree-valid CHAPTERS chapters chapters-valid is_chapters) (tree-valid TAGS tags tags-valid is_tags)) in
    let more = All-from_recursion (λ (s : Seek). is_id s.id ≡ true) (seeks_from (at + length out) (back_with points chapters tags)) (seeks-valid (at + length out) (back_with points chapters tags) valid) in
    let P : List Seek → Type 0 = AreIds in
    subst P (sym adds.places) (All-append (λ s. is_id s.id ≡ true) seeks (seeks_from (at + length out) (back_with points chapters tags)) ids more)

length-seeks : (p : ℕ) (es : List Element) → length (seeks_from p es) ≡ length es
length-seeks p [] = refl
length-seeks p (e ∷ es) = ap suc (length-seeks (p + length (octets_of e)) es)
