-- Texts among the children of a valid master.
use Rattle.std.proofs.Common.{◌≡◌, ℕ, Some, inl, inr, sym, subst}
use Rattle.std.proofs.lemmas.Str.{IsUtf8-from_is_utf8}
use Rattle.std.specs.Str.{IsUtf8}
use Rattle.mkv_schema.specs.declared.kind.ElementKind.TheVariants.{Ascii, Utf8}
use Rattle.mkv_schema.specs.Value.{text_of}
use Rattle.tree_format.specs.Node.{Node, body_of, id_of}
use Rattle.tree_format.specs.Standing.{IsSound, IsSoundOf}
use Rattle.tree_format.specs.Values.{first_child}
use Rattle.tree_format.proofs.ChildLemmas.{first_child-value}
use Rattle.ebml_tree.specs.Texts.{HasText}

-- If the table has `id` as a text under `parent`, it does so under an Element with this ID.
pub HasText-of : (parent id : ℕ) (n : Node) → IsSoundOf parent n → HasText parent id → HasText (id_of n) id
HasText-of parent id n is text = let P : ℕ → Type 0 = λ p. HasText p id in subst P (sym is.id) text

-- A text is UTF-8.
pub text-utf8 : (tree n : Node) (id : ℕ) → IsSound tree → HasText (id_of tree) id → first_child id tree ≡ Some n → IsUtf8 (text_of (body_of n))
text-utf8 tree n id sound text found = elim text.kind [
  | inl is ↦ IsUtf8-from_is_utf8 (text_of (body_of n)) (first_child-value tree n id Ascii sound text.stands is found)
  | inr is ↦ IsUtf8-from_is_utf8 (text_of (body_of n)) (first_child-value tree n id Utf8 sound text.stands is found)
]
