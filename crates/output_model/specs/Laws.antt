-- Written Elements are read back, and Elements that were read are written as the same bytes: RFC 8794, section 7.7 (Master Element).
use Rattle.std.specs.Prelude.{◌≡◌, ◌≤◌, ℕ, ◌+◌, false, List, length, All, None}
use Rattle.ebml_numbers.specs.Number.{AreOctets}
use Rattle.mkv_schema.specs.declared.element.Header.{Header}
use Rattle.mkv_schema.specs.Element.{Setting, in_master}
use Rattle.mkv_schema.specs.Elements.{children_in}
use Rattle.output_model.specs.Element.{Element, IsElement, HoldsAt, joined, headers_in_place}

-- Law: if the content of a master from the offset `p` of `bytes` is the Elements `es` in sequence, its children are read as the same Elements, at
-- their offsets. `s` is the kind of master, which isn't a ChapterAtom.
abbrev pub ElementsAreRead : Type 0
ElementsAreRead =
    (s : Setting) (bytes : List ℕ) (es : List Element) (p : ℕ) → s.display ≡ false → All IsElement es → HoldsAt bytes p (joined es)
    → children_in s bytes p (p + length (joined es)) ≡ record { list = headers_in_place p es; damage = None; end = p + length (joined es) }

-- The headers `hs` belong to Elements in the content `bytes`, in sequence from the offset `p` up to the offset `e`. It is the conclusion of
-- `ChildrenAreWritten`.
pub record AreWritten (bytes : List ℕ) (p e : ℕ) (hs : List Header) : Type 0 where
  pub elements : List Element
  pub headers : hs ≡ headers_in_place p elements
  pub are : All IsElement elements
  pub held : HoldsAt bytes p (joined elements)
  pub whole : p + length (joined elements) ≡ e

-- Law: suppose that no damage ends the children of a master with the body from `p` to `e` in `bytes`. Then they are Elements that fill this body,
-- each with a valid ID and a known size.
abbrev pub ChildrenAreWritten : Type 0
ChildrenAreWritten =
    (bytes : List ℕ) (p e : ℕ) → AreOctets bytes → p ≤ e → e ≤ length bytes → (children_in in_master bytes p e).damage ≡ None
    → AreWritten bytes p e (children_in in_master bytes p e).list
