-- The place of an Element in a master that is read whole: RFC 8794, section 6 (Element Data Size).
use Rattle.std.specs.Prelude.{◌≡◌, ◌<◌, ◌≤◌, ℕ, false}
use Rattle.mkv_schema.specs.declared.element.Header.{Header}
use Rattle.mkv_schema.specs.Element.{is_unknown, stated_end}

-- The Element with the header `h` is at the offset `p` of a file and its size is known. It ends at the offset `e` or before. The reader of a tree
-- promises it of each header.
pub record Fits (p e : ℕ) (h : Header) : Type 0 where
  pub offset : h.offset ≡ p
  pub later : p < h.body
  pub known : is_unknown h.size ≡ false
  pub ends : stated_end h ≤ e
