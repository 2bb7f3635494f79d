-- The places of the parts of an Element: RFC 8794, section 6 (Element Data Size).
use Rattle.std.specs.Prelude.{◌≡◌, ℕ, false, ◌<◌, ◌≤◌}
use Rattle.mkv_schema.specs.declared.element.Header.{Header}
use Rattle.mkv_schema.specs.Element.{Setting, is_unknown, stated_end}

-- The Element `h` is at the offset `p`. Its content begins after `p`, and not after its parent's end `e`. Contracts of readers of headers promise it.
pub record StandsAt (p e : ℕ) (h : Header) : Type 0 where
  pub offset : h.offset ≡ p
  pub later : p < h.body
  pub within : h.body ≤ e

-- If the Element `h` may not be open in the setting `s`, its size is known. It ends at its parent's end `e` or before. Contracts of readers of
-- headers promise it.
pub record IsWhole (s : Setting) (e : ℕ) (h : Header) : Type 0 where
  pub known : s.may_open h.id ≡ false → is_unknown h.size ≡ false
  pub inside : s.may_open h.id ≡ false → stated_end h ≤ e
