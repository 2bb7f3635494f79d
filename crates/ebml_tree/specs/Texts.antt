-- The texts among the children of a master: RFC 8794, sections 7.4 (String Element) and 7.5 (UTF-8 Element).
use Rattle.std.specs.Prelude.{◌≡◌, ◌⊎◌, ℕ, true, Some}
use Rattle.mkv_schema.specs.Schema.{kind_of, may_stand}
use Rattle.mkv_schema.specs.declared.kind.ElementKind.TheVariants.{Ascii, Utf8}

-- The schema has `id` as a text under `parent`. `text_in` and readers of texts require it.
pub record HasText (parent id : ℕ) : Type 0 where
  pub stands : may_stand id parent ≡ true
  pub kind : (kind_of id ≡ Some Ascii) ⊎ (kind_of id ≡ Some Utf8)
