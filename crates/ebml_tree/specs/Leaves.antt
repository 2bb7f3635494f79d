-- Leaves that the table allows under a parent: RFC 9559, section 5 (Matroska Schema).
use Rattle.std.specs.Prelude.{◌≡◌, ◌⊎◌, ℕ, true, Some}
use Rattle.ebml_numbers.specs.Number.{is_id}
use Rattle.mkv_schema.specs.Schema.{may_stand, kind_of}
use Rattle.mkv_schema.specs.declared.kind.ElementKind.TheVariants.{Ascii, Utf8}
use Rattle.tree_format.specs.Values.{HasUint}

-- The schema has `id` as an unsigned integer under `parent`, and `id` is valid. Then `uint_leaf` makes a valid child of `parent`.
pub record IsUintIn (parent id : ℕ) : Type 0 where
  pub valid : is_id id ≡ true
  pub known : HasUint parent id

-- The schema has `id` as a text under `parent`, and `id` is valid. Then `text_leaf` makes a valid child of `parent`.
pub record IsTextIn (parent id : ℕ) : Type 0 where
  pub valid : is_id id ≡ true
  pub stands : may_stand id parent ≡ true
  pub kind : (kind_of id ≡ Some Ascii) ⊎ (kind_of id ≡ Some Utf8)
