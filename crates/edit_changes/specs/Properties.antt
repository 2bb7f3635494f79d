-- The table of properties in the code, and the places of their Elements. The choice of properties is this project's, after mkvpropedit(1).
use Rattle.std.specs.Prelude.{◌≡◌, ℕ, Bool, true, if◌then◌else◌}
use Rattle.ebml_numbers.specs.Number.{is_id}
use Rattle.mkv_schema.specs.declared.ids.TheConstants.{INFO, TRACK_ENTRY}
use Rattle.ebml_tree.specs.Leaves.{IsTextIn, IsUintIn}
use Rattle.edit_changes.specs.declared.property.Property.{Property}
use Rattle.edit_changes.specs.declared.property.ValueKind.{ValueKind}
use Rattle.edit_changes.specs.declared.property.ValueKind.TheVariants.{Words, Language, LanguageTag, Codec, Duration, Flag}
use Rattle.edit_changes.specs.Property as spec
use Rattle.edit_changes.specs.declared.table.Row.{Row}

-- the row `r` of the code's table of properties, as a row of the table of the definitions. The contract of `table` compares them.
abbrev pub shown : Row → spec.Row
shown r = record { name = r.0.now; property = r.1 }

-- the ID of the master with the properties: Info if `info` is true, or else TrackEntry. `apply` requires a tree with this ID.
abbrev pub section_of : Bool → ℕ
section_of info = if info then INFO else TRACK_ENTRY

-- The Matroska table allows the child `id` in `parent`, with values of the kind in the last argument. `IsPropertyOf` requires it of a property.
abbrev pub IsOfKind : ℕ → ℕ → ValueKind → Type 0
IsOfKind parent id Words = IsTextIn parent id
IsOfKind parent id Language = IsTextIn parent id
IsOfKind parent id LanguageTag = IsTextIn parent id
IsOfKind parent id Codec = IsTextIn parent id
IsOfKind parent id Duration = IsUintIn parent id
IsOfKind parent id Flag = IsUintIn parent id

-- The Matroska table allows the Element of the property `p` in `parent`, with values of its kind. Then a value that is set is a valid child there, as
-- contracts of `set` and `add` need.
pub record IsPropertyOf (parent : ℕ) (p : Property) : Type 0 where
  pub valid : is_id p.id ≡ true
  pub kind : IsOfKind parent p.id p.kind
