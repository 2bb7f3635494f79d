-- The table of Elements allows the Elements of properties at their places.
use Rattle.std.proofs.Common.{◌≡◌, inl, inr, ℕ, Bool, true, false, List, [], ◌∷◌, find, if◌then◌else◌, Some, IfSome, refl}
use Rattle.std.specs.Bool.{⊤}
use Rattle.std.specs.Option.{option_map}
use Rattle.std.specs.Str.{bytes_eq}
use Rattle.ebml_numbers.specs.Number.{is_id}
use Rattle.mkv_schema.specs.Table.{table}
use Rattle.mkv_schema.specs.Schema.{entry_of, may_stand, kind_of}
use Rattle.mkv_schema.specs.declared.kind.ElementKind.TheVariants.{Uint, Ascii, Utf8}
use Rattle.mkv_schema.specs.declared.ids.TheConstants.{INFO, TRACK_ENTRY}
use Rattle.ebml_tree.specs.Leaves.{IsTextIn, IsUintIn}
use Rattle.edit_changes.specs.declared.property.Property.{Property}
use Rattle.edit_changes.specs.Property.{Row, in_table, info_table, track_table, property_of}
use Rattle.edit_changes.specs.Properties.{IsPropertyOf, section_of}

-- Each row's property satisfies `P`.
abbrev Each : (Property → Type 0) → List Row → Type 0
Each P [] = ⊤
Each P (r ∷ rs) = P r.property × Each P rs

-- A property that is found satisfies `P` if all rows do.
in_table-all : (P : Property → Type 0) (name : List ℕ) (rows : List Row) → Each P rows → IfSome (in_table name rows) P
in_table-all P name [] all = tt
in_table-all P name (r ∷ rs) all = split (bytes_eq name r.name) (in_table-all P name rs all.1)
  where
    split : (same : Bool) → IfSome (in_table name rs) P → IfSome (option_map (λ q. q.property) (if same then Some r else find (λ q. bytes_eq name q.name) rs)) P
    split true rest = all.0
    split false rest = rest

utf8 : {parent id : ℕ} → is_id id ≡ true → may_stand id parent ≡ true → kind_of id ≡ Some Utf8 → IsTextIn parent id
utf8 valid stands kind = record { valid = valid; stands = stands; kind = inr kind }

ascii : {parent id : ℕ} → is_id id ≡ true → may_stand id parent ≡ true → kind_of id ≡ Some Ascii → IsTextIn parent id
ascii valid stands kind = record { valid = valid; stands = stands; kind = inl kind }

uint : {parent id : ℕ} → is_id id ≡ true → may_stand id parent ≡ true → kind_of id ≡ Some Uint → IsUintIn parent id
uint valid stands kind = record { valid = valid; known = record { stands = stands; kind = kind } }

info-stands : Each (IsPropertyOf INFO) info_table
unfolding table entry_of is_id
info-stands = (
  record { valid = refl; kind = utf8 refl refl refl },
  (
    record { valid = refl; kind = utf8 refl refl refl },
    (
      record { valid = refl; kind = utf8 refl refl refl },
      (
        record { valid = refl; kind = utf8 refl refl refl },
        tt,
      ),
    ),
  ),
)

track-stands : Each (IsPropertyOf TRACK_ENTRY) track_table
unfolding table entry_of is_id
track-stands = (
  record { valid = refl; kind = utf8 refl refl refl },
  (
    record { valid = refl; kind = ascii refl refl refl },
    (
      record { valid = refl; kind = ascii refl refl refl },
      (
        record { valid = refl; kind = ascii refl refl refl },
        (
          record { valid = refl; kind = uint refl refl refl },
          (
            record { valid = refl; kind = uint refl refl refl },
            (
              record { valid = refl; kind = uint refl refl refl },
              (
                record { valid = refl; kind = uint refl refl refl },
                (
                  record { valid = refl; kind = uint refl refl refl },
                  (
                    record { valid = refl; kind = uint refl refl refl },
                    (
                      record { valid = refl; kind = uint refl refl refl },
                      (
                        record { valid = refl; kind = uint refl refl refl },
                        (
                          record { valid = refl; kind = uint refl refl refl },
                          tt,
                        ),
                      ),
                    ),
                  ),
                ),
              ),
            ),
          ),
        ),
      ),
    ),
  ),
)

pub property-stands : (info : Bool) (name : List ℕ) → IfSome (property_of info name) (IsPropertyOf (section_of info))
unfolding property_of
property-stands true name = in_table-all (IsPropertyOf INFO) name info_table info-stands
property-stands false name = in_table-all (IsPropertyOf TRACK_ENTRY) name track_table track-stands

pub ruleset properties = property-stands
