-- The properties that can be edited, and their values: RFC 9559, sections 5.1.2 (Info Element) and 5.1.4 (Tracks Element). Their names on the command
-- line are this project's.
use Rattle.std.specs.Prelude.{ℕ, ◌^◌, ◌-◌, ◌==◌, nat_le, Bool, true, false, not, ◌&&◌, ◌||◌, if◌then◌else◌, List, [], ◌∷◌, length, find, codes, Option, Some, None}
use Rattle.std.specs.List.{list_all}
use Rattle.std.specs.Option.{option_map}
use Rattle.std.specs.Str.{is_utf8, bytes_eq}
use Rattle.ebml_numbers.specs.Number.{uint_octets}
use Rattle.mkv_schema.specs.declared.ids.TheConstants.{TITLE, SEGMENT_FILENAME, MUXING_APP, WRITING_APP, NAME, LANGUAGE, LANGUAGE_BCP47, CODEC_ID, DEFAULT_DURATION, FLAG_ENABLED, FLAG_DEFAULT, FLAG_FORCED, FLAG_HEARING_IMPAIRED, FLAG_VISUAL_IMPAIRED, FLAG_TEXT_DESCRIPTIONS, FLAG_ORIGINAL, FLAG_COMMENTARY}
use Rattle.requests.specs.declared.edit.Selector.{Selector}
use Rattle.requests.specs.declared.edit.Selector.TheVariants.{Info, Nth, Typed, Uid, Number}
use Rattle.requests.specs.Decimal.{number}
use Rattle.requests.specs.Language.{is_language_tag}
use Rattle.edit_changes.specs.declared.property.Property.{Property}
use Rattle.edit_changes.specs.declared.property.ValueKind.{ValueKind}
use Rattle.edit_changes.specs.declared.property.ValueKind.TheVariants.{Words, Language, LanguageTag, Codec, Duration, Flag}

-- ---- the table

-- a property with its name on the command line, a row of the table of Info or of tracks. Used by `shown`, `row` and others.
pub record Row : Type 0 where
  pub name : List ℕ
  pub property : Property

-- the row of a property with the name `name` on the command line, the Element ID `id` and the kind of value `kind`. It may be deleted if `deletable`.
-- The two tables are made of it.
abbrev pub row : List ℕ → ℕ → ValueKind → Bool → Row
row name id kind deletable = record { name = name; property = record { id = id; kind = kind; deletable = deletable } }

-- the properties of Info that `propedit` can edit, with their names on the command line
abbrev pub info_table : List Row
info_table =
    row (codes "title") TITLE Words true ∷
    row (codes "segment-filename") SEGMENT_FILENAME Words true ∷
    row (codes "muxing-application") MUXING_APP Words false ∷
    row (codes "writing-application") WRITING_APP Words false ∷ []

-- the properties of a TrackEntry that `propedit` can edit, with their names on the command line
abbrev pub track_table : List Row
track_table =
    row (codes "name") NAME Words true ∷
    row (codes "language") LANGUAGE Language true ∷
    row (codes "language-ietf") LANGUAGE_BCP47 LanguageTag true ∷
    row (codes "codec-id") CODEC_ID Codec false ∷
    row (codes "default-duration") DEFAULT_DURATION Duration true ∷
    row (codes "flag-enabled") FLAG_ENABLED Flag true ∷
    row (codes "flag-default") FLAG_DEFAULT Flag true ∷
    row (codes "flag-forced") FLAG_FORCED Flag true ∷
    row (codes "flag-hearing-impaired") FLAG_HEARING_IMPAIRED Flag true ∷
    row (codes "flag-visual-impaired") FLAG_VISUAL_IMPAIRED Flag true ∷
    row (codes "flag-text-descriptions") FLAG_TEXT_DESCRIPTIONS Flag true ∷
    row (codes "flag-original") FLAG_ORIGINAL Flag true ∷
    row (codes "flag-commentary") FLAG_COMMENTARY Flag true ∷ []

-- The selector of an edit names Info, and not a track. It chooses the table and the Element to edit. Used by `apply`, `edit_info` and others.
abbrev pub is_info : Selector → Bool
is_info Info = true
is_info (Nth n) = false
is_info (Typed kind n) = false
is_info (Uid uid) = false
is_info (Number number) = false

-- the table of the Info's properties if `info` is true, or else of a track's. `property_of` searches it.
abbrev pub table_of : Bool → List Row
table_of info = if info then info_table else track_table

-- the property with the name `name` in the table `rows`, or None for an unknown name. `property_of` uses it.
abbrev pub in_table : List ℕ → List Row → Option Property
in_table name rows = option_map (λ r. r.property) (find (λ r. bytes_eq name r.name) rows)

-- the property with the name `name` of Info if `info` is true, and of a TrackEntry otherwise; None for an unknown name, which refuses an edit
unfoldable pub property_of : Bool → List ℕ → Option Property
property_of info name = in_table name (table_of info)

-- ---- values

-- The number `n` is at least `least` and at most `most`. Used for the bytes, lengths and numbers of property values. Used by `is_lower`,
-- `is_printable` and others.
abbrev pub is_between : ℕ → ℕ → ℕ → Bool
is_between least most n = nat_le least n && nat_le n most

-- The byte `c` is a lower-case letter of ASCII, for a language code. Used by `are_lower` and `is_language`.
abbrev pub is_lower : ℕ → Bool
is_lower c = is_between 0x61 0x7A c

-- The byte `c` is a printable character of ASCII, or a space, for a CodecID. Used by `are_printable` and `is_codec`.
abbrev pub is_printable : ℕ → Bool
is_printable c = is_between 0x20 0x7E c

-- The value `octets` has 1 to 63 printable ASCII characters, as the property codec-id requires.
abbrev pub is_codec : List ℕ → Bool
is_codec octets = is_between 1 63 (length octets) && list_all is_printable octets

-- the bytes `octets` of a text value, if `test`, the result of its check, is true, or else None. `value_of` uses it.
abbrev pub where_text : Bool → List ℕ → Option (List ℕ)
where_text test octets = if test then Some octets else None

-- the shortest bytes of the number that was read, if there is one and it is from `least` to `most`, or else None. `number_in` uses it.
abbrev pub where_number : ℕ → ℕ → Option ℕ → Option (List ℕ)
where_number least most None = None
where_number least most (Some n) = if is_between least most n then Some (uint_octets n) else None

-- the shortest bytes of the number that `octets` spells in decimal, if it is from `least` to `most`, or else None. Used for durations and flags.
abbrev pub number_in : ℕ → ℕ → List ℕ → Option (List ℕ)
number_in least most octets = where_number least most (number octets)

-- The byte `c` isn't zero, as names and titles require. Used by `has_no_zero` and `is_words`.
abbrev pub is_not_zero : ℕ → Bool
is_not_zero c = not (c == 0)

-- `value` is UTF-8 without a zero byte, as names and titles are. Values of `propedit` are checked with it.
abbrev pub is_words : List ℕ → Bool
is_words value = is_utf8 value && list_all is_not_zero value

-- `value` is a language code of three lower-case letters, as the property language requires. Used by `value_of`.
abbrev pub is_language : List ℕ → Bool
is_language value = length value == 3 && list_all is_lower value

-- the body of the child Element for `value`, as it is on the command line, or None if it isn't one of this kind. `set` and `add` of an edit use it.
abbrev pub value_of : ValueKind → List ℕ → Option (List ℕ)
value_of Words value = where_text (is_words value) value
value_of Language value = where_text (is_language value) value
value_of LanguageTag value = where_text (is_language_tag value) value
value_of Codec value = where_text (is_codec value) value
value_of Duration value = number_in 1 (2 ^ 48 - 1) value
value_of Flag value = number_in 0 1 value
