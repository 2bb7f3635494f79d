-- The values of leaves: RFC 8794, section 7 (EBML Element Types).
use Rattle.std.specs.Prelude.{ℕ, ◌==◌, nat_le, Bool, true, not, ◌||◌, if◌then◌else◌, List, [], ◌∷◌, length, take_while, find, Option, Some, unwrap_or}
use Rattle.std.specs.Option.{option_map_or}
use Rattle.std.specs.Str.{is_utf8}
use Rattle.ebml_numbers.specs.Number.{uint_of}
use Rattle.mkv_schema.specs.declared.kind.ElementKind.{ElementKind}
use Rattle.mkv_schema.specs.declared.kind.ElementKind.TheVariants.{Master, Uint, Int, Float, Ascii, Utf8, Date, Binary}
use Rattle.mkv_schema.specs.Schema.{kind_of, may_stand, uint_default, text_default}
use Rattle.mkv_schema.specs.declared.element.Header.{Header}
use Rattle.mkv_schema.specs.Element.{octets_between, stated_end}

-- the content of the Element `h` in the content `bytes` of its file. Contracts of readers compare their buffers with it.
abbrev pub body_of : List ℕ → Header → List ℕ
body_of bytes h = octets_between bytes h.body (stated_end h)

-- the text in `body`, the bytes of a leaf, up to its first zero byte (sections 7.4, String Element, and 7.5, UTF-8 Element). All readers of texts use
-- it.
abbrev pub text_of : List ℕ → List ℕ
text_of body = take_while (λ octet. not (octet == 0)) body

-- The bytes `body` of a leaf are a value of the given kind. A String is read as UTF-8 too. `is_known_value` uses it.
abbrev pub is_value : ElementKind → List ℕ → Bool
is_value Master body = true
is_value Uint body = nat_le (length body) 8
is_value Int body = nat_le (length body) 8
is_value Float body = length body == 0 || length body == 4 || length body == 8
is_value Ascii body = is_utf8 (text_of body)
is_value Utf8 body = is_utf8 (text_of body)
is_value Date body = length body == 0 || length body == 8
is_value Binary body = true

-- The bytes `body` are a value of the Element's kind, if the table has `id` under `parent`. Any bytes are the body of another Element. Readers refuse
-- a leaf otherwise. Used by `bad_value` and others.
abbrev pub is_known_value : ℕ → ℕ → List ℕ → Bool
is_known_value parent id body = if may_stand id parent then option_map_or (λ kind. is_value kind body) (kind_of id) true else true

-- the value of the unsigned integer Element `id` with the given bytes; an empty one is the table's default, or 0. Readers of leaves use it.
abbrev pub uint_value : ℕ → List ℕ → ℕ
uint_value id [] = unwrap_or (uint_default id) 0
uint_value id (octet ∷ octets) = uint_of (octet ∷ octets)

-- the first Element with the ID `id` in `list`, which gives the value, or None if there is none. Elements of level 1 and values of the EBML header
-- are found with it. Used by `place_of`, `uint_in` and others.
abbrev pub first_of : ℕ → List Header → Option Header
first_of id list = find (λ h. h.id == id) list

-- the unsigned integer that is the first Element with the ID `id` in `list`, or else the table's default, or 0. `bytes` is the content of the file.
-- The EBML header's versions are read so.
abbrev pub uint_in : List ℕ → ℕ → List Header → ℕ
uint_in bytes id list = option_map_or (λ h. uint_value id (body_of bytes h)) (first_of id list) (unwrap_or (uint_default id) 0)

-- the text that is the first Element with the ID `id` in `list`, or else the table's default, if any, or None. `bytes` is the content of the file.
-- The DocType is read so.
abbrev pub text_in : List ℕ → ℕ → List Header → Option (List ℕ)
text_in bytes id list = option_map_or (λ h. Some (text_of (body_of bytes h))) (first_of id list) (text_default id)
