-- The parts of a message about Elements, sizes and damage. They are this project's.
use Rattle.std.specs.Prelude.{ℕ, ◌++◌, ◌==◌, ◌/◌, ◌%◌, nat_lt, nat_le, Bool, true, ◌&&◌, ◌||◌, if◌then◌else◌, List, ◌∷◌, flat_map, codes, unwrap_or}
use Rattle.std.specs.Char.{encode_utf8}
use Rattle.std.specs.Str.{chars}
use Rattle.std.specs.Fmt.{decimal, digits}
use Rattle.ebml_numbers.specs.declared.number.Size.{Size}
use Rattle.ebml_numbers.specs.declared.number.Size.TheVariants.{Known, Unknown}
use Rattle.mkv_schema.specs.Schema.{may_stand, name_of}
use Rattle.mkv_schema.specs.declared.ids.TheConstants.{SEGMENT}
use Rattle.mkv_io.specs.declared.damage.Damage.{Damage}
use Rattle.mkv_io.specs.Kind.{kind_name}
use Rattle.mkv_schema.specs.declared.element.Header.{Header}
use Rattle.sidecar_edit.specs.declared.outcome.Mark.{Mark}
use Rattle.sidecar_edit.specs.declared.outcome.Mark.TheVariants.{Length, Octet}

-- ---- names, and texts of files

-- The character `c` is a control character: U+0000 to U+001F, or U+007F to U+009F. `shown_char` uses it.
abbrev pub is_control : ℕ → Bool
is_control c = nat_lt c 0x20 || (nat_le 0x7F c && nat_lt c 0xA0)

-- the byte `octet` as `\x` and two digits, in upper-case hexadecimal. `shown_char` uses it.
abbrev pub escaped : ℕ → List ℕ
escaped octet = 0x5C ∷ (0x78 ∷ (digits 16 true (octet / 16) ++ digits 16 true (octet % 16)))

-- the character `c` in a message; a control character is printed as its bytes in UTF-8, each escaped. `shown_text` uses it.
abbrev pub shown_char : ℕ → List ℕ
shown_char c = if is_control c then flat_map escaped (encode_utf8 c) else encode_utf8 c

-- The file name or text of a file `text` in a message: it can't forge a message or control a terminal. All messages with a name have it.
abbrev pub shown_text : List ℕ → List ℕ
shown_text text = flat_map shown_char (chars text)

-- ---- Elements

-- the Element ID `id` in upper-case hexadecimal. Messages about Elements use it.
abbrev pub id_text : ℕ → List ℕ
id_text id = digits 16 true id

-- the Element with the ID `id` that a message is about. Refusals of a merge use it.
abbrev pub element_text : ℕ → List ℕ
element_text id = codes ", element " ++ id_text id

-- the Element ID `id` at a damaged place; 0 means that there is none. `damage_text` uses it.
abbrev pub damaged_id : ℕ → List ℕ
damaged_id id = if id == 0 then codes "-" else id_text id

-- the printed name of an Element with the ID `id` that the Matroska table doesn't have. The list of `info` uses it.
abbrev pub unknown_name : ℕ → List ℕ
unknown_name id = codes "0x" ++ id_text id

-- the printed name of the Element at level 0 with the ID `id`, in the list of `info`
abbrev pub level_0_name : ℕ → List ℕ
level_0_name id = unwrap_or (name_of id) (unknown_name id)

-- the printed name of the Element at level 1 with the ID `id`, in the list of `info`; only its ID if the Matroska table doesn't allow it in a Segment
abbrev pub level_1_name : ℕ → List ℕ
level_1_name id = if may_stand id SEGMENT then unwrap_or (name_of id) (unknown_name id) else unknown_name id

-- the size of an Element's data in bytes, in decimal, or `unknown`. `place_text` uses it.
abbrev pub size_text : Size → List ℕ
size_text (Known n) = decimal n
size_text Unknown = codes "unknown"

-- the offset of the Element `h` in the file, and the size of its data, in bytes. The list of `info` has it.
abbrev pub place_text : Header → List ℕ
place_text h = codes " at " ++ (decimal h.offset ++ (codes " size " ++ size_text h.size))

-- the damaged place `d` as a message prints it: its kind, Element ID and offset in the file, in bytes. Warnings and refusals have it. Used by
-- `damaged_line`.
abbrev pub damage_text : Damage → List ℕ
damage_text d = kind_name d.kind ++ (codes ", element " ++ (damaged_id d.id ++ (codes ", offset " ++ decimal d.offset)))

-- the difference between a file and the one that a journal was made for: the length, or a byte and its offset. `foreign_line` uses it.
abbrev pub mark_text : Mark → List ℕ
mark_text Length = codes "length"
mark_text (Octet at) = codes "octet " ++ decimal at

-- the track with the index `index` in the file, from 0, as `info` prints it. It has the name `type` of its TrackType, the CodecID `codec`, the
-- TrackNumber `number`, the TrackUID `uid` and the language `language`.
abbrev pub track_text : ℕ → List ℕ → List ℕ → ℕ → ℕ → List ℕ → List ℕ
track_text index type codec number uid language =
    codes "track " ++ (decimal index ++ (codes ": " ++ (type ++ (codes " " ++ (shown_text codec ++ (codes " number " ++ (decimal number ++ (codes " uid " ++ (decimal uid ++ (codes " language " ++ shown_text language))))))))))
