-- Computed tracks of small Tracks Elements, and their use. A wrong definition fails here.
use Rattle.std.proofs.Common.{◌≡◌, ℕ, ◌+◌, ◌-◌, ◌^◌, true, false, length, List, [], ◌∷◌, ◌++◌, map, codes, replicate, Option, Some, None, Result, Ok, Err, refl}
use Rattle.std.specs.Int.Count.{count_leading_zeros}
use Rattle.std.specs.Str.{is_utf8, chars}
use lib.Utf8.{encode}
use Rattle.ebml_numbers.specs.Number.{id_at, size_at}
use Rattle.mkv_schema.specs.Table.{table}
use Rattle.mkv_schema.specs.Schema.{entry_of}
use Rattle.mkv_io.specs.declared.damage.Damage.{Damage}
use Rattle.mkv_io.specs.declared.damage.Kind.{Kind}
use Rattle.mkv_io.specs.declared.damage.Kind.TheVariants.{BadValue, MissingChild, RepeatedTrack, TooMany, Encoding, TrackScale}
use Rattle.mkv_schema.specs.Element.{element_in, damage}
use Rattle.mkv_io.specs.Results.{and_then, unless}
use Rattle.tree_format.specs.Node.{Node, leaf, master, nodes_of, offset_of}
use Rattle.tree_format.specs.Reading.{tree_of, grove, grove_within}
use Rattle.file_format.specs.Entry.{entries_of, number_of, uid_of, type_of, codec_of, language_of, default_duration_of}
use Rattle.file_format.specs.Refusal.{refusal_of, too_many}
use Rattle.file_format.specs.Encoding.{strips_headers, usable_prefix}
use Rattle.file_format.specs.TrackType.{type_name}

-- the values of an entry
pub record Said : Type 0 where
  pub number : ℕ
  pub uid : ℕ
  pub type : ℕ
  pub codec : List ℕ
  pub language : List ℕ
  pub default_duration : Option ℕ
  pub offset : ℕ

abbrev said : Node → Said
said e = record { number = number_of e; uid = uid_of e; type = type_of e; codec = codec_of e; language = language_of e; default_duration = default_duration_of e; offset = offset_of e }

-- the values of the entries of a Tracks Element with its header at 21 and its body at 26
abbrev tracks : List ℕ → Result (List Said) Damage
tracks body = and_then (tree_of 0x1654AE6B 21 body 26 65536) (λ tree. unless (refusal_of tree) (map said (entries_of tree)))

abbrev refused : Kind → ℕ → ℕ → Result (List Said) Damage
refused kind id offset = Err (damage kind id offset)

-- ---- Elements

-- an entry of fewer than 127 bytes
abbrev entry : List ℕ → List ℕ
entry body = 0xAE ∷ (0x80 + length body) ∷ body

abbrev number : ℕ → List ℕ
number n = 0xD7 ∷ 0x81 ∷ n ∷ []

abbrev uid : List ℕ
uid = 0x73 ∷ 0xC5 ∷ 0x81 ∷ 5 ∷ []

abbrev type : ℕ → List ℕ
type n = 0x83 ∷ 0x81 ∷ n ∷ []

-- A_OPUS
abbrev codec : List ℕ
codec = 0x86 ∷ 0x86 ∷ 0x41 ∷ 0x5F ∷ 0x4F ∷ 0x50 ∷ 0x55 ∷ 0x53 ∷ []

-- a DefaultDuration with the bytes `octets`
abbrev duration : List ℕ → List ℕ
duration octets = 0x23 ∷ 0xE3 ∷ 0x83 ∷ (0x80 + length octets) ∷ octets

abbrev language : List ℕ → List ℕ
language text = 0x22 ∷ 0xB5 ∷ 0x9C ∷ (0x80 + length text) ∷ text

abbrev language_bcp47 : List ℕ → List ℕ
language_bcp47 text = 0x22 ∷ 0xB5 ∷ 0x9D ∷ (0x80 + length text) ∷ text

-- a DefaultDuration of 2^48 nanoseconds, 11 bytes
abbrev long_duration : List ℕ
long_duration = duration (1 ∷ replicate 6 0)

-- an audio track with the number `n` and the type `k`, 18 bytes
abbrev track : ℕ → ℕ → List ℕ
track n k = number n ++ uid ++ type k ++ codec

abbrev opus : List ℕ
opus = track 1 2

-- the values of a track with this number and type at this offset
abbrev track_said : ℕ → ℕ → ℕ → Said
track_said n k offset = record { number = n; uid = 5; type = k; codec = codes "A_OPUS"; language = codes "eng"; default_duration = None; offset = offset }

abbrev opus_said : Said
opus_said = track_said 1 2 26

-- a ContentEncodings that strips two bytes
abbrev encodings : List ℕ
encodings = 0x6D ∷ 0x80 ∷ 0x8F ∷ 0x62 ∷ 0x40 ∷ 0x8C ∷ 0x50 ∷ 0x34 ∷ 0x89 ∷ 0x42 ∷ 0x54 ∷ 0x81 ∷ 3 ∷ 0x42 ∷ 0x55 ∷ 0x82 ∷ 0x0B ∷ 0x77 ∷ []

-- ---- entries that are read

-- The entry with the body `body` is read as the only track.
abbrev one : List ℕ → Said → Type 0
one body track = tracks (entry body) ≡ Ok (track ∷ [])

-- the values of an audio track with more Elements
abbrev in_language : List ℕ → Said
in_language text = record opus_said { language = text }

abbrev lasting : ℕ → Said
lasting n = record opus_said { default_duration = Some n }

pub record AreRead : Type 0 where
  pub none : tracks [] ≡ Ok []
  pub audio : tracks (0xAE ∷ 0x92 ∷ 0xD7 ∷ 0x81 ∷ 1 ∷ 0x73 ∷ 0xC5 ∷ 0x81 ∷ 5 ∷ 0x83 ∷ 0x81 ∷ 2 ∷ 0x86 ∷ 0x86 ∷ 0x41 ∷ 0x5F ∷ 0x4F ∷ 0x50 ∷ 0x55 ∷ 0x53 ∷ []) ≡ Ok (opus_said ∷ [])
  pub stripped : one (opus ++ encodings) opus_said
  pub two : tracks (entry opus ++ (0xEC ∷ 0x80 ∷ []) ++ entry (track 2 1)) ≡ Ok (opus_said ∷ track_said 2 1 48 ∷ [])
  pub no_uid : one (number 1 ++ type 2 ++ codec) (record opus_said { uid = 0 })
  pub empty_type : one (number 1 ++ uid ++ (0x83 ∷ 0x80 ∷ []) ++ codec) (record opus_said { type = 0 })
  pub any_type : one (track 1 18) (track_said 1 18 26)
  pub own_language : one (opus ++ language (codes "fre")) (in_language (codes "fre"))
  pub language_to_zero : one (opus ++ language (0x66 ∷ 0x72 ∷ 0 ∷ 0x65 ∷ [])) (in_language (codes "fr"))
  pub empty_language : one (opus ++ language []) (in_language [])
  pub shown_language : one (opus ++ language (codes "fre") ++ language_bcp47 (codes "fr")) (in_language (codes "fr"))
  pub shown_language_first : one (language_bcp47 (codes "fr") ++ language (codes "fre") ++ opus) (in_language (codes "fr"))
  pub shown_language_alone : one (opus ++ language_bcp47 (codes "fr")) (in_language (codes "fr"))
  pub empty_shown_language : one (opus ++ language (codes "fre") ++ language_bcp47 []) (in_language [])
  pub longest_duration : one (opus ++ duration (replicate 6 0xFF)) (lasting (2 ^ 48 - 1))
  pub empty_duration : one (opus ++ duration []) (lasting 0)
  pub second_number : one (opus ++ number 0) opus_said
  pub second_duration : one (opus ++ duration (7 ∷ []) ++ long_duration) (lasting 7)

pub reads : AreRead
unfolding is_utf8 chars encode element_in id_at size_at entry_of table count_leading_zeros grove grove_within
reads = record {
  none = refl;
  audio = refl;
  stripped = refl;
  two = refl;
  no_uid = refl;
  empty_type = refl;
  any_type = refl;
  own_language = refl;
  language_to_zero = refl;
  empty_language = refl;
  shown_language = refl;
  shown_language_first = refl;
  shown_language_alone = refl;
  empty_shown_language = refl;
  longest_duration = refl;
  empty_duration = refl;
  second_number = refl;
  second_duration = refl;
}

-- ---- entries that are refused

pub record AreRefused : Type 0 where
  pub number_0 : tracks (entry (track 0 2)) ≡ refused BadValue 0xD7 28
  pub empty_number : tracks (entry ((0xD7 ∷ 0x80 ∷ []) ++ type 2 ++ codec)) ≡ refused BadValue 0xD7 28
  pub too_long_duration : tracks (entry (opus ++ long_duration)) ≡ refused BadValue 0x23E383 46
  pub duration_first : tracks (entry (long_duration ++ track 0 2)) ≡ refused BadValue 0x23E383 28
  pub number_first : tracks (entry (track 0 2 ++ long_duration)) ≡ refused BadValue 0xD7 28
  pub value_of_a_later_entry : tracks (entry (number 1 ++ type 2) ++ entry (track 0 2)) ≡ refused BadValue 0xD7 36
  pub no_number : tracks (entry (uid ++ type 2 ++ codec)) ≡ refused MissingChild 0xD7 26
  pub no_type : tracks (entry (number 1 ++ codec)) ≡ refused MissingChild 0x83 26
  pub no_codec : tracks (entry (type 2 ++ number 1)) ≡ refused MissingChild 0x86 26
  pub empty_entry : tracks (entry []) ≡ refused MissingChild 0xD7 26
  pub no_codec_first : tracks (entry (number 1 ++ type 2) ++ entry []) ≡ refused MissingChild 0x86 26
  pub missing_in_a_later_entry : tracks (entry opus ++ entry opus ++ entry []) ≡ refused MissingChild 0xD7 66
  pub repeated : tracks (entry opus ++ entry (track 1 1)) ≡ refused RepeatedTrack 0xD7 46
  pub repeated_later : tracks (entry (track 3 2) ++ entry opus ++ entry opus ++ entry (track 3 2)) ≡ refused RepeatedTrack 0xD7 66

pub refuses : AreRefused
unfolding is_utf8 chars encode element_in id_at size_at entry_of table count_leading_zeros grove grove_within
refuses = record {
  number_0 = refl;
  empty_number = refl;
  too_long_duration = refl;
  duration_first = refl;
  number_first = refl;
  value_of_a_later_entry = refl;
  no_number = refl;
  no_type = refl;
  no_codec = refl;
  empty_entry = refl;
  no_codec_first = refl;
  missing_in_a_later_entry = refl;
  repeated = refl;
  repeated_later = refl;
}

-- ---- frames that can be used

-- an Element with an ID of two bytes and a body of fewer than 127 bytes
abbrev element : ℕ → ℕ → List ℕ → List ℕ
element first second body = first ∷ second ∷ (0x80 + length body) ∷ body

-- a ContentEncodings with the Elements `body`
abbrev all_encodings : List ℕ → List ℕ
all_encodings body = element 0x6D 0x80 body

abbrev encoding : List ℕ → List ℕ
encoding body = element 0x62 0x40 body

abbrev scope : ℕ → List ℕ
scope n = element 0x50 0x32 (n ∷ [])

abbrev encoding_type : ℕ → List ℕ
encoding_type n = element 0x50 0x33 (n ∷ [])

abbrev compression : List ℕ → List ℕ
compression body = element 0x50 0x34 body

abbrev algorithm : ℕ → List ℕ
algorithm n = element 0x42 0x54 (n ∷ [])

abbrev settings : List ℕ → List ℕ
settings octets = element 0x42 0x55 octets

-- header stripping of one byte
abbrev stripping : List ℕ
stripping = compression (algorithm 3 ++ settings (7 ∷ []))

-- a TrackTimestampScale
abbrev scale : List ℕ → List ℕ
scale octets = 0x23 ∷ 0x31 ∷ 0x4F ∷ (0x80 + length octets) ∷ octets

abbrev two : List ℕ
two = 0x40 ∷ 0 ∷ 0 ∷ 0 ∷ []

-- the bytes to put back before the frames of an audio track; its entry is at 26, and has the Elements `more` from 46 on
abbrev usable : List ℕ → Result (List ℕ) Damage
usable more = and_then (tree_of 0xAE 26 (opus ++ more) 28 65536) usable_prefix

abbrev bad_encoding : ℕ → Result (List ℕ) Damage
bad_encoding offset = Err (damage Encoding 0x6D80 offset)

abbrev bad_scale : ℕ → Result (List ℕ) Damage
bad_scale offset = Err (damage TrackScale 0x23314F offset)

pub record AreUsable : Type 0 where
  pub plain : usable [] ≡ Ok []
  pub two_octets : usable encodings ≡ Ok (0x0B ∷ 0x77 ∷ [])
  pub in_words : usable (all_encodings (encoding (scope 1 ++ encoding_type 0 ++ stripping))) ≡ Ok (7 ∷ [])
  pub no_settings : usable (all_encodings (encoding (compression (algorithm 3)))) ≡ Ok []
  pub no_encoding : usable (all_encodings []) ≡ Ok []
  pub second_encodings : usable (all_encodings [] ++ all_encodings (encoding [])) ≡ Ok []
  pub second_settings : usable (all_encodings (encoding (compression (algorithm 3 ++ settings (7 ∷ []) ++ settings (8 ∷ []))))) ≡ Ok (7 ∷ [])
  pub empty_scale : usable (scale []) ≡ Ok []
  pub scale_of_4 : usable (scale (0x3F ∷ 0x80 ∷ 0 ∷ 0 ∷ [])) ≡ Ok []
  pub scale_of_8 : usable (scale (0x3F ∷ 0xF0 ∷ replicate 6 0) ++ encodings) ≡ Ok (0x0B ∷ 0x77 ∷ [])
  pub second_scale : usable (scale [] ++ scale two) ≡ Ok []

pub usables : AreUsable
unfolding is_utf8 chars encode element_in id_at size_at entry_of table count_leading_zeros grove grove_within
usables = record {
  plain = refl;
  two_octets = refl;
  in_words = refl;
  no_settings = refl;
  no_encoding = refl;
  second_encodings = refl;
  second_settings = refl;
  empty_scale = refl;
  scale_of_4 = refl;
  scale_of_8 = refl;
  second_scale = refl;
}

pub record AreUnusable : Type 0 where
  pub no_compression : usable (all_encodings (encoding [])) ≡ bad_encoding 46
  pub zlib_by_default : usable (all_encodings (encoding (compression []))) ≡ bad_encoding 46
  pub zlib : usable (all_encodings (encoding (compression (algorithm 0)))) ≡ bad_encoding 46
  pub encrypted : usable (all_encodings (encoding (encoding_type 1 ++ stripping))) ≡ bad_encoding 46
  pub scope_of_private : usable (all_encodings (encoding (scope 2 ++ stripping))) ≡ bad_encoding 46
  pub scope_of_both : usable (all_encodings (encoding (scope 3 ++ stripping))) ≡ bad_encoding 46
  pub two_encodings : usable (all_encodings (encoding stripping ++ encoding stripping)) ≡ bad_encoding 46
  pub doubled : usable (scale two) ≡ bad_scale 46
  pub one_of_another_width : usable (scale (0x3F ∷ 0xF0 ∷ 0 ∷ 0 ∷ [])) ≡ bad_scale 46
  pub encoding_first : usable (scale two ++ all_encodings (encoding [])) ≡ bad_encoding 54
  pub scale_behind : usable (encodings ++ scale two) ≡ bad_scale 64

pub unusables : AreUnusable
unfolding is_utf8 chars encode element_in id_at size_at entry_of table count_leading_zeros grove grove_within
unusables = record {
  no_compression = refl;
  zlib_by_default = refl;
  zlib = refl;
  encrypted = refl;
  scope_of_private = refl;
  scope_of_both = refl;
  two_encodings = refl;
  doubled = refl;
  one_of_another_width = refl;
  encoding_first = refl;
  scale_behind = refl;
}

-- a ContentEncoding that strips `n` bytes
abbrev stripped : ℕ → Node
stripped n = master 0x6240 70 (nodes_of (master 0x5034 73 (nodes_of (leaf 0x4254 76 (3 ∷ []) ∷ leaf 0x4255 80 (replicate n 7) ∷ [])) ∷ []))

pub record AreLimits : Type 0 where
  pub most : strips_headers (stripped 4096) ≡ true
  pub one_more : strips_headers (stripped 4097) ≡ false

pub limits : AreLimits
unfolding entry_of table
limits = record { most = refl; one_more = refl }

-- ---- the maximum number of entries

abbrev many : ℕ → Option Damage
many n = too_many (replicate n (master 0xAE 70 (nodes_of [])))

pub record AreMany : Type 0 where
  pub most : many 1024 ≡ None
  pub one_more : many 1025 ≡ Some (damage TooMany 0xAE 70)

pub counts : AreMany
counts = record { most = refl; one_more = refl }

-- ---- the names of types

pub record AreNames : Type 0 where
  pub video : type_name 1 ≡ codes "video"
  pub audio : type_name 2 ≡ codes "audio"
  pub subtitle : type_name 17 ≡ codes "subtitles"
  pub none : type_name 0 ≡ codes "other"
  pub complex : type_name 3 ≡ codes "other"
  pub logo : type_name 16 ≡ codes "other"
  pub buttons : type_name 18 ≡ codes "other"
  pub metadata : type_name 33 ≡ codes "other"

pub names : AreNames
unfolding type_name
names = record { video = refl; audio = refl; subtitle = refl; none = refl; complex = refl; logo = refl; buttons = refl; metadata = refl }
