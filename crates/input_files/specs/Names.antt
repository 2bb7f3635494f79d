-- The files of a merge that are read as SubRip. The rule is this project's. RFC 8794, section 11.2.1 (EBML), defines the start of an EBML header.
use Rattle.std.specs.Prelude.{ℕ, nat_eq, Bool, not, ◌&&◌, List, [], ◌∷◌, codes}
use Rattle.std.specs.List.{ends_with, starts_with}

-- The file name `name` ends in `.srt`. For `is_srt`, when `merge` chooses the reader of an input.
abbrev pub is_srt_name : List ℕ → Bool
is_srt_name name = ends_with nat_eq name (codes ".srt")

-- The content `bytes` begins with the four bytes of an EBML header's ID. For `is_srt`, when `merge` chooses the reader of an input.
abbrev pub begins_ebml : List ℕ → Bool
begins_ebml bytes = starts_with nat_eq bytes (0x1A ∷ 0x45 ∷ 0xDF ∷ 0xA3 ∷ [])

-- The input with the name `name` and the content `bytes` is read as SubRip. The name ends in `.srt`, and the content doesn't begin with an EBML
-- header. For the choice of the reader of an input of `merge`.
abbrev pub is_srt : List ℕ → List ℕ → Bool
is_srt name bytes = is_srt_name name && not (begins_ebml bytes)
