-- Codes of ASCII characters.
use Rattle.std.specs.Prelude.{ℕ, slice_index, codes}
use Prim.Native.String.{String}

-- the code of the one character of `text`, a text of one ASCII character, such as the separator of an option's value. Used by `is_plain` of
-- `splitter` and others.
abbrev pub char : String → ℕ
char text = slice_index (codes text) 0

-- the horizontal tab of ASCII, a blank in text files that are read. Used by `is_blank` of `text_formats`.
abbrev pub TAB : ℕ
TAB = 0x09

-- the line feed of ASCII, which ends each line of a text file that is written. Used by `put_pair` of `text_formats` and others.
abbrev pub LINE_FEED : ℕ
LINE_FEED = 0x0A

-- the space of ASCII, a blank in text files that are read. Used by `is_tail` of `text_formats`.
abbrev pub SPACE : ℕ
SPACE = 0x20

-- `#`, which begins a comment line in a timestamp file. Used by `is_passed` of `ext_times`.
abbrev pub HASH : ℕ
HASH = 0x23

-- `,`, which separates values in timestamp files, times of SubRip and lists on the command line. Used by `range` of `ext_times` and others.
abbrev pub COMMA : ℕ
COMMA = 0x2C

-- `-`, which begins an option or a negative number, and joins a range of numbers. Used by `time` of `ext_times` and others.
abbrev pub DASH : ℕ
DASH = 0x2D

-- `.`, which separates the fraction of a number and the extension of a file name. Used by `millionths` of `ext_times` and others.
abbrev pub POINT : ℕ
POINT = 0x2E

-- `0`; the digits of a number that is written follow it in ASCII. Used by `three_digits` of `splitter`.
abbrev pub DIGIT_0 : ℕ
DIGIT_0 = 0x30

-- `:`, which separates the hours, minutes and seconds of a time, and the track ID of an option's value. Used by `time_of` of `text_formats` and
-- others.
abbrev pub COLON : ℕ
COLON = 0x3A

-- `=`, which separates the name and the value of a property or of a simple chapter line. Used by `changed` of `mkv_args` and others.
abbrev pub EQUALS : ℕ
EQUALS = 0x3D
