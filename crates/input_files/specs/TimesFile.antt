-- The timestamp files of a merge (`--timestamps ID:FILE`). Their limits are this project's.
use Rattle.std.specs.Prelude.{ℕ, suc, ◌-◌, min, List, [], ◌∷◌, ◌++◌, length, map, sum_by, Option, Some, None, Result, Ok, Err}
use Rattle.ext_times.specs.Listing.{Listing, listing}
use Rattle.requests.specs.declared.merge.FileWords.{FileWords}
use Rattle.input_files.specs.TextFile.{octets_within, text_file}
use Rattle.input_files.specs.declared.limits.TheConstants.{MAX_ALL_TIMES_LEN, MAX_TIMES_LEN}
use Rattle.input_files.specs.declared.refusal.TextRefusal.{TextRefusal}
use Rattle.input_files.specs.declared.times_file.TimesFile.{TimesFile}
use Rattle.input_files.specs.declared.times_file.TimesGiven.{TimesGiven}
use Rattle.input_files.specs.declared.times_file.TimesGiven.TheVariants.{Missing, Refused, Read}
use Rattle.input_files.specs.declared.times_file.TimesName.{TimesName}

-- ---- timestamp files

-- the timestamp file that an option names for the input with the index `input`. `pair` has the index of the track, from 0, and the file's name. For
-- `named_from`, when `merge` reads its timestamp files.
abbrev pub named_of : ℕ → ℕ × List ℕ → TimesName
named_of input pair = record { input = input; id = pair.0; name = pair.1 }

-- the timestamp files that inputs name, in their order; the first input has the index `input`, from 0. For `times_named`, when `merge` reads its
-- timestamp files.
abbrev pub named_from : ℕ → List FileWords → List TimesName
named_from input [] = []
named_from input (w ∷ ws) = map (named_of input) w.times ++ named_from (suc input) ws

-- the timestamp files that the inputs `words` name, in the order of the inputs. `merge` reads them.
abbrev pub times_named : List FileWords → List TimesName
times_named words = named_from 0 words

-- the names of the timestamp files `times`. No output of `merge` may have one of them.
abbrev pub times_names : List TimesName → List (List ℕ)
times_names times = map (λ (n : TimesName). n.name) times

-- ---- results

-- the result of reading a timestamp file, given the times that its text makes, or the refusal of its text. For `given_with`, when `merge` reads its
-- timestamp files.
abbrev pub given_by : Result Listing TextRefusal → TimesGiven
given_by (Ok times) = Read times
given_by (Err why) = Refused why

-- the result of reading a timestamp file of at most `room` bytes with the given content; without one (None) the file is missing. For `times_from`,
-- when `merge` reads its timestamp files.
abbrev pub given_with : ℕ → Option (List ℕ) → TimesGiven
given_with room None = Missing
given_with room (Some bytes) = given_by (text_file (min room MAX_TIMES_LEN) listing bytes)

-- the length of a content in bytes, or 0 if there is none. For `times_from`, when `merge` reads its timestamp files.
abbrev pub size_with : Option (List ℕ) → ℕ
size_with None = 0
size_with (Some bytes) = length bytes

-- the results of reading the timestamp files in the list in sequence, of at most `room` bytes together; `world` has the content of each name. For
-- `times_files`, when `merge` reads its timestamp files.
abbrev pub times_from : (List ℕ → Option (List ℕ)) → ℕ → List TimesName → List TimesFile
times_from world room [] = []
times_from world room (n ∷ ns) =
    record { named = n; given = given_with room (world n.name) } ∷ times_from world (room - size_with (world n.name)) ns

-- the results of reading the timestamp files that the inputs `words` name; `world` has the content of each name. The contract of `read_times_files`
-- states it.
abbrev pub times_files : (List ℕ → Option (List ℕ)) → List FileWords → List TimesFile
times_files world words = times_from world MAX_ALL_TIMES_LEN (times_named words)

-- ---- bytes that are read

-- a limit on the bytes that are read of a timestamp file with the given content, if it exists. For `times_octets`, when `merge` reads its timestamp
-- files.
abbrev pub octets_with : Option (List ℕ) → ℕ
octets_with None = 0
octets_with (Some bytes) = octets_within MAX_TIMES_LEN (length bytes)

-- a limit on the bytes that are read of all timestamp files that the inputs `words` name; `world` has the content of each name. The contract of
-- `read_times_files` bounds its reading by it.
abbrev pub times_octets : (List ℕ → Option (List ℕ)) → List FileWords → ℕ
times_octets world words = sum_by (λ (n : TimesName). octets_with (world n.name)) (times_named words)
