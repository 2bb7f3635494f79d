-- Computed meanings of command lines, so that a wrong definition fails the check. The expected commands were written by hand.
use Rattle.std.proofs.Common.{◌≡◌, ℕ, ◌==◌, true, false, List, [], ◌∷◌, ◌++◌, replicate, codes, Option, Some, None, Result, Ok, map, refl}
use Rattle.std.specs.Prelude.{pos, neg_ℤ}
use Rattle.std.specs.List.{flat_map, slice_split}
use Rattle.requests.specs.declared.edit.Change.{Change}
use Rattle.requests.specs.declared.edit.Change.TheVariants.{Set, Add, Delete}
use Rattle.requests.specs.declared.edit.Edit.{Edit}
use Rattle.requests.specs.declared.edit.Selector.{Selector}
use Rattle.requests.specs.declared.edit.Selector.TheVariants.{Info, Nth, Typed, Uid, Number}
use Rattle.requests.specs.declared.job.Form.TheVariants as form
use Rattle.requests.specs.declared.job.Job.TheVariants as jobs
use Rattle.requests.specs.declared.job.Target.{Target}
use Rattle.requests.specs.declared.track.Select.TheVariants.{These, AllBut, Off}
use Rattle.requests.specs.declared.split.SpanWords.{SpanWords}
use Rattle.requests.specs.declared.split.SplitWords.{SplitWords}
use Rattle.requests.specs.declared.split.SplitWords.TheVariants as splits
use Rattle.word_values.specs.declared.usage.Usage.{Usage}
use Rattle.word_values.specs.declared.usage.Why.TheVariants.{BadValue}
use Rattle.requests.specs.declared.track.CueWord.TheVariants.{Never, Key, All as EachCue}
use Rattle.requests.specs.declared.merge.FileWords.{FileWords}
use Rattle.requests.specs.Plain.{plain_file, plain_words}
use Rattle.requests.specs.declared.merge.MergeWords.{MergeWords}
use Rattle.mkv_args.specs.declared.command.Command.{Command}
use Rattle.mkv_args.specs.declared.command.Command.TheVariants as commands
use Rattle.mkv_args.specs.declared.commands.Verb.TheVariants as verb
use Rattle.word_values.specs.Answers.{wrong}
use Rattle.mkv_io.specs.Octets.{cut}
use Rattle.word_values.specs.Numbers.{amount, clock, delay, delay_size, fraction, seconds, minutes_or_seconds, size, time, uuid}
use Rattle.requests.specs.Decimal.{number, whole}
use Rattle.word_values.specs.Lists.{chapters as chapters_split, duration, ids, numbers, span, spans, split, split_of, times, uuids}
use Rattle.word_values.specs.Values.{cluster_length, cue_word, language, scale, text, track_and_rest, track_flag, track_value, value_of}
use Rattle.merge_words.specs.Options.{meaning_of, table}
use Rattle.merge_words.specs.Items.{append_at, file_at, item_at, option_at, since}
use Rattle.merge_words.specs.Files.{file, named_in}
use Rattle.merge_words.specs.Output.{merge_words}
use Rattle.merge_words.specs.Merge.{complete, items, merged}
use Rattle.mkv_args.specs.Commands.{commands as verbs}
use Rattle.mkv_args.specs.Extract.{chapters, extract, job, job_of, modes, target, targets, tracks}
use Rattle.mkv_args.specs.Merge.{beside, identify, merge}
use Rattle.mkv_args.specs.Propedit.{edits, first_section, place, propedit, selector, step_of, steps, track, typed}
use Rattle.mkv_args.specs.Words.{alone, blocks_at, command, command_named, first_command, generate, info, only_file, recover, reindex}

-- ---- rows of a table

-- A command line, with one space between words, and its meaning.
abbrev Row : Type 0
Row = List ℕ × Result Command Usage

-- Each command line has the meaning beside it.
abbrev Hold : List Row → Type 0
Hold rows = map (λ (row : Row). command (slice_split (λ b. b == 32) row.0)) rows ≡ map (λ (row : Row). row.1) rows

-- The command line `line` asks for `means`.
abbrev asks : List ℕ → Command → Row
asks line means = (line, Ok means)

-- Argument `word` of `line` isn't a value that its option takes.
abbrev refused : List ℕ → ℕ → Row
refused line word = (line, wrong word BadValue)

-- a merge of `files` to `output` without options
abbrev merging : List ℕ → List FileWords → MergeWords
merging output files = plain_words output None files

-- `line` asks for a merge of `files` to `output` without options.
abbrev asks_merge : List ℕ → List ℕ → List FileWords → Row
asks_merge line output files = asks line (commands.Merge (merging output files))

-- `line` asks for a merge of the file `f` to `o`, split by `division`.
abbrev asks_split : List ℕ → SplitWords → Row
asks_split line division = asks line (commands.Merge (record (merging (codes "o") (plain_file (codes "f") ∷ [])) { split = Some division }))

-- `line` asks for a merge of one file to `o`, with the options in `words`.
abbrev asks_file : List ℕ → FileWords → Row
asks_file line words = asks_merge line (codes "o") (words ∷ [])

abbrev taken : ℕ → List ℕ → Target
taken id name = record { id = id; name = name }

abbrev edited : Selector → Change → List ℕ → List ℕ → Edit
edited spot how property words = record { place = spot; change = how; name = property; value = words }

abbrev stretch : ℕ → Option ℕ → SpanWords
stretch start end = record { start = start; end = end }

-- Commands without arguments, and those that take a name or a number.
pub single-words : Hold (
    asks (codes "-h") (commands.Help None) ∷
    asks (codes "--help") (commands.Help None) ∷
    asks (codes "--version") commands.Version ∷
    asks (codes "info f.mkv") (commands.Info (codes "f.mkv")) ∷
    asks (codes "info --help") (commands.Help (Some verb.Info)) ∷
    asks (codes "merge --help") (commands.Help (Some verb.Merge)) ∷
    asks (codes "extract --help") (commands.Help (Some verb.Extract)) ∷
    asks (codes "propedit --help") (commands.Help (Some verb.Propedit)) ∷
    asks (codes "recover --help") (commands.Help (Some verb.Recover)) ∷
    asks (codes "reindex --help") (commands.Help (Some verb.Reindex)) ∷
    asks (codes "generate --help") (commands.Help (Some verb.Generate)) ∷
    asks (codes "info -") (commands.Info (codes "-")) ∷
    asks (codes "info ") (commands.Info []) ∷
    asks (codes "info +") (commands.Info (codes "+")) ∷
    asks (codes "recover f.mkv") (commands.Recover (codes "f.mkv")) ∷
    asks (codes "reindex f.mkv") (commands.Reindex (codes "f.mkv")) ∷
    asks (codes "generate 500 g") (commands.Generate 500 (codes "g")) ∷
    asks (codes "generate 1 g") (commands.Generate 1 (codes "g")) ∷
    asks (codes "generate 100000 g") (commands.Generate 100000 (codes "g")) ∷
    asks (codes "generate 000007 -g") (commands.Generate 7 (codes "-g")) ∷
    [])
unfolding command first_command command_named verbs info only_file alone recover reindex generate blocks_at number whole
single-words = refl

-- `extract`
pub extractions : Hold (
    asks (codes "extract f tracks 0:a 1:b") (commands.Extract (codes "f") (jobs.Tracks form.ByCodec (taken 0 (codes "a") ∷ taken 1 (codes "b") ∷ []))) ∷
    asks (codes "extract f tracks --raw 0:r") (commands.Extract (codes "f") (jobs.Tracks form.Raw (taken 0 (codes "r") ∷ []))) ∷
    asks (codes "extract f tracks --fullraw 7:r 0:s") (commands.Extract (codes "f") (jobs.Tracks form.Full (taken 7 (codes "r") ∷ taken 0 (codes "s") ∷ []))) ∷
    asks (codes "extract f tracks 0:") (commands.Extract (codes "f") (jobs.Tracks form.ByCodec (taken 0 [] ∷ []))) ∷
    asks (codes "extract f tracks 0:a:b") (commands.Extract (codes "f") (jobs.Tracks form.ByCodec (taken 0 (codes "a:b") ∷ []))) ∷
    asks (codes "extract f tracks 999999999999999999:r") (commands.Extract (codes "f") (jobs.Tracks form.ByCodec (taken 999999999999999999 (codes "r") ∷ []))) ∷
    asks (codes "extract f timestamps_v2 0:t") (commands.Extract (codes "f") (jobs.Tracks form.Times (taken 0 (codes "t") ∷ []))) ∷
    asks (codes "extract f cues 0:c 0:d") (commands.Extract (codes "f") (jobs.Cues (taken 0 (codes "c") ∷ taken 0 (codes "d") ∷ []))) ∷
    asks (codes "extract f attachments 1:x 2:y") (commands.Extract (codes "f") (jobs.Attachments (taken 1 (codes "x") ∷ taken 2 (codes "y") ∷ []))) ∷
    asks (codes "extract f chapters --simple c.txt") (commands.Extract (codes "f") (jobs.Chapters (codes "c.txt"))) ∷
    asks (codes "extract f chapters --simple -c") (commands.Extract (codes "f") (jobs.Chapters (codes "-c"))) ∷
    [])
unfolding command first_command command_named verbs extract modes job job_of tracks targets target chapters track_and_rest cut number whole
extractions = refl

-- `propedit`
pub changes : Hold (
    asks (codes "propedit f --edit info --set title=x") (commands.Propedit (codes "f") (edited Info Set (codes "title") (codes "x") ∷ [])) ∷
    asks (codes "propedit f -e info -s title=a=b -a name= -d muxing-application") (commands.Propedit (codes "f") (edited Info Set (codes "title") (codes "a=b") ∷ edited Info Add (codes "name") [] ∷ edited Info Delete (codes "muxing-application") [] ∷ [])) ∷
    asks (codes "propedit f -e track:2 --add name=x -e track:v1 --delete title=x") (commands.Propedit (codes "f") (edited (Nth 2) Add (codes "name") (codes "x") ∷ edited (Typed 1 1) Delete (codes "title=x") [] ∷ [])) ∷
    asks (codes "propedit f -e track:a03 -s n=v -e track:s1 -s n=v") (commands.Propedit (codes "f") (edited (Typed 2 3) Set (codes "n") (codes "v") ∷ edited (Typed 17 1) Set (codes "n") (codes "v") ∷ [])) ∷
    asks (codes "propedit f -e track:=0 -s n=v -e track:@09 -s n=v") (commands.Propedit (codes "f") (edited (Uid 0) Set (codes "n") (codes "v") ∷ edited (Number 9) Set (codes "n") (codes "v") ∷ [])) ∷
    asks (codes "propedit f -e info -s =v") (commands.Propedit (codes "f") (edited Info Set [] (codes "v") ∷ [])) ∷
    [])
unfolding command first_command command_named verbs propedit edits first_section steps step_of selector track typed place cut number whole
changes = refl

-- `merge`, options of the output
pub outputs : Hold (
    asks_merge (codes "merge -o out.mkv s1.mkv") (codes "out.mkv") (plain_file (codes "s1.mkv") ∷ []) ∷
    asks_merge (codes "merge s1.mkv --output out.mkv") (codes "out.mkv") (plain_file (codes "s1.mkv") ∷ []) ∷
    asks_merge (codes "merge -o  s1.mkv") [] (plain_file (codes "s1.mkv") ∷ []) ∷
    asks_merge (codes "merge -o out.mkv -") (codes "out.mkv") (plain_file (codes "-") ∷ []) ∷
    asks_merge (codes "merge -o o  f") (codes "o") (plain_file [] ∷ plain_file (codes "f") ∷ []) ∷
    asks_file (codes "merge  -o o") (plain_file []) ∷
    refused (codes "merge -o o --title a" ++ 0 ∷ codes "b f") 4 ∷
    asks (codes "merge -o o --chapters a" ++ 0 ∷ codes "b f") (commands.Merge (record (merging (codes "o") (plain_file (codes "f") ∷ [])) { chapters = Some (97 ∷ 0 ∷ 98 ∷ []) })) ∷
    asks (codes "merge -w -o w.webm s1.mkv") (commands.Merge (record (merging (codes "w.webm") (plain_file (codes "s1.mkv") ∷ [])) { webm = true })) ∷
    asks (codes "merge -o o --title x --chapters c.txt f") (commands.Merge (record (merging (codes "o") (plain_file (codes "f") ∷ [])) { title = Some (codes "x"); chapters = Some (codes "c.txt") })) ∷
    asks (codes "merge -o o --title  f") (commands.Merge (record (merging (codes "o") (plain_file (codes "f") ∷ [])) { title = Some [] })) ∷
    asks (codes "merge -o o --chapters -c f") (commands.Merge (record (merging (codes "o") (plain_file (codes "f") ∷ [])) { chapters = Some (codes "-c") })) ∷
    asks (codes "merge -o o --timestamp-scale 1000 f") (commands.Merge (record (merging (codes "o") (plain_file (codes "f") ∷ [])) { scale = 1000 })) ∷
    asks (codes "merge -o o --timestamp-scale 010000000 f") (commands.Merge (record (merging (codes "o") (plain_file (codes "f") ∷ [])) { scale = 10000000 })) ∷
    asks (codes "merge -o o --cluster-length 1 f") (commands.Merge (record (merging (codes "o") (plain_file (codes "f") ∷ [])) { blocks = 1 })) ∷
    asks (codes "merge -o o --cluster-length 100ms f") (commands.Merge (record (merging (codes "o") (plain_file (codes "f") ∷ [])) { span = 100000000 })) ∷
    asks (codes "merge -o o --cluster-length 32000ms f") (commands.Merge (record (merging (codes "o") (plain_file (codes "f") ∷ [])) { span = 32000000000 })) ∷
    [])
unfolding command first_command command_named verbs merge merged items complete meaning_of table item_at option_at append_at file_at since merge_words file named_in value_of text scale cluster_length number whole
outputs = refl

-- `merge --split`
pub splits-of-merges : Hold (
    asks_split (codes "merge -o o --split duration:10s f") (splits.Duration 10000000000) ∷
    asks_split (codes "merge -o o --split duration:0:00:10.5 f") (splits.Duration 10500000000) ∷
    asks_split (codes "merge -o o --split duration:1:02:03.000000001 f") (splits.Duration 3723000000001) ∷
    asks_split (codes "merge -o o --split duration:00000000000000000000001s f") (splits.Duration 1000000000) ∷
    asks_split (codes "merge -o o --split duration:9223372036s f") (splits.Duration 9223372036000000000) ∷
    asks_split (codes "merge -o o --split duration:2562047:47:16.854775807 f") (splits.Duration 9223372036854775807) ∷
    asks_split (codes "merge -o o --split timestamps:0s,1s,0:00:02 f") (splits.Times (0 ∷ 1000000000 ∷ 2000000000 ∷ [])) ∷
    asks_split (codes "merge -o o --split chapters:all f") splits.AllChapters ∷
    asks_split (codes "merge -o o --split chapters:2,2,0 f") (splits.Chapters (2 ∷ 2 ∷ 0 ∷ [])) ∷
    asks_split (codes "merge -o o --split parts:0s-1s,2s-3s f") (splits.Parts (stretch 0 (Some 1000000000) ∷ stretch 2000000000 (Some 3000000000) ∷ [])) ∷
    asks_split (codes "merge -o o --split parts:0s-1s,1s- f") (splits.Parts (stretch 0 (Some 1000000000) ∷ stretch 1000000000 None ∷ [])) ∷
    asks_split (codes "merge -o o --split size:7 f") (splits.Size 7) ∷
    asks_split (codes "merge -o o --split size:007k f") (splits.Size 7168) ∷
    asks_split (codes "merge -o o --split size:1m f") (splits.Size 1048576) ∷
    asks_split (codes "merge -o o --split size:17179869183g f") (splits.Size 18446744072635809792) ∷
    asks_split (codes "merge -o o --split size:17179869184g f") (splits.Size 18446744073709551615) ∷
    asks_split (codes "merge -o o --split size:999999999999g f") (splits.Size 18446744073709551615) ∷
    [])
unfolding command first_command command_named verbs merge merged items complete meaning_of table item_at option_at append_at file_at since merge_words file named_in value_of split split_of duration chapters_split spans span times numbers size amount time clock seconds fraction minutes_or_seconds cut number whole
splits-of-merges = refl

-- `merge` with `--segment-uid`, `--link` and `-J`
pub identifiers : Hold (
    asks (codes "merge -o o --segment-uid 00000000000000000000000000000001 f") (commands.Merge (record (merging (codes "o") (plain_file (codes "f") ∷ [])) { uuids = (1 ∷ []) })) ∷
    asks (codes "merge -o o --segment-uid ffffffffffffffffffffffffffffffff,0000000000000000000000000000000A --link f") (commands.Merge (record (merging (codes "o") (plain_file (codes "f") ∷ [])) { uuids = (340282366920938463463374607431768211455 ∷ 10 ∷ []); link = true })) ∷
    asks (codes "merge -J f") (commands.Identify (codes "f")) ∷
    asks (codes "merge -J -") (commands.Identify (codes "-")) ∷
    [])
unfolding command first_command command_named verbs merge merged items complete meaning_of table item_at option_at append_at file_at since merge_words file named_in value_of identify beside uuids uuid
identifiers = refl

-- `merge`, options of the next file
pub selections : Hold (
    asks_merge (codes "merge -o -a s1.mkv") (codes "-a") (plain_file (codes "s1.mkv") ∷ []) ∷
    asks_file (codes "merge -o o -a 1 f") (record (plain_file (codes "f")) { audio = These (1 ∷ []); named = (1 ∷ []) }) ∷
    asks_file (codes "merge -o o --audio-tracks !1,02,1 f") (record (plain_file (codes "f")) { audio = AllBut (1 ∷ 2 ∷ 1 ∷ []); named = (1 ∷ 2 ∷ []) }) ∷
    asks_file (codes "merge -o o -d 0,0 --subtitle-tracks 5 f") (record (plain_file (codes "f")) { video = These (0 ∷ 0 ∷ []); subtitles = These (5 ∷ []); named = (0 ∷ 5 ∷ []) }) ∷
    asks_file (codes "merge -o o -A -D -S f") (record (plain_file (codes "f")) { video = Off; audio = Off; subtitles = Off }) ∷
    asks_file (codes "merge -o o --no-audio --no-video --no-subtitles f") (record (plain_file (codes "f")) { video = Off; audio = Off; subtitles = Off }) ∷
    asks_merge (codes "merge -o o --video-tracks 1 f -d 2 g") (codes "o") (record (plain_file (codes "f")) { video = These (1 ∷ []); named = (1 ∷ []) } ∷ record (plain_file (codes "g")) { video = These (2 ∷ []); named = (2 ∷ []) } ∷ []) ∷
    asks_merge (codes "merge -o o -M -T --no-global-tags --no-chapters f g") (codes "o") (record (plain_file (codes "f")) { attachments = false; track_tags = false; global_tags = false; chapters = false } ∷ plain_file (codes "g") ∷ []) ∷
    asks_file (codes "merge -o o --no-attachments --no-track-tags f") (record (plain_file (codes "f")) { attachments = false; track_tags = false }) ∷
    [])
unfolding command first_command command_named verbs merge merged items complete meaning_of table item_at option_at append_at file_at since merge_words file named_in value_of ids numbers number whole
selections = refl

-- `merge`, options of one track of the next file
pub options-of-tracks : Hold (
    refused (codes "merge -o o --track-name 0:a" ++ 0 ∷ codes " f") 4 ∷
    refused (codes "merge -o o --language 0:a" ++ 0 ∷ codes "b f") 4 ∷
    asks_file (codes "merge -o o -y 0:-10 --sync 1:5 f") (record (plain_file (codes "f")) { syncs = ((0, neg_ℤ (pos 10000000)) ∷ (1, pos 5000000) ∷ []); named = (0 ∷ 1 ∷ []) }) ∷
    asks_file (codes "merge -o o -y 9:100 s1.mkv") (record (plain_file (codes "s1.mkv")) { syncs = ((9, pos 100000000) ∷ []); named = (9 ∷ []) }) ∷
    asks_file (codes "merge -o o -y 0:36028797018 f") (record (plain_file (codes "f")) { syncs = ((0, pos 36028797018000000) ∷ []); named = (0 ∷ []) }) ∷
    asks_file (codes "merge -o o -y 0:-36028797018 f") (record (plain_file (codes "f")) { syncs = ((0, neg_ℤ (pos 36028797018000000)) ∷ []); named = (0 ∷ []) }) ∷
    asks_file (codes "merge -o o -y 0:-0 f") (record (plain_file (codes "f")) { syncs = ((0, pos 0) ∷ []); named = (0 ∷ []) }) ∷
    asks_merge (codes "merge -o o -y 0:1 f -y 0:2 g") (codes "o") (record (plain_file (codes "f")) { syncs = ((0, pos 1000000) ∷ []); named = (0 ∷ []) } ∷ record (plain_file (codes "g")) { syncs = ((0, pos 2000000) ∷ []); named = (0 ∷ []) } ∷ []) ∷
    asks_file (codes "merge -o o -y 3:1 --track-name 2:a:b --language 3:ger f") (record (plain_file (codes "f")) { syncs = ((3, pos 1000000) ∷ []); names = ((2, codes "a:b") ∷ []); languages = ((3, codes "ger") ∷ []); named = (3 ∷ 2 ∷ []) }) ∷
    asks_file (codes "merge -o o --track-name 2: f") (record (plain_file (codes "f")) { names = ((2, []) ∷ []); named = (2 ∷ []) }) ∷
    asks_file (codes "merge -o o --default-track-flag 0 --default-track-flag 1:0 --forced-display-flag 2:1 f") (record (plain_file (codes "f")) { defaults = ((0, true) ∷ (1, false) ∷ []); forced = ((2, true) ∷ []); named = (0 ∷ 1 ∷ 2 ∷ []) }) ∷
    asks_file (codes "merge -o o --cues 0:none --cues 1:iframes --cues 2:all f") (record (plain_file (codes "f")) { cues = ((0, Never) ∷ (1, Key) ∷ (2, EachCue) ∷ []); named = (0 ∷ 1 ∷ 2 ∷ []) }) ∷
    asks_file (codes "merge -o o --timestamps 0:t.txt f") (record (plain_file (codes "f")) { times = ((0, codes "t.txt") ∷ []); named = (0 ∷ []) }) ∷
    asks_file (codes "merge -o o --timestamps 1: -a !4 f") (record (plain_file (codes "f")) { audio = AllBut (4 ∷ []); times = ((1, []) ∷ []); named = (1 ∷ 4 ∷ []) }) ∷
    [])
unfolding command first_command command_named verbs merge merged items complete meaning_of table item_at option_at append_at file_at since merge_words file named_in value_of text language ids numbers track_flag track_value track_and_rest cue_word delay delay_size cut number whole
options-of-tracks = refl

-- `merge` with `+`, with options after the last file, and with many files
pub joins : Hold (
    asks_merge (codes "merge -o o f + g") (codes "o") (plain_file (codes "f") ∷ record (plain_file (codes "g")) { appended = true } ∷ []) ∷
    asks (codes "merge -o o f -a 1 + -w g h") (commands.Merge (record (merging (codes "o") (plain_file (codes "f") ∷ record (plain_file (codes "g")) { appended = true; audio = These (1 ∷ []); named = (1 ∷ []) } ∷ plain_file (codes "h") ∷ [])) { webm = true })) ∷
    asks_merge (codes "merge -o o f + g + h") (codes "o") (plain_file (codes "f") ∷ record (plain_file (codes "g")) { appended = true } ∷ record (plain_file (codes "h")) { appended = true } ∷ []) ∷
    asks_merge (codes "merge -o o" ++ flat_map {X = ℕ} (λ _. codes " f") (replicate 64 0)) (codes "o") (replicate 64 (plain_file (codes "f"))) ∷
    [])
unfolding command first_command command_named verbs merge merged items complete meaning_of table item_at option_at append_at file_at since merge_words file named_in value_of ids numbers number whole
joins = refl
