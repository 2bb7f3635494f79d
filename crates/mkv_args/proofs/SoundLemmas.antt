-- A command that is read from a command line is within its limits.
use Rattle.std.proofs.Common.{◌≡◌, ◌≢◌, ◌<◌, ◌≤◌, ℕ, zero, suc, ◌+◌, Bool, true, false, ◌||◌, ◌&&◌, nat_lt, List, [], ◌∷◌, ◌++◌, length, length-append, drop, Option, Some, None, Result, Ok, Err, refl, sym, ◌∙◌, subst, arith}
use Rattle.std.specs.Prelude.{slice_get, is_none, codes, All, IfOk}
use Rattle.std.specs.List.{list_any}
use Rattle.std.specs.Str.{IsUtf8, bytes_eq}
use Rattle.std.proofs.lemmas.Bool.Decides.{nat_tests}
use Rattle.std.proofs.lemmas.Slice.Eq.{bytes_eq-Decides}
use Rattle.std.proofs.lemmas.List.Elements.{All-nil, All-cons, All-append}
use Rattle.requests.specs.declared.job.Job.{Job}
use Rattle.requests.specs.declared.job.Job.TheVariants as jobs
use Rattle.requests.specs.declared.job.Form.{Form}
use Rattle.requests.specs.declared.job.Form.TheVariants as form
use Rattle.requests.specs.declared.job.Target.{Target}
use Rattle.requests.specs.declared.edit.Edit.{Edit}
use Rattle.requests.specs.declared.edit.Change.{Change}
use Rattle.requests.specs.declared.edit.Change.TheVariants.{Set, Add, Delete}
use Rattle.requests.specs.declared.edit.Selector.{Selector}
use Rattle.requests.specs.declared.edit.Selector.TheVariants as selector_is
use Rattle.word_values.specs.declared.usage.ArgsEnd.{ArgsEnd}
use Rattle.word_values.specs.Answers.{Tells, ◌>>=◌}
use Rattle.mkv_io.specs.Octets.{cut}
use Rattle.word_values.specs.Numbers.{from}
use Rattle.requests.specs.Decimal.{below, number}
use Rattle.word_values.specs.Place.{due, due_at, file_at, end_at, is_option}
use Rattle.word_values.specs.Values.{track_and_rest}
use Rattle.requests.specs.Sound.{IsWithin}
use Rattle.word_values.proofs.AnswerLemmas.{either, ok-then, ok-else, ok-made}
use Rattle.word_values.proofs.SoundLemmas.{mapped, below-is, from-is}
use Rattle.merge_words.specs.Merge.{merged}
use Rattle.merge_words.specs.Options.{meaning_of}
use Rattle.requests.specs.declared.merge.MergeWords.{MergeWords}
use Rattle.requests.specs.Texts.{AreTexts}
use Rattle.merge_words.proofs.SoundLemmas.{merged-sound, merged-texts, read_value-is}
use Rattle.mkv_args.specs.declared.command.Command.{Command}
use Rattle.mkv_args.specs.declared.command.Command.TheVariants as command_is
use Rattle.mkv_args.specs.declared.commands.Verb.{Verb}
use Rattle.mkv_args.specs.declared.commands.Verb.TheVariants as verb
use Rattle.mkv_args.specs.declared.extract.Mode.{Mode}
use Rattle.mkv_args.specs.declared.extract.Mode.TheVariants as mode
use Rattle.mkv_args.specs.declared.propedit.EditOptionKind.{EditOptionKind}
use Rattle.mkv_args.specs.declared.propedit.EditOptionKind.TheVariants as step
use Rattle.mkv_args.specs.declared.propedit.TheConstants.{VIDEO_TRACK, AUDIO_TRACK, SUBTITLE_TRACK}
use Rattle.mkv_io.specs.Characters.{EQUALS}
use Rattle.mkv_args.specs.declared.propedit.EditOption.{EditOption}
use Rattle.mkv_args.specs.declared.propedit.EditOption.TheVariants as says
use Rattle.merge_words.specs.Items.{read_value}
use Rattle.mkv_args.specs.Entry.{meant}
use Rattle.mkv_args.specs.Explain.{explain, explain_named, page_of}
use Rattle.mkv_args.specs.Commands.{commands}
use Rattle.mkv_args.specs.Extract.{is_taken, target_of, target, targets_from, targets, tracks_by, tracks, simple, chapters, listed, modes, job_of, job, extract}
use Rattle.mkv_args.specs.Propedit.{place, typed, begins, track, selector, step_of, Pair, pairs, following, changed, meaning, said, is_edit, all_said, edits_in, section_behind, first_section, edits, propedit}
use Rattle.mkv_args.specs.Merge.{beside, identified, identify, is_word, merge}
use Rattle.mkv_args.specs.Words.{only_file, alone, info, recover, reindex, blocks_at, generate, command_named, first_command, is_short_help, helped, help_or, command}
use Rattle.mkv_args.specs.Sound.{names_of, AreTargets, IsSoundJob, IsSoundPlace, AreEdits, IsSound}
use Rattle.mkv_io.specs.Names.{AreOthers, AreApart}
use Rattle.lemmas.proofs.PlainLemmas.{neither-true as either-false}

-- ---- targets

others-more : (name : List ℕ) (before : List Target) (t : Target) → AreOthers name (names_of before) → t.name ≢ name → AreOthers name (names_of (before ++ t ∷ []))
others-more name [] t others apart = (apart, tt)
others-more name (b ∷ bs) t others apart = (others.0, others-more name bs t others.1 apart)

-- A name that no target has joins different names.
apart-more : (before : List Target) (t : Target) → AreApart (names_of before) → is_taken t.name before ≡ false → AreApart (names_of (before ++ t ∷ []))
apart-more [] t apart free = (tt, tt)
apart-more (b ∷ bs) t apart free =
    let both = either-false (bytes_eq b.name t.name) (list_any (λ (x : Target). bytes_eq x.name t.name) bs) free in
    let other : t.name ≢ b.name = λ same. let never : true ≡ false = sym ((bytes_eq-Decides b.name t.name).1 (sym same)) ∙ both.0 in cc in
    (others-more b.name bs t apart.0 other, apart-more bs t apart.1 both.1)

-- `t` is a valid target after the targets `before`.
record IsTarget (least : ℕ) (before : List Target) (t : Target) : Type 0 where
  from : least ≤ t.id
  free : is_taken t.name before ≡ false

target-kept : (least at : ℕ) (before : List Target) (word : List ℕ) (t : Target) → target least before at word ≡ Ok t → IsTarget least before t
unfolding target
target-kept least at before word t is = split (track_and_rest word) is
  where
    split : (o : Option (ℕ × List ℕ)) → target_of least before at o ≡ Ok t → IsTarget least before t
    split None found = absurd (cc)
    split (Some p) found =
        let low = ok-else (nat_lt p.0 least) _ _ t found in
        let free = ok-else (is_taken p.1 before) _ _ t low.1 in
        let under = low.0 in
        ok-made (IsTarget least before) (record { id = p.0; name = p.1 }) t free.1 (record { from = grind (arith, nat_tests); free = free.0 })

-- Targets stay different as arguments add to them.
pub targets_from-kept : (least at : ℕ) (before : List Target) (words : List (List ℕ)) (list : List Target)
    → targets_from least before at words ≡ Ok list → AreApart (names_of before) → All (λ (t : Target). least ≤ t.id) before
    → (AreApart (names_of list)) × (All (λ (t : Target). least ≤ t.id) list) × (length list ≡ length before + length words)
targets_from-kept least at before [] list is apart from = ok-made (λ l. (AreApart (names_of l)) × (All (λ (t : Target). least ≤ t.id) l) × (length l ≡ length before + 0)) before list is (apart, from, omega arith)
targets_from-kept least at before (w ∷ ws) list is apart from =
    ok-then ((AreApart (names_of list)) × (All (λ (t : Target). least ≤ t.id) list) × (length list ≡ length before + length (w ∷ ws))) (target least before at w) _ list is (λ t here more.
    let kept = target-kept least at before w t here in
    let rest = targets_from-kept least (at + 1) (before ++ t ∷ []) ws list more (apart-more before t apart kept.free)
    (All-append (λ (x : Target). least ≤ x.id) before (t ∷ []) from (All-cons (λ (x : Target). least ≤ x.id) t [] kept.from (All-nil (λ (x : Target). least ≤ x.id)))) in
    let long : length list ≡ length (before ++ t ∷ []) + length ws = rest.2 in
    (rest.0, rest.1, omega (arith, long, length-append before (t ∷ []))))

some-left : (words : List (List ℕ)) (k : ℕ) (w : List ℕ) → slice_get words k ≡ Some w → 0 < length (drop k words)
some-left [] k w is = absurd (cc)
some-left (x ∷ xs) zero w is = omega arith
some-left (x ∷ xs) (suc k) w is = some-left xs k w is

due-some : (count : ℕ) (o : Option (List ℕ)) (w : List ℕ) → due count o ≡ Ok w → o ≡ Some w
due-some count None w is = absurd (cc)
due-some count (Some v) w is = cc

pub targets-sound : (least start : ℕ) (words : List (List ℕ)) (list : List Target) → targets least words start ≡ Ok list → AreTargets least list
unfolding targets
targets-sound least start words list is =
    ok-then (AreTargets least list) (due_at words start) _ list is (λ w here more.
    let left = some-left words start w (due-some (length words) (slice_get words start) w here) in
    let kept = targets_from-kept least start [] (drop start words) list more tt (All-nil (λ (t : Target). least ≤ t.id)) in
    let long : length list ≡ 0 + length (drop start words) = kept.2 in
    record { some = omega arith; apart = kept.0; from = kept.1 })

-- ---- extractions

tracks_by-sound : (f : Form) (words : List (List ℕ)) (start : ℕ) (j : Job) → tracks_by f words start ≡ Ok j → IsSoundJob j
tracks_by-sound f words start j is =
    ok-then (IsSoundJob j) (targets 0 words start) _ j is (λ list here more. ok-made IsSoundJob (jobs.Tracks f list) j more (targets-sound 0 start words list here))

tracks-sound : (words : List (List ℕ)) (j : Job) → tracks words ≡ Ok j → IsSoundJob j
unfolding tracks
tracks-sound words j is = ok-then (IsSoundJob j) (due_at words 3) _ j is (λ word here more.
    either (IsSoundJob j) (bytes_eq word (codes "--raw")) _ _ _ more (tracks_by-sound form.Raw words 4 j) (λ other.
    either (IsSoundJob j) (bytes_eq word (codes "--fullraw")) _ _ _ other (tracks_by-sound form.Full words 4 j) (λ other.
    tracks_by-sound form.ByCodec words 3 j (ok-else (is_option word) _ _ j other).1)))

simple-sound : (words : List (List ℕ)) (j : Job) → simple words ≡ Ok j → IsSoundJob j
simple-sound words j is =
    ok-then (IsSoundJob j) (due_at words 4) _ j is (λ out here more. ok-then (IsSoundJob j) (end_at words 5) _ j more (λ end there last. ok-made IsSoundJob (jobs.Chapters out) j last tt))

chapters-sound : (words : List (List ℕ)) (j : Job) → chapters words ≡ Ok j → IsSoundJob j
unfolding chapters
chapters-sound words j is = ok-then (IsSoundJob j) (due_at words 3) _ j is (λ word here more.
    either (IsSoundJob j) (bytes_eq word (codes "--simple")) _ _ _ more (simple-sound words j) (λ other.
    either (IsSoundJob j) (is_option word) _ _ _ other (λ never. absurd (cc)) (λ never. absurd (cc))))

listed-sound : (least : ℕ) (make : List Target → Job) (words : List (List ℕ)) (j : Job) → ((list : List Target) → AreTargets least list → IsSoundJob (make list)) → listed make (targets least words 3) ≡ Ok j → IsSoundJob j
listed-sound least make words j keeps is =
    ok-then (IsSoundJob j) (targets least words 3) _ j is (λ list here more. ok-made IsSoundJob (make list) j more (keeps list (targets-sound least 3 words list here)))

job_of-sound : (o : Option Mode) (words : List (List ℕ)) (j : Job) → job_of o words ≡ Ok j → IsSoundJob j
unfolding job_of
job_of-sound None words j is = absurd (cc)
job_of-sound (Some mode.Tracks) words j is = tracks-sound words j is
job_of-sound (Some mode.Timestamps) words j is = tracks_by-sound form.Times words 3 j is
job_of-sound (Some mode.Cues) words j is = listed-sound 0 jobs.Cues words j (λ list sound. sound) is
job_of-sound (Some mode.Attachments) words j is = listed-sound 1 jobs.Attachments words j (λ list sound. sound) is
job_of-sound (Some mode.Chapters) words j is = chapters-sound words j is

job-sound : (word : List ℕ) (words : List (List ℕ)) (j : Job) → job word words ≡ Ok j → IsSoundJob j
unfolding job
job-sound word words j is = job_of-sound (meant modes word) words j is

-- ---- edits

place-sound : (word : List ℕ) (n : ℕ) → place word ≡ Some n → 1 ≤ n
unfolding place
place-sound word n is = (from-is 1 (number word) n is).0

typed-sound : (kind : ℕ) (word : List ℕ) (s : Selector) → typed kind word ≡ Some s → IsSoundPlace s
unfolding typed
typed-sound kind word s is = mapped IsSoundPlace (λ n. selector_is.Typed kind n) (place word) s is (place-sound word)

track-sound : (word : List ℕ) (s : Selector) → track word ≡ Some s → IsSoundPlace s
unfolding track
track-sound word s is =
    either (IsSoundPlace s) (begins (codes "v") word) _ _ _ is (typed-sound VIDEO_TRACK (drop 1 word) s) (λ other.
    either (IsSoundPlace s) (begins (codes "a") word) _ _ _ other (typed-sound AUDIO_TRACK (drop 1 word) s) (λ other.
    either (IsSoundPlace s) (begins (codes "s") word) _ _ _ other (typed-sound SUBTITLE_TRACK (drop 1 word) s) (λ other.
    either (IsSoundPlace s) (begins (codes "=") word) _ _ _ other (λ found. mapped IsSoundPlace selector_is.Uid (number (drop 1 word)) s found (λ k here. tt)) (λ other.
    either (IsSoundPlace s) (begins (codes "@") word) _ _ _ other (λ found. mapped IsSoundPlace selector_is.Number (number (drop 1 word)) s found (λ k here. tt)) (λ other.
    mapped IsSoundPlace selector_is.Nth (place word) s other (place-sound word))))))

selector-sound : (word : List ℕ) (s : Selector) → selector word ≡ Some s → IsSoundPlace s
unfolding selector
selector-sound word s is =
    either (IsSoundPlace s) (bytes_eq word (codes "info")) _ _ _ is (λ found. let same : selector_is.Info ≡ s = cc in subst IsSoundPlace same tt) (λ other.
    either (IsSoundPlace s) (begins (codes "track:") word) _ _ _ other (track-sound (drop 6 word) s) (λ never. absurd (cc)))

-- A section that an option names is sound.
abbrev IsSoundSaying : EditOption → Type 0
IsSoundSaying (says.Section place) = IsSoundPlace place
IsSoundSaying (says.Change change name value) = Unit {0}

changed-sound : (change : Change) (word : List ℕ) (y : EditOption) → changed change word ≡ Some y → IsSoundSaying y
changed-sound change word y is = mapped IsSoundSaying (λ (p : List ℕ × List ℕ). says.Change change p.0 p.1) (cut EQUALS word) y is (λ p here. tt)

meaning-sound : (s : EditOptionKind) (word : List ℕ) (y : EditOption) → meaning s word ≡ Some y → IsSoundSaying y
meaning-sound step.Section word y is = mapped IsSoundSaying says.Section (selector word) y is (selector-sound word)
meaning-sound (step.Edit Delete) word y is = let same : says.Change Delete word [] ≡ y = cc in subst IsSoundSaying same tt
meaning-sound (step.Edit Set) word y is = changed-sound Set word y is
meaning-sound (step.Edit Add) word y is = changed-sound Add word y is

pair-sound : (count : ℕ) (edited : Bool) (p : Pair) (y : EditOption) → said count edited p ≡ Ok y → IsSoundSaying y
pair-sound count edited p y is =
    ok-then (IsSoundSaying y) (following p.at edited (step_of p.option)) _ y is (λ s here more.
    ok-then (IsSoundSaying y) (due count p.value) _ y more (λ word there last. meaning-sound s word y (read_value-is (p.at + 1) (meaning s word) y last)))

abbrev HavePlaces : List Edit → Type 0
HavePlaces list = All (λ (e : Edit). IsSoundPlace e.place) list

-- The edits are sound, and there is one if the current section had none.
record AreKept (place : Selector) (edited : Bool) (all : List EditOption) : Type 0 where
  places : HavePlaces (edits_in place all)
  some : edited ≡ false → 0 < length (edits_in place all)

all_said-kept : (count : ℕ) (edited : Bool) (ps : List Pair) (place : Selector) (all : List EditOption) → IsSoundPlace place → all_said count edited ps ≡ Ok all → AreKept place edited all
all_said-kept count true [] place all sound is =
    ok-made (AreKept place true) [] all is (record { places = All-nil (λ (e : Edit). IsSoundPlace e.place); some = λ never. absurd (cc) })
all_said-kept count false [] place all sound is = absurd (cc)
all_said-kept count edited (p ∷ ps) place all sound is =
    ok-then (AreKept place edited all) (said count edited p) _ all is (λ y here more.
    ok-then (AreKept place edited all) (all_said count (is_edit y) ps) _ all more (λ rest there last.
    ok-made (AreKept place edited) (y ∷ rest) all last (joined y rest (pair-sound count edited p y here) (λ next own. all_said-kept count (is_edit y) ps next rest own there))))
  where
    joined : (y : EditOption) (rest : List EditOption) → IsSoundSaying y → ((next : Selector) → IsSoundPlace next → AreKept next (is_edit y) rest) → AreKept place edited (y ∷ rest)
    joined (says.Section next) rest own behind = let kept = behind next own in record { places = kept.places; some = λ _. kept.some refl }
    joined (says.Change change name value) rest own behind = record {
      places = All-cons (λ (e : Edit). IsSoundPlace e.place) (record { place = place; change = change; name = name; value = value }) (edits_in place rest) sound (behind place sound).places;
      some = λ _. omega arith;
    }

section_behind-sound : (o : Option EditOptionKind) (words : List (List ℕ)) (s : Selector) → section_behind o words ≡ Ok s → IsSoundPlace s
section_behind-sound (Some step.Section) words s is =
    ok-then (IsSoundPlace s) (due_at words 3) _ s is (λ word here more. selector-sound word s (read_value-is 3 (selector word) s more))
section_behind-sound _ words s is = absurd (cc)

edits-sound : (words : List (List ℕ)) (list : List Edit) → edits words ≡ Ok list → AreEdits list
unfolding edits first_section
edits-sound words list is =
    ok-then (AreEdits list) (first_section words) _ list is (λ place first others.
    ok-then (AreEdits list) (all_said (length words) false (pairs 4 (drop 4 words))) _ list others (λ all here more.
    let sound = ok-then (IsSoundPlace place) (due_at words 2) _ place first (λ word there behind. section_behind-sound (step_of word) words place behind) in
    let kept = all_said-kept (length words) false (pairs 4 (drop 4 words)) place all sound here in
    ok-made AreEdits (edits_in place all) list more (record { some = kept.some refl; each = kept.places })))

blocks_at-sound : (words : List (List ℕ)) (at n : ℕ) → blocks_at words at ≡ Ok n → IsWithin 1 100000 n
unfolding blocks_at
blocks_at-sound words at n is = ok-then (IsWithin 1 100000 n) (due_at words at) _ n is (λ word here more.
    let under = below-is 100001 (from 1 (number word)) n (read_value-is at (below 100001 (from 1 (number word))) n more) in
    let low = (from-is 1 (number word) n under.1).0 in
    let high = under.0 in
    record { least = low; most = omega arith })

-- ---- the commands

-- `words` have the parts of the command.
abbrev IsAsked : List (List ℕ) → Command → Type 0
IsAsked words (command_is.Merge w) = merged words ≡ Ok w
IsAsked words (command_is.Extract file j) = (word : List ℕ) × (job word words ≡ Ok j)
IsAsked words (command_is.Propedit file list) = edits words ≡ Ok list
IsAsked words (command_is.Generate n prefix) = blocks_at words 1 ≡ Ok n
IsAsked words _ = Unit {0}

beside-asked : (words : List (List ℕ)) (at : ℕ) (word : List ℕ) (c : Command) → beside at word ≡ Ok c → IsAsked words c
unfolding beside
beside-asked words at word c is =
    either (IsAsked words c) (is_option word && is_none (meaning_of word)) _ _ _ is (λ never. absurd (cc)) (λ never. absurd (cc))

identify-asked : (words : List (List ℕ)) (c : Command) → identify words ≡ Ok c → IsAsked words c
unfolding identify
identify-asked words c is = ok-then (IsAsked words c) (due_at words 2) _ c is (λ file here more.
    either (IsAsked words c) (bytes_eq file (codes "+") || is_option file) _ _ _ more (beside-asked words 2 file c) (alone file (slice_get words 3)))
  where
    alone : (file : List ℕ) (o : Option (List ℕ)) → identified file o ≡ Ok c → IsAsked words c
    alone file None found = ok-made (IsAsked words) (command_is.Identify file) c found tt
    alone file (Some extra) found = beside-asked words 3 extra c found

merge-asked : (words : List (List ℕ)) (c : Command) → merge words ≡ Ok c → IsAsked words c
unfolding merge
merge-asked words c is =
    either (IsAsked words c) (is_word (codes "-J") (slice_get words 1)) _ _ _ is (identify-asked words c) (λ found.
    ok-then (IsAsked words c) (merged words) _ c found (λ w here more. ok-made (IsAsked words) (command_is.Merge w) c more here))

extract-asked : (words : List (List ℕ)) (c : Command) → extract words ≡ Ok c → IsAsked words c
unfolding extract
extract-asked words c is =
    ok-then (IsAsked words c) (file_at words 1) _ c is (λ file here more.
    ok-then (IsAsked words c) (due_at words 2) _ c more (λ word there others.
    ok-then (IsAsked words c) (job word words) _ c others (λ j asked last.
    ok-made (IsAsked words) (command_is.Extract file j) c last (word, asked))))

propedit-asked : (words : List (List ℕ)) (c : Command) → propedit words ≡ Ok c → IsAsked words c
unfolding propedit
propedit-asked words c is =
    ok-then (IsAsked words c) (file_at words 1) _ c is (λ file here more.
    ok-then (IsAsked words c) (edits words) _ c more (λ list there last.
    ok-made (IsAsked words) (command_is.Propedit file list) c last there))

generate-asked : (words : List (List ℕ)) (c : Command) → generate words ≡ Ok c → IsAsked words c
unfolding generate
generate-asked words c is =
    ok-then (IsAsked words c) (blocks_at words 1) _ c is (λ n here more.
    ok-then (IsAsked words c) (due_at words 2) _ c more (λ prefix there others.
    ok-then (IsAsked words c) (end_at words 3) _ c others (λ end behind last.
    ok-made (IsAsked words) (command_is.Generate n prefix) c last here)))

file-asked : (make : List ℕ → Command) (words : List (List ℕ)) (c : Command) → ((file : List ℕ) → IsAsked words (make file)) → (only_file words >>= (λ file. Ok (make file))) ≡ Ok c → IsAsked words c
file-asked make words c asked is = ok-then (IsAsked words c) (only_file words) _ c is (λ file here more. ok-made (IsAsked words) (make file) c more (asked file))

alone-asked : (one c : Command) (words : List (List ℕ)) → IsAsked words one → alone one words ≡ Ok c → IsAsked words c
unfolding alone
alone-asked one c words asked is = ok-then (IsAsked words c) (end_at words 1) _ c is (λ end here more. ok-made (IsAsked words) one c more asked)

explain-asked : (words : List (List ℕ)) (c : Command) → explain words ≡ Ok c → IsAsked words c
unfolding explain
explain-asked words c is = asked (slice_get words 1) is
  where
    asked : (o : Option (List ℕ)) → explain_named o words ≡ Ok c → IsAsked words c
    asked None found = ok-made (IsAsked words) (command_is.Explain None) c found tt
    asked (Some word) found =
        ok-then (IsAsked words c) (read_value 1 (page_of word)) _ c found (λ page here more.
        ok-then (IsAsked words c) (end_at words 2) _ c more (λ end behind last.
        ok-made (IsAsked words) (command_is.Explain (Some word)) c last tt))

named-asked : (o : Option Verb) (words : List (List ℕ)) (c : Command) → command_named o words ≡ Ok c → IsAsked words c
unfolding command_named info recover reindex
named-asked None words c is = absurd (cc)
named-asked (Some verb.Info) words c is = file-asked command_is.Info words c (λ file. tt) is
named-asked (Some verb.Merge) words c is = merge-asked words c is
named-asked (Some verb.Extract) words c is = extract-asked words c is
named-asked (Some verb.Propedit) words c is = propedit-asked words c is
named-asked (Some verb.Recover) words c is = file-asked command_is.Recover words c (λ file. tt) is
named-asked (Some verb.Reindex) words c is = file-asked command_is.Reindex words c (λ file. tt) is
named-asked (Some verb.Generate) words c is = generate-asked words c is
named-asked (Some verb.Explain) words c is = explain-asked words c is
named-asked (Some verb.Help) words c is = alone-asked (command_is.Help None) c words tt is
named-asked (Some verb.Version) words c is = alone-asked command_is.Version c words tt is

first-asked : (words : List (List ℕ)) (c : Command) → first_command words ≡ Ok c → IsAsked words c
unfolding first_command
first-asked [] c is = absurd (cc)
first-asked (first ∷ rest) c is = named-asked (meant commands first) (first ∷ rest) c is

command-asked : (words : List (List ℕ)) (c : Command) → command words ≡ Ok c → IsAsked words c
unfolding command
command-asked words c is =
    either (IsAsked words c) (is_short_help words) _ _ _ is (λ found. ok-made (IsAsked words) (command_is.Help None) c found tt) (helping (helped words))
  where
    helping : (o : Option Verb) → help_or o words ≡ Ok c → IsAsked words c
    helping (Some verb) found = ok-made (IsAsked words) (command_is.Help (Some verb)) c found tt
    helping None found = first-asked words c found

-- A command that a command line asks for is within its limits.
pub command-sound : (words : List (List ℕ)) (c : Command) → command words ≡ Ok c → IsSound c
command-sound words c is = sound c (command-asked words c is)
  where
    sound : (c : Command) → IsAsked words c → IsSound c
    sound (command_is.Merge w) asked = merged-sound words w asked
    sound (command_is.Extract file j) asked = job-sound asked.0 words j asked.1
    sound (command_is.Propedit file list) asked = edits-sound words list asked
    sound (command_is.Generate n prefix) asked = blocks_at-sound words 1 n asked
    sound _ asked = tt

-- The command that the code returns for a command line is within its limits.
pub told-sound : (words : List (List ℕ)) (r : Result Command ArgsEnd) → Tells r (command words) → IfOk r IsSound
told-sound words (Ok c) is = command-sound words c is
told-sound words (Err end) is = tt

-- The merge in the command is the one that the words of `merge` describe.
pub asked-merged : (words : List (List ℕ)) (w : MergeWords) → command words ≡ Ok (command_is.Merge w) → merged words ≡ Ok w
asked-merged words w is = command-asked words (command_is.Merge w) is

-- The names and texts of that merge are valid UTF-8.
pub asked-texts : (words : List (List ℕ)) (w : MergeWords) → All IsUtf8 words → command words ≡ Ok (command_is.Merge w) → AreTexts w
asked-texts words w utf8 is = merged-texts words w utf8 (asked-merged words w is)
