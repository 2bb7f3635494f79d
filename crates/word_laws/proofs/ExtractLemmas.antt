-- The command line of `extract` is read back.
use Rattle.std.proofs.Common.{◌≡◌, ◌≢◌, ◌≤◌, ℕ, ◌+◌, false, nat_le, List, [], ◌∷◌, ◌++◌, length, map, codes, Ok, refl, sym, ◌∙◌, arith, append_assoc, All, le-ltb}
use Rattle.std.proofs.lemmas.Bool.{and_right}
use Rattle.std.proofs.lemmas.Fmt.{decimal_nonempty}
use Rattle.std.proofs.lemmas.List.{append-nil}
use Rattle.std.proofs.lemmas.List.Elements.{All-head, All-tail}
use Rattle.std.specs.Fmt.{decimal}
use Rattle.mkv_io.specs.Names.{AreOthers, AreApart}
use Rattle.requests.specs.declared.job.Form.TheVariants as form
use Rattle.requests.specs.declared.job.Job.{Job}
use Rattle.requests.specs.declared.job.Job.TheVariants as jobs
use Rattle.requests.specs.declared.job.Target.{Target}
use Rattle.word_values.specs.Place.{is_option}
use Rattle.mkv_args.specs.declared.command.Command.TheVariants as commands
use Rattle.mkv_args.specs.declared.commands.Verb.TheVariants as verb
use Rattle.mkv_args.specs.Extract.{is_taken, target, targets, targets_from, tracks, chapters, modes, job, job_of, extract}
use Rattle.mkv_args.specs.Sound.{AreTargets, IsSoundJob, names_of}
use Rattle.mkv_args.specs.Words.{command, command_named}
use Rattle.word_laws.specs.Values.{HasFewDigits, with_number}
use Rattle.word_laws.specs.Spelled.{target_word, job_words}
use Rattle.word_laws.specs.Names.{IsFileName}
use Rattle.word_laws.specs.Spellable.{HaveFewDigits, IsJob}
use Rattle.mkv_io.proofs.OctetsLemmas.{decimal_all, first_other}
use Rattle.word_laws.proofs.NumberLemmas.{short_fits, numbered_read}
use Rattle.word_laws.proofs.SimpleLemmas.{other_word, no_option, by_verb, more_help_none}

-- ---- targets
differ_at : (name : List ℕ) (bs : List Target) (t : Target) (ts : List Target) → AreOthers name (names_of (bs ++ t ∷ ts)) → t.name ≢ name
differ_at name [] t ts others = others.0
differ_at name (b ∷ bs) t ts others = differ_at name bs t ts others.1

-- A name that differs from the earlier ones is free.
free_at : (bs : List Target) (t : Target) (ts : List Target) → AreApart (names_of (bs ++ t ∷ ts)) → is_taken t.name bs ≡ false
free_at [] t ts apart = refl
free_at (b ∷ bs) t ts apart =
    let other = differ_at b.name bs t ts apart.0 in
    let no = other_word b.name t.name (λ same. other (sym same)) in
    rw no (free_at bs t ts apart.1)

target_read : (least : ℕ) (before : List Target) (at : ℕ) (t : Target) → least ≤ t.id → HasFewDigits t.id → is_taken t.name before ≡ false → target least before at (target_word t) ≡ Ok t
unfolding target
target_read least before at t from short free = rw (numbered_read t.id t.name short) (rw (le-ltb t.id least from) (rw free refl))

targets_from_read : (least : ℕ) (before : List Target) (at : ℕ) (list : List Target) → AreApart (names_of (before ++ list)) → All (λ (t : Target). least ≤ t.id) list → HaveFewDigits list
    → targets_from least before at (map target_word list) ≡ Ok (before ++ list)
targets_from_read least before at [] apart from short = rw (append-nil before) refl
targets_from_read least before at (t ∷ ts) apart from short =
    let here = target_read least before at t (All-head (λ (x : Target). least ≤ x.id) t ts from) (All-head (λ (x : Target). HasFewDigits x.id) t ts short) (free_at before t ts apart) in
    let joined : (before ++ t ∷ []) ++ ts ≡ before ++ t ∷ ts = append_assoc before (t ∷ []) ts in
    let P : List Target → Type 0 = λ l. AreApart (names_of l) in
    let more = targets_from_read least (before ++ t ∷ []) (at + 1) ts (rw joined apart) (All-tail (λ (x : Target). least ≤ x.id) t ts from) (All-tail (λ (x : Target). HasFewDigits x.id) t ts short) in
    rw here (more ∙ rw joined refl)

targets_three : (least : ℕ) (a b c : List ℕ) (list : List Target) → AreTargets least list → HaveFewDigits list → targets least (a ∷ b ∷ c ∷ map target_word list) 3 ≡ Ok list
unfolding targets
targets_three least a b c [] are short = let some = are.some in absurd (omega arith)
targets_three least a b c (t ∷ ts) are short = targets_from_read least [] 3 (t ∷ ts) are.apart are.from short

targets_four : (least : ℕ) (a b c d : List ℕ) (list : List Target) → AreTargets least list → HaveFewDigits list → targets least (a ∷ b ∷ c ∷ d ∷ map target_word list) 4 ≡ Ok list
unfolding targets
targets_four least a b c d [] are short = let some = are.some in absurd (omega arith)
targets_four least a b c d (t ∷ ts) are short = targets_from_read least [] 4 (t ∷ ts) are.apart are.from short

-- A target doesn't look like an option.
pub numbered_plain : (n : ℕ) (rest : List ℕ) → HasFewDigits n → is_option (with_number n rest) ≡ false
numbered_plain n rest short =
    let fits = short_fits n short in
    let other = first_other 45 (decimal n) (codes ":" ++ rest) refl (decimal_nonempty n fits) (decimal_all n fits) in
    and_right (nat_le 2 (length (with_number n rest))) _ other

-- ---- modes
tracks_read : (a b c : List ℕ) (list : List Target) → AreTargets 0 list → HaveFewDigits list → tracks (a ∷ b ∷ c ∷ map target_word list) ≡ Ok (jobs.Tracks form.ByCodec list)
unfolding tracks
tracks_read a b c [] are short = let some = are.some in absurd (omega arith)
tracks_read a b c (t ∷ ts) are short =
    let plain = numbered_plain t.id t.name (All-head (λ (x : Target). HasFewDigits x.id) t ts short) in
    rw (no_option (target_word t) (codes "--raw") plain refl) (rw (no_option (target_word t) (codes "--fullraw") plain refl) (rw plain (rw (targets_three 0 a b c (t ∷ ts) are short) refl)))

raw_read : (a b c : List ℕ) (list : List Target) → AreTargets 0 list → HaveFewDigits list → tracks (a ∷ b ∷ c ∷ codes "--raw" ∷ map target_word list) ≡ Ok (jobs.Tracks form.Raw list)
unfolding tracks
raw_read a b c list are short = rw (targets_four 0 a b c (codes "--raw") list are short) refl

full_read : (a b c : List ℕ) (list : List Target) → AreTargets 0 list → HaveFewDigits list → tracks (a ∷ b ∷ c ∷ codes "--fullraw" ∷ map target_word list) ≡ Ok (jobs.Tracks form.Full list)
unfolding tracks
full_read a b c list are short = rw (targets_four 0 a b c (codes "--fullraw") list are short) refl

-- The arguments after the mode are read as the job.
job_read : (file : List ℕ) (j : Job) (name : List ℕ) (rest : List (List ℕ)) → IsFileName file → job name (codes "extract" ∷ file ∷ name ∷ rest) ≡ Ok j
    → command (codes "extract" ∷ file ∷ name ∷ rest) ≡ Ok (commands.Extract file j)
unfolding command_named extract
job_read file j name rest plain said =
    by_verb verb.Extract (file ∷ name ∷ rest) (more_help_none (codes "extract") file name rest) ∙ rw plain (rw said refl)

pub extract_read : (file : List ℕ) (j : Job) → IsFileName file → IsSoundJob j → IsJob j → command (codes "extract" ∷ file ∷ job_words j) ≡ Ok (commands.Extract file j)
unfolding job modes job_of chapters
extract_read file (jobs.Tracks form.ByCodec list) plain sound is = job_read file _ (codes "tracks") (map target_word list) plain (tracks_read (codes "extract") file (codes "tracks") list sound is)
extract_read file (jobs.Tracks form.Raw list) plain sound is = job_read file _ (codes "tracks") (codes "--raw" ∷ map target_word list) plain (raw_read (codes "extract") file (codes "tracks") list sound is)
extract_read file (jobs.Tracks form.Full list) plain sound is = job_read file _ (codes "tracks") (codes "--fullraw" ∷ map target_word list) plain (full_read (codes "extract") file (codes "tracks") list sound is)
extract_read file (jobs.Tracks form.Times list) plain sound is =
    job_read file _ (codes "timestamps_v2") (map target_word list) plain (rw (targets_three 0 (codes "extract") file (codes "timestamps_v2") list sound is) refl)
extract_read file (jobs.Cues list) plain sound is =
    job_read file _ (codes "cues") (map target_word list) plain (rw (targets_three 0 (codes "extract") file (codes "cues") list sound is) refl)
extract_read file (jobs.Attachments list) plain sound is =
    job_read file _ (codes "attachments") (map target_word list) plain (rw (targets_three 1 (codes "extract") file (codes "attachments") list sound is) refl)
extract_read file (jobs.Chapters name) plain sound is = job_read file _ (codes "chapters") (codes "--simple" ∷ name ∷ []) plain refl
