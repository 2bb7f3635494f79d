-- No opened file has a name under which an output may be written.
use Rattle.std.proofs.Common.{◌≡◌, ℕ, List, [], ◌∷◌, ◌++◌, length, map, find, get_or, cond, Bool, true, false, ◌&&◌, if◌then◌else◌, Option, Some, None, refl, sym, ◌∙◌, ap, subst, arith, append_assoc}
use Rattle.std.specs.List.{All}
use Rattle.std.specs.Option.{option_or, option_to_list}
use Rattle.std.specs.Str.{bytes_eq}
use Rattle.std.proofs.Math.ListN.{get_or-map}
use Rattle.std.proofs.lemmas.List.{length-map}
use Rattle.std.proofs.lemmas.List.Elements.{All-append, All-cons, All-nil}
use Rattle.std.proofs.lemmas.List.Folds.{find-append}
use Rattle.std.proofs.lemmas.Slice.Eq.{bytes_eq-Decides}
use Rattle.mkv_io.specs.declared.outside.FileId.{FileId}
use Rattle.mkv_outputs.specs.Sinks.{holders_of}
use Rattle.sidecar_edit.specs.Name.{sidecar_of}
use Rattle.splitter.specs.Names.{is_part_name}
use Rattle.remux_plan.specs.Parts.{may_be_written}
use Rattle.requests.specs.declared.merge.MergeWords.{MergeWords}
use Rattle.input_files.specs.Inputs.{attached_names, file_names}
use Rattle.input_files.specs.TimesFile.{times_named, times_names}
use Rattle.mkv_merge.specs.Opened.{opened_names}
use Rattle.mkv_merge.specs.Read.{first_written, is_output, is_part, is_split}

-- ---- two names

-- Two tests that hold in the same cases are equal.
same-test : (a b : Bool) → (a ≡ true → b ≡ true) → (b ≡ true → a ≡ true) → a ≡ b
same-test true b to from = sym (to refl)
same-test false true to from = from refl
same-test false false to from = refl

-- Equality of names is symmetric.
either-first : (xs ys : List ℕ) → bytes_eq xs ys ≡ bytes_eq ys xs
either-first xs ys = same-test (bytes_eq xs ys) (bytes_eq ys xs)
    (λ is. (bytes_eq-Decides ys xs).1 (sym ((bytes_eq-Decides xs ys).0 is)))
    (λ is. (bytes_eq-Decides xs ys).1 (sym ((bytes_eq-Decides ys xs).0 is)))

-- ---- names without one that passes a test

first-none : {A : Type 0} (a b : Option A) → option_or a b ≡ None → a ≡ None
first-none None b none = refl
first-none (Some x) b none = absurd (cc)

second-none : {A : Type 0} (a b : Option A) → option_or a b ≡ None → b ≡ None
second-none None b none = none
second-none (Some x) b none = absurd (cc)

each-fails : (test : List ℕ → Bool) (names : List (List ℕ)) → find test names ≡ None → All (λ name. test name ≡ false) names
each-fails test [] none = All-nil (λ name. test name ≡ false)
each-fails test (n ∷ ns) none = split (test n) refl (each-fails test ns) none
  where
    split : (b : Bool) → test n ≡ b → (find test ns ≡ None → All (λ name. test name ≡ false) ns) → cond b (Some n) (find test ns) ≡ None → All (λ name. test name ≡ false) (n ∷ ns)
    split true is rest never = absurd (cc)
    split false is rest none = All-cons (λ name. test name ≡ false) n ns is (rest none)

-- If no name passes the test, no name of the first list does.
front-fails : (test : List ℕ → Bool) (front rest : List (List ℕ)) → find test (front ++ rest) ≡ None → All (λ name. test name ≡ false) front
front-fails test front rest none = each-fails test front (first-none (find test front) (find test rest) (sym (find-append test front rest) ∙ none))

-- ---- names of the opened files

-- the first of these names that an output could have
abbrev first_of : MergeWords → List (List ℕ) → Option (List ℕ)
first_of words names = option_or (find (is_output words) names) (find (is_part words) names)

-- A name that is neither the output's nor a part's isn't written.
unwritten-name : (words : MergeWords) (name : List ℕ) → is_output words name ≡ false → is_part words name ≡ false → may_be_written (is_split words) words.output name ≡ false
unwritten-name words name own part = split (is_split words) part
  where
    split : (b : Bool) → (b && is_part_name words.output name) ≡ false → (if b then is_part_name words.output name else bytes_eq words.output name) ≡ false
    split true part = part
    split false part = either-first words.output name ∙ own

rest-fails : (test : List ℕ → Bool) (front rest : List (List ℕ)) → find test (front ++ rest) ≡ None → find test rest ≡ None
rest-fails test [] rest none = none
rest-fails test (n ∷ ns) rest none = split (test n) none (rest-fails test ns rest)
  where
    split : (b : Bool) → cond b (Some n) (find test (ns ++ rest)) ≡ None → (find test (ns ++ rest) ≡ None → find test rest ≡ None) → find test rest ≡ None
    split true never more = absurd (cc)
    split false none more = more none

-- The names in two places of a list that has none that may be written.
both-unwritten : (words : MergeWords) (front mid inner rest : List (List ℕ)) → first_of words (front ++ (mid ++ (inner ++ rest))) ≡ None → All (λ name. may_be_written (is_split words) words.output name ≡ false) (front ++ inner)
both-unwritten words front mid inner rest none =
    let names : List (List ℕ) = front ++ (mid ++ (inner ++ rest)) in
    let own = first-none (find (is_output words) names) (find (is_part words) names) none in
    let part = second-none (find (is_output words) names) (find (is_part words) names) none in
    All-append (λ name. may_be_written (is_split words) words.output name ≡ false) front inner
    (λ k d below. unwritten-name words (get_or front k d) (front-fails (is_output words) front (mid ++ (inner ++ rest)) own k d below) (front-fails (is_part words) front (mid ++ (inner ++ rest)) part k d below))
    (λ k d below. unwritten-name words (get_or inner k d)
    (front-fails (is_output words) inner rest (rest-fails (is_output words) mid (inner ++ rest) (rest-fails (is_output words) front (mid ++ (inner ++ rest)) own)) k d below)
    (front-fails (is_part words) inner rest (rest-fails (is_part words) mid (inner ++ rest) (rest-fails (is_part words) front (mid ++ (inner ++ rest)) part)) k d below))

unwritten-inputs : (words : MergeWords) → first_written words ≡ None → All (λ name. may_be_written (is_split words) words.output name ≡ false) (opened_names words)
unwritten-inputs words none =
    let names : List (List ℕ) = file_names words.files in
    let times : List (List ℕ) = times_names (times_named words.files) in
    let attached : List (List ℕ) = attached_names words.attached in
    let sidecars : List (List ℕ) = map sidecar_of names ++ map sidecar_of times in
    both-unwritten words names (option_to_list words.chapters ++ times) attached sidecars
    (ap (λ (l : List (List ℕ)). first_of words (names ++ l)) (append_assoc (option_to_list words.chapters) times (attached ++ sidecars)) ∙ none)

-- The same for the names under which files were opened.
pub unwritten-held : (holder : ℕ → List ℕ) (ids : List FileId) (words : MergeWords) → holders_of holder ids ≡ opened_names words → first_written words ≡ None → All (λ (f : FileId). may_be_written (is_split words) words.output (holder f.n) ≡ false) ids
unwritten-held holder ids words held none = λ k d below.
    subst (λ (name : List ℕ). may_be_written (is_split words) words.output name ≡ false) (ap (λ (names : List (List ℕ)). get_or names k (holder d.n)) (sym held) ∙ get_or-map (λ (f : FileId). holder f.n) ids k d)
    (unwritten-inputs words none k (holder d.n) (omega (arith, ap length held, length-map ids (λ (f : FileId). holder f.n))))
