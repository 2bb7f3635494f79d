-- The lines of a merge, one item at a time.
use Rattle.std.proofs.Common.{◌≡◌, ℕ, suc, ◌+◌, ◌<◌, ◌≤◌, Bool, true, false, ◌||◌, if◌then◌else◌, List, [], ◌∷◌, ◌++◌, append_assoc, length, drop, get_or, map, filter, flat_map, refl, sym, ◌∙◌, ap, subst, arith}
use Rattle.std.specs.List.{enumerate_from, list_any, zip}
use Rattle.std.proofs.lemmas.List.{drop_all}
use Rattle.mkv_io.specs.Lines.{with_lines}
use Rattle.requests.specs.declared.merge.FileWords.{FileWords}
use Rattle.requests.specs.declared.merge.MergeWords.{MergeWords}
use Rattle.merge_inputs.specs.Input.{InputRead, read_in}
use Rattle.merge_inputs.specs.declared.input.Input.{Input}
use Rattle.mkv_lines.specs.Line.{more_damages_line, warning_line}
use Rattle.mkv_lines.specs.Said.{ReportLines, SaysPart, SaysUpTo}
use Rattle.mkv_lines.proofs.SaidLemmas.{SaysUpTo-begins, SaysUpTo-ends, SaysUpTo-more, SaysUpTo-stops}
use Rattle.remux_plan.specs.declared.summary.InputDamage.{InputDamage}
use Rattle.remux_plan.specs.declared.summary.MoreDamage.{MoreDamage}
use Rattle.remux_plan.specs.declared.summary.Summary.{Summary}
use Rattle.mkv_io.specs.Lists.{is_some_of}
use Rattle.mkv_merge.specs.Merge.{has_absent, lacks_track, lines_absent, lines_absent_in, lines_absent_of, lines_before}
use Rattle.mkv_merge.specs.Prepared.{reads_in}
use Rattle.mkv_merge.specs.Told.{damages_at, input_warnings, more_at, warnings_from}
pub use Rattle.lemmas.proofs.PlainLemmas.{drop-get_or as drop-at}

-- ---- a walk over a list

-- ---- a line for each item that passes a test

-- The line of the next item is printed.
next-said : {A : Type 0} (line : A → List ℕ) (kept : A → Bool) (old now : ReportLines) (all : List (List ℕ)) (xs : List A) (k : ℕ) (x : A) → k < length xs → x ≡ get_or xs k x → kept x ≡ true → SaysUpTo old now all (map line (filter kept (drop k xs))) → SaysUpTo old now all (line x ∷ map line (filter kept (drop (k + 1) xs)))
next-said {A = A} line kept old now all xs k x below is keeps way =
    subst (SaysUpTo old now all)
    (ap (λ (ys : List A). map line (filter kept ys)) (drop-at xs k x below is)
    ∙ ap (λ (a : Bool). map line (if a then x ∷ filter kept (drop (k + 1) xs) else filter kept (drop (k + 1) xs))) keeps) way

pub kept-said : {A : Type 0} (line : A → List ℕ) (kept : A → Bool) (old mid new : ReportLines) (all : List (List ℕ)) (xs : List A) (k : ℕ) (x : A) → k < length xs → x ≡ get_or xs k x → kept x ≡ true → SaysUpTo old mid all (map line (filter kept (drop k xs))) → new ≡ with_lines mid (line x ∷ []) → SaysUpTo old new all (map line (filter kept (drop (k + 1) xs)))
kept-said line kept old mid new all xs k x below is keeps way said =
    SaysUpTo-more old mid new all (line x ∷ []) (map line (filter kept (drop (k + 1) xs)))
    (next-said line kept old mid all xs k x below is keeps way) said

-- The line couldn't be printed.
pub kept-stops : {A : Type 0} (line : A → List ℕ) (kept : A → Bool) (old mid new : ReportLines) (all : List (List ℕ)) (xs : List A) (k : ℕ) (x : A) → k < length xs → x ≡ get_or xs k x → kept x ≡ true → SaysUpTo old mid all (map line (filter kept (drop k xs))) → SaysPart mid new (line x ∷ []) → SaysPart old new all
kept-stops line kept old mid new all xs k x below is keeps way part =
    SaysUpTo-stops old mid new all (line x ∷ []) (map line (filter kept (drop (k + 1) xs)))
    (next-said line kept old mid all xs k x below is keeps way) part

-- Some item passes the test.
pub is_some-kept : {A : Type 0} (kept : A → Bool) (xs : List A) → list_any kept xs ≡ is_some_of (filter kept xs)
is_some-kept kept [] = refl
is_some-kept {A = A} kept (x ∷ xs) = step (kept x) (is_some-kept kept xs)
  where
    step : (keeps : Bool) → list_any kept xs ≡ is_some_of (filter kept xs) → (keeps || list_any kept xs) ≡ is_some_of (if keeps then x ∷ filter kept xs else filter kept xs)
    step true rest = refl
    step false rest = rest

-- ---- files, each with the result of reading it

-- the files from `k` on with the results of reading them
pub files_left : List FileWords → List Input → ℕ → List (FileWords × InputRead)
files_left files inputs k = zip (drop k files) (reads_in (drop k inputs))

pub files_left-all : (files : List FileWords) (inputs : List Input) → zip files (reads_in inputs) ≡ files_left files inputs 0
unfolding files_left
files_left-all files inputs = refl

pub files_left-at : (files : List FileWords) (inputs : List Input) (k : ℕ) (file : FileWords) (input : Input) → k < length files → k < length inputs → file ≡ get_or files k file → input ≡ get_or inputs k input → files_left files inputs k ≡ (file, read_in input) ∷ files_left files inputs (k + 1)
unfolding files_left
files_left-at files inputs k file input here there is of =
    ap (λ (fs : List FileWords). zip fs (reads_in (drop k inputs))) (drop-at files k file here is)
    ∙ ap (λ (list : List Input). zip (file ∷ drop (k + 1) files) (reads_in list)) (drop-at inputs k input there of)

pub files_left-none : (files : List FileWords) (inputs : List Input) (k : ℕ) → length files ≤ k → files_left files inputs k ≡ []
unfolding files_left
files_left-none files inputs k past = ap (λ (fs : List FileWords). zip fs (reads_in (drop k inputs))) (drop_all k files past)

pub has_absent-all : (words : MergeWords) (inputs : List Input) → has_absent words (reads_in inputs) ≡ list_any (lacks_track words) (enumerate_from 0 (files_left words.files inputs 0))
has_absent-all words inputs = ap (λ (l : List (FileWords × InputRead)). list_any (lacks_track words) (enumerate_from 0 l)) (files_left-all words.files inputs)

-- The next file lacks a track, or a later one does.
module _ (words : MergeWords) (files : List FileWords) (inputs : List Input) (k : ℕ) (file : FileWords) (input : Input) (here : k < length files) (there : k < length inputs) (is : file ≡ get_or files k file) (of : input ≡ get_or inputs k input) where
  next-named : enumerate_from k (files_left files inputs k) ≡ (k, (file, read_in input)) ∷ enumerate_from (k + 1) (files_left files inputs (k + 1))
  next-named = ap (enumerate_from k) (files_left-at files inputs k file input here there is of)

  has_absent-next : (any : Bool) → any ≡ list_any (lacks_track words) (enumerate_from k (files_left files inputs k)) → any ≡ (lacks_track words (k, (file, read_in input)) || list_any (lacks_track words) (enumerate_from (k + 1) (files_left files inputs (k + 1))))
  has_absent-next any so = so ∙ ap (list_any (lacks_track words)) next-named

  pub has_absent-found : (any : Bool) → any ≡ list_any (lacks_track words) (enumerate_from k (files_left files inputs k)) → lacks_track words (k, (file, read_in input)) ≡ true → true ≡ any
  has_absent-found any so found = sym (has_absent-next any so ∙ ap (λ (a : Bool). a || list_any (lacks_track words) (enumerate_from (k + 1) (files_left files inputs (k + 1)))) found)

  pub has_absent-passed : (any : Bool) → any ≡ list_any (lacks_track words) (enumerate_from k (files_left files inputs k)) → lacks_track words (k, (file, read_in input)) ≡ false
      → any ≡ list_any (lacks_track words) (enumerate_from (k + 1) (files_left files inputs (k + 1)))
  has_absent-passed any so none = has_absent-next any so ∙ ap (λ (a : Bool). a || list_any (lacks_track words) (enumerate_from (k + 1) (files_left files inputs (k + 1)))) none

  -- ---- lines of absent tracks

  pub absent-next : (old now : ReportLines) (all : List (List ℕ)) → SaysUpTo old now all (flat_map (lines_absent words) (enumerate_from k (files_left files inputs k)))
      → SaysUpTo old now all (lines_absent_of file input.count ++ (lines_absent_in words.order k file input.count ++ flat_map (lines_absent words) (enumerate_from (k + 1) (files_left files inputs (k + 1)))))
  absent-next old now all way =
      subst (SaysUpTo old now all)
      (ap (flat_map (lines_absent words)) next-named
      ∙ append_assoc (lines_absent_of file input.count) (lines_absent_in words.order k file input.count) (flat_map (lines_absent words) (enumerate_from (k + 1) (files_left files inputs (k + 1))))) way

pub has_absent-none : (words : MergeWords) (any : Bool) (files : List FileWords) (inputs : List Input) (k : ℕ) → length files ≤ k → any ≡ list_any (lacks_track words) (enumerate_from k (files_left files inputs k)) → false ≡ any
has_absent-none words any files inputs k past so = sym (so ∙ ap (λ (l : List (FileWords × InputRead)). list_any (lacks_track words) (enumerate_from k l)) (files_left-none files inputs k past))

pub absent-begins : (old : ReportLines) (words : MergeWords) (inputs : List Input) → SaysUpTo old old (lines_before words (reads_in inputs)) (flat_map (lines_absent words) (enumerate_from 0 (files_left words.files inputs 0)))
absent-begins old words inputs =
    subst (SaysUpTo old old (lines_before words (reads_in inputs))) (ap (λ (l : List (FileWords × InputRead)). flat_map (lines_absent words) (enumerate_from 0 l)) (files_left-all words.files inputs))
    (SaysUpTo-begins old (lines_before words (reads_in inputs)))

pub absent-ends : (words : MergeWords) (old new : ReportLines) (all : List (List ℕ)) (files : List FileWords) (inputs : List Input) (k : ℕ) → length files ≤ k
    → SaysUpTo old new all (flat_map (lines_absent words) (enumerate_from k (files_left files inputs k))) → new ≡ with_lines old all
absent-ends words old new all files inputs k past way =
    SaysUpTo-ends old new all (subst (SaysUpTo old new all) (ap (λ (l : List (FileWords × InputRead)). flat_map (lines_absent words) (enumerate_from k l)) (files_left-none files inputs k past)) way)

-- ---- warnings of the inputs

-- The warnings of the next input.
pub warnings-next : (old now : ReportLines) (all : List (List ℕ)) (s : Summary) (files : List FileWords) (k : ℕ) (file : FileWords) (name : List ℕ) (damages : List InputDamage) (more : List MoreDamage) → k < length files → file ≡ get_or files k file
    → name ≡ file.name → damages ≡ s.damages → more ≡ s.more → SaysUpTo old now all (warnings_from s k (drop k files))
    → SaysUpTo old now all (map (λ (d : InputDamage). warning_line name d.damage) (damages_at k damages) ++ (map (λ (m : MoreDamage). more_damages_line name m.count) (more_at k more) ++ warnings_from s (k + 1) (drop (k + 1) files)))
warnings-next old now all s files k file name damages more below is called of others way =
    subst (SaysUpTo old now all)
    (ap (warnings_from s k) (drop-at files k file below is)
    ∙ ap (λ (n : ℕ). input_warnings s k file.name ++ warnings_from s n (drop (k + 1) files)) (one_more k)
    ∙ append_assoc (first_lines file.name s.damages) (more_lines file.name s.more) left
    ∙ ap (λ (ns : List ℕ). first_lines ns s.damages ++ (more_lines ns s.more ++ left)) (sym called)
    ∙ ap (λ (ds : List InputDamage). first_lines name ds ++ (more_lines name s.more ++ left)) (sym of)
    ∙ ap (λ (ms : List MoreDamage). first_lines name damages ++ (more_lines name ms ++ left)) (sym others)) way
  where
    one_more : (n : ℕ) → suc n ≡ n + 1
    one_more n = omega arith

    left : List (List ℕ)
    left = warnings_from s (k + 1) (drop (k + 1) files)

    first_lines : List ℕ → List InputDamage → List (List ℕ)
    first_lines ns ds = map (λ (d : InputDamage). warning_line ns d.damage) (damages_at k ds)

    more_lines : List ℕ → List MoreDamage → List (List ℕ)
    more_lines ns ms = map (λ (m : MoreDamage). more_damages_line ns m.count) (more_at k ms)

-- In the end all warnings are printed.
pub warnings-end : (old new : ReportLines) (all : List (List ℕ)) (s : Summary) (files : List FileWords) (k : ℕ) → length files ≤ k → SaysUpTo old new all (warnings_from s k (drop k files)) → new ≡ with_lines old all
warnings-end old new all s files k past way =
    SaysUpTo-ends old new all (subst (SaysUpTo old new all) (ap (warnings_from s k) (drop_all k files past)) way)
