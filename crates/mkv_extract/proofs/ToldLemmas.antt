-- The lines of an extraction, one target at a time.
use Rattle.std.proofs.Common.{◌≡◌, ℕ, nat_eq, zero, suc, ◌+◌, ◌<◌, ◌≤◌, ◌==◌, nat_le, nat_lt, Bool, true, false, not, ◌||◌, ◌&&◌, if◌then◌else◌, List, [], ◌∷◌, ◌++◌, length, take, drop, get_or, map, filter, Option, Some, None, slice_get, Result, Ok, Err, refl, sym, ◌∙◌, ap, subst, arith}
use Rattle.std.proofs.lemmas.Bool.{eqb-true, lt-ltb, le-ltb}
use Rattle.std.proofs.lemmas.List.{drop_all, take_more}
use Rattle.std.proofs.lemmas.List.Folds.{list_any-append}
use Rattle.std.specs.List.{find, list_any}
use Rattle.std.specs.Option.{option_map, option_map_or}
use Rattle.mkv_io.specs.declared.damage.Damage.{Damage}
use Rattle.mkv_io.specs.Lists.{is_some_of}
use Rattle.requests.specs.declared.job.Target.{Target}
use Rattle.tree_format.specs.Node.{Node}
use Rattle.mkv_lines.specs.Line.{warning_line, wrote_line}
use Rattle.mkv_lines.specs.Said.{ReportLines, SaysUpTo}
use Rattle.extractors.specs.Content.{names_in}
use Rattle.requests.specs.declared.job.Form.{Form}
use Rattle.extractors.specs.Codec.{coding_of}
use Rattle.extractors.specs.Job.{first_unfit, is_unfit, names_unfit, output_for, outputs_for, track_output}
use Rattle.extractors.specs.declared.frame_form.Coding.{Coding}
use Rattle.extractors.specs.declared.frame_form.UnsupportedTrack.{UnsupportedTrack}
use Rattle.extractors.specs.declared.frame_form.UnsupportedTrack.TheVariants.{NoExtractor, BadConfig}
use Rattle.mkv_extract.specs.Extract.{absent, once}
use Rattle.mkv_extract.specs.Read.{is_named}
use Rattle.mkv_extract.specs.Told.{has_absent, written}
use Rattle.mkv_extract.specs.ToldNumbers.{HasJoined, HasNumbersOf}
use Rattle.lemmas.proofs.PlainLemmas.{or-true as or_true}
pub use Rattle.lemmas.proofs.PlainLemmas.{drop-get_or as next-left}

-- ---- the tracks that a file lacks

-- the numbers that targets name
ids_of : List Target → List ℕ
ids_of targets = map (λ (t : Target). t.id) targets

-- The number isn't among the targets that were passed.
is_new : List Target → ℕ → Bool
is_new seen n = not (is_named seen n)

or_false : (a : Bool) → (a || false) ≡ a
or_false true = refl
or_false false = refl

-- A number is named by the targets passed or by one more.
seen_more : (seen : List Target) (t : Target) (n : ℕ) → is_named (seen ++ t ∷ []) n ≡ (is_named seen n || (t.id == n))
seen_more seen t n = list_any-append (λ (each : Target). each.id == n) seen (t ∷ []) ∙ ap (λ (a : Bool). is_named seen n || a) (or_false (t.id == n))

-- Filtering by both conditions is filtering in two steps.
filter_both : (seen : List Target) (t : Target) (ns : List ℕ) → filter (λ n. is_new seen n) (filter (λ m. not (t.id == m)) ns) ≡ filter (λ n. is_new (seen ++ t ∷ []) n) ns
unfolding is_new
filter_both seen t [] = refl
filter_both seen t (n ∷ ns) = step (filter_both seen t ns) (t.id == n) refl
  where
    step : filter (λ m. is_new seen m) (filter (λ m. not (t.id == m)) ns) ≡ filter (λ m. is_new (seen ++ t ∷ []) m) ns → (same : Bool) → (t.id == n) ≡ same
        → filter (λ m. is_new seen m) (if not same then n ∷ filter (λ m. not (t.id == m)) ns else filter (λ m. not (t.id == m)) ns) ≡ (if is_new (seen ++ t ∷ []) n then n ∷ filter (λ m. is_new (seen ++ t ∷ []) m) ns else filter (λ m. is_new (seen ++ t ∷ []) m) ns)
    step rest true is = rest ∙ ap (λ (a : Bool). if not a then n ∷ filter (λ m. is_new (seen ++ t ∷ []) m) ns else filter (λ m. is_new (seen ++ t ∷ []) m) ns)
        (sym (seen_more seen t n ∙ ap (λ (a : Bool). is_named seen n || a) is ∙ or_true (is_named seen n)))
    step rest false is = ap (λ (ms : List ℕ). if is_new seen n then n ∷ ms else ms) rest
        ∙ ap (λ (a : Bool). if not a then n ∷ filter (λ m. is_new (seen ++ t ∷ []) m) ns else filter (λ m. is_new (seen ++ t ∷ []) m) ns)
        (sym (seen_more seen t n ∙ ap (λ (a : Bool). is_named seen n || a) is ∙ or_false (is_named seen n)))

-- the remaining numbers after the targets `seen`: each once, not named before, and at least `count`
pub absent_left : ℕ → List Target → List Target → List ℕ
absent_left count seen targets = filter (λ n. nat_le count n) (filter (λ n. is_new seen n) (once (ids_of targets)))

-- At first all numbers remain.
pub absent_left-all : (count : ℕ) (targets : List Target) → absent_left count [] targets ≡ absent count targets
unfolding absent_left is_new ids_of
absent_left-all count targets = ap (filter (λ n. nat_le count n)) (all (once (map (λ (t : Target). t.id) targets)))
  where
    all : (ns : List ℕ) → filter (λ n. is_new [] n) ns ≡ ns
    all [] = refl
    all (n ∷ ns) = ap (λ (ms : List ℕ). n ∷ ms) (all ns)

-- The next number is one of them, or it isn't.
absent_left-step : (count : ℕ) (seen : List Target) (t : Target) (rest : List Target) → absent_left count seen (t ∷ rest) ≡ (if nat_le count t.id && not (is_named seen t.id) then t.id ∷ absent_left count (seen ++ t ∷ []) rest else absent_left count (seen ++ t ∷ []) rest)
unfolding absent_left is_new ids_of
absent_left-step count seen t rest =
    ap (λ (ms : List ℕ). filter (λ n. nat_le count n) (if is_new seen t.id then t.id ∷ ms else ms)) (filter_both seen t (once (ids_of rest)))
    ∙ step (nat_le count t.id) (is_named seen t.id) refl
  where
    left : List ℕ
    left = filter (λ n. is_new (seen ++ t ∷ []) n) (once (ids_of rest))

    step : (large named : Bool) → nat_le count t.id ≡ large → filter (λ n. nat_le count n) (if not named then t.id ∷ left else left) ≡ (if large && not named then t.id ∷ filter (λ n. nat_le count n) left else filter (λ n. nat_le count n) left)
    step true true is = refl
    step false true is = refl
    step true false is = ap (λ (a : Bool). if a then t.id ∷ filter (λ n. nat_le count n) left else filter (λ n. nat_le count n) left) is
    step false false is = ap (λ (a : Bool). if a then t.id ∷ filter (λ n. nat_le count n) left else filter (λ n. nat_le count n) left) is

-- At the end no number remains.
pub absent_left-none : (count : ℕ) (seen : List Target) → absent_left count seen [] ≡ []
unfolding absent_left ids_of
absent_left-none count seen = refl

-- The next number is reported, or it is passed.
pub absent-next : (old now : ReportLines) (all : List (List ℕ)) (line : ℕ → List ℕ) (count : ℕ) (targets : List Target) (k : ℕ) (t : Target) (told : Bool) → k < length targets → t ≡ get_or targets k t → (nat_le count t.id && not (is_named (take k targets) t.id)) ≡ told → SaysUpTo old now all (map line (absent_left count (take k targets) (drop k targets)))
    → SaysUpTo old now all (map line (if told then t.id ∷ absent_left count (take (k + 1) targets) (drop (k + 1) targets) else absent_left count (take (k + 1) targets) (drop (k + 1) targets)))
absent-next old now all line count targets k t told below is tells way =
    let rest : List Target → List ℕ = λ seen. absent_left count seen (drop (k + 1) targets) in
    subst (SaysUpTo old now all)
    (ap (map line)
    (ap (absent_left count (take k targets)) (next-left targets k t below is)
    ∙ absent_left-step count (take k targets) t (drop (k + 1) targets)
    ∙ ap (λ (seen : List Target). if nat_le count t.id && not (is_named (take k targets) t.id) then t.id ∷ rest seen else rest seen) (ap (λ (each : Target). take k targets ++ each ∷ []) is ∙ sym (take_more targets k t below))
    ∙ ap (λ (a : Bool). if a then t.id ∷ rest (take (k + 1) targets) else rest (take (k + 1) targets)) tells)) way

-- At the end all lines were printed.
pub absent-ends : (count : ℕ) (targets : List Target) (k : ℕ) (line : ℕ → List ℕ) → length targets ≤ k → map (line) (absent_left count (take k targets) (drop k targets)) ≡ []
absent-ends count targets k line all =
    ap (λ (rest : List Target). map (line) (absent_left count (take k targets) rest)) (drop_all k targets all)
    ∙ ap (map (line)) (absent_left-none count (take k targets))

-- ---- the numbers that were reported

-- At first no number is.
pub numbers-none : (count : ℕ) → HasNumbersOf count [] []
numbers-none count n from = refl

-- A number is among the reported ones exactly if a target before names it.
pub numbers-told : (count : ℕ) (seen : List Target) (numbers : List ℕ) (n : ℕ) → HasNumbersOf count seen numbers → (nat_le count n && not (list_any (nat_eq n) numbers)) ≡ (nat_le count n && not (is_named seen n))
numbers-told count seen numbers n has = by (nat_le count n) refl
  where
    by : (from : Bool) → nat_le count n ≡ from → (from && not (list_any (nat_eq n) numbers)) ≡ (from && not (is_named seen n))
    by false is = refl
    by true is = ap not (has n is)

-- The number of the next target joins them.
pub numbers-more : (count : ℕ) (targets : List Target) (k : ℕ) (t : Target) (old new : List ℕ) → k < length targets → t ≡ get_or targets k t → HasNumbersOf count (take k targets) old → HasJoined count t.id old new → HasNumbersOf count (take (k + 1) targets) new
numbers-more count targets k t old new below is has joined n from =
    joined n from
    ∙ ap (λ (a : Bool). a || (t.id == n)) (has n from)
    ∙ sym (seen_more (take k targets) t n)
    ∙ ap (λ (seen : List Target). is_named seen n) (ap (λ (each : Target). take k targets ++ each ∷ []) is ∙ sym (take_more targets k t below))

-- ---- the existence of such a number

-- Removing a number that fails a test doesn't change whether any passes it.
any-left : (p : ℕ → Bool) (n : ℕ) (ns : List ℕ) → p n ≡ false → list_any p (filter (λ m. not (n == m)) ns) ≡ list_any p ns
any-left p n [] fails = refl
any-left p n (m ∷ ms) fails = step (n == m) refl (any-left p n ms fails)
  where
    step : (same : Bool) → (n == m) ≡ same → list_any p (filter (λ k. not (n == k)) ms) ≡ list_any p ms
        → list_any p (if not same then m ∷ filter (λ k. not (n == k)) ms else filter (λ k. not (n == k)) ms) ≡ (p m || list_any p ms)
    step true is rest = rest ∙ ap (λ (a : Bool). a || list_any p ms) (sym (ap p (sym (eqb-true n m is)) ∙ fails))
    step false is rest = ap (λ (a : Bool). p m || a) rest

any-once : (p : ℕ → Bool) (ns : List ℕ) → list_any p (once ns) ≡ list_any p ns
any-once p [] = refl
any-once p (n ∷ ns) = step (p n) refl (any-once p ns)
  where
    step : (here : Bool) → p n ≡ here → list_any p (once ns) ≡ list_any p ns → (here || list_any p (filter (λ m. not (n == m)) (once ns))) ≡ (here || list_any p ns)
    step true is rest = refl
    step false is rest = any-left p n (once ns) is ∙ rest

any-line : (line : ℕ → List ℕ) (p : ℕ → Bool) (ns : List ℕ) → is_some_of (map line (filter p ns)) ≡ list_any p ns
any-line line p [] = refl
any-line line p (n ∷ ns) = step (p n) (any-line line p ns)
  where
    step : (here : Bool) → is_some_of (map line (filter p ns)) ≡ list_any p ns → is_some_of (map line (if here then n ∷ filter p ns else filter p ns)) ≡ (here || list_any p ns)
    step true rest = refl
    step false rest = rest

-- A line is printed exactly if targets name a missing item.
pub any-absent : (line : ℕ → List ℕ) (count : ℕ) (targets : List Target) → is_some_of (map line (absent count targets)) ≡ has_absent count targets
any-absent line count targets = any-line line (nat_le count) (once (map (λ (t : Target). t.id) targets)) ∙ any-once (nat_le count) (map (λ (t : Target). t.id) targets) ∙ ids targets
  where
    ids : (ts : List Target) → list_any (nat_le count) (map (λ (t : Target). t.id) ts) ≡ has_absent count ts
    ids [] = refl
    ids (t ∷ ts) = ap (λ (a : Bool). nat_le count t.id || a) (ids ts)

-- ---- the outputs

-- The line of an output is printed.
pub written-said : (old now : ReportLines) (all : List (List ℕ)) (count : ℕ) (targets : List Target) (k : ℕ) (t : Target) → k < length targets → t ≡ get_or targets k t → t.id < count → SaysUpTo old now all (map wrote_line (written count (drop k targets))) → SaysUpTo old now all (wrote_line t.name ∷ map wrote_line (written count (drop (k + 1) targets)))
written-said old now all count targets k t below is there way =
    subst (SaysUpTo old now all)
    (ap (λ (left : List Target). map wrote_line (written count left)) (next-left targets k t below is)
    ∙ ap (λ (a : Bool). map wrote_line ((if a then t.name ∷ [] else []) ++ written count (drop (k + 1) targets))) (lt-ltb _ _ there)) way

-- ---- the items that targets name

-- The index of a missing item is past the end.
pub slice_get-past : {A : Type 0} (xs : List A) (k : ℕ) → slice_get xs k ≡ None → length xs ≤ k
slice_get-past [] k found = omega arith
slice_get-past (x ∷ xs) zero found = absurd (cc)
slice_get-past (x ∷ xs) (suc k) found = let rest = slice_get-past xs k found in omega arith

-- The index of an existing item is inside the list.
pub slice_get-within : {A : Type 0} (xs : List A) (k : ℕ) (x : A) → slice_get xs k ≡ Some x → k < length xs
slice_get-within [] k x found = absurd (cc)
slice_get-within (first ∷ xs) zero x found = omega arith
slice_get-within (first ∷ xs) (suc k) x found = let rest = slice_get-within xs k x found in omega arith

-- If no target is unfit, the first isn't.
unfit-first : (why : UnsupportedTrack) (kind : Form) (t : Target) (ts : List Target) (entries : List Node) → first_unfit why kind (t ∷ ts) entries ≡ None → (names_unfit why kind entries t ≡ false) × (first_unfit why kind ts entries ≡ None)
unfit-first why kind t ts entries none = split (names_unfit why kind entries t) (find (names_unfit why kind entries) ts) none
  where
    split : (unfit : Bool) (rest : Option Target) → option_map (λ (each : Target). each.id) (if unfit then Some t else rest) ≡ None → (unfit ≡ false) × (option_map (λ (each : Target). each.id) rest ≡ None)
    split true rest is = absurd (cc)
    split false rest is = (refl, is)

-- A target whose track isn't extracted in this form is unfit.
unfit-named : (why : UnsupportedTrack) (kind : Form) (t : Target) (entries : List Node) (e : Node) → slice_get entries t.id ≡ Some e → coding_of kind e ≡ Err why → names_unfit why kind entries t ≡ true
unfit-named why kind t entries e found read =
    ap (λ (entry : Option Node). option_map_or (λ (each : Node). is_unfit why (coding_of kind each)) entry false) found
    ∙ ap (is_unfit why) read ∙ same why
  where
    same : (w : UnsupportedTrack) → is_unfit w (Err w) ≡ true
    same NoExtractor = refl
    same BadConfig = refl

-- The outputs of a job without an unfit target have these names.
pub written-names : (kind : Form) (targets : List Target) (entries : List Node) → first_unfit NoExtractor kind targets entries ≡ None → first_unfit BadConfig kind targets entries ≡ None → names_in (outputs_for kind targets entries) ≡ written (length entries) targets
written-names kind [] entries known good = refl
written-names kind (t ∷ ts) entries known good =
    step (written-names kind ts entries (unfit-first NoExtractor kind t ts entries known).1 (unfit-first BadConfig kind t ts entries good).1) (slice_get entries t.id) refl
  where
    told : names_in (outputs_for kind ts entries) ≡ written (length entries) ts → (e : Node) → slice_get entries t.id ≡ Some e → (read : Result Coding UnsupportedTrack) → coding_of kind e ≡ read → names_in (track_output t.name e read ++ outputs_for kind ts entries) ≡ (if nat_lt t.id (length entries) then t.name ∷ [] else []) ++ written (length entries) ts
    told rest e found (Ok coding) read =
        ap (λ (names : List (List ℕ)). t.name ∷ names) rest
        ∙ ap (λ (a : Bool). (if a then t.name ∷ [] else []) ++ written (length entries) ts) (sym (lt-ltb _ _ (slice_get-within entries t.id e found)))
    told rest e found (Err NoExtractor) read =
        let yes = unfit-named NoExtractor kind t entries e found read in
        let no = (unfit-first NoExtractor kind t ts entries known).0 in
        absurd (cc)
    told rest e found (Err BadConfig) read =
        let yes = unfit-named BadConfig kind t entries e found read in
        let no = (unfit-first BadConfig kind t ts entries good).0 in
        absurd (cc)

    step : names_in (outputs_for kind ts entries) ≡ written (length entries) ts → (entry : Option Node) → slice_get entries t.id ≡ entry → names_in (output_for kind t entry ++ outputs_for kind ts entries) ≡ (if nat_lt t.id (length entries) then t.name ∷ [] else []) ++ written (length entries) ts
    step rest None found =
        rest ∙ ap (λ (a : Bool). (if a then t.name ∷ [] else []) ++ written (length entries) ts) (sym (le-ltb _ _ (slice_get-past entries t.id found)))
    step rest (Some e) found = told rest e found (coding_of kind e) refl

-- ---- the damaged places

-- The next warning is the first of the rest.
pub warnings-next : (old now : ReportLines) (all : List (List ℕ)) (name : List ℕ) (first : List Damage) (k : ℕ) (d : Damage) → k < length first → d ≡ get_or first k d → SaysUpTo old now all (map (warning_line name) (drop k first)) → SaysUpTo old now all (warning_line name d ∷ map (warning_line name) (drop (k + 1) first))
warnings-next old now all name first k d below is way = subst (SaysUpTo old now all) (ap (map (warning_line name)) (next-left first k d below is)) way
