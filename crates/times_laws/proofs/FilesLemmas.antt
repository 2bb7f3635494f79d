-- Timestamp files, with one more file.
use Rattle.std.proofs.Common.{◌≡◌, ◌<◌, ◌≤◌, ℕ, zero, suc, ◌+◌, ◌-◌, ◌==◌, Bool, true, false, if◌then◌else◌, nat_lt, List, [], ◌∷◌, ◌++◌, length, map, Option, Some, None, Result, Ok, Err, refl, sym, ap, ap₂, subst, ◌∙◌, arith, append_assoc, eq-eqb, ◌&&◌, ◌||◌, filter, inl, inr, ◌⊎◌, length-append}
use Rattle.std.specs.Prelude.{cond, is_some, min}
use Rattle.std.specs.List.{All, find, slice_get}
use Rattle.std.specs.Option.{option_and_then, option_or}
use Rattle.std.proofs.lemmas.Bool.Decides.{nat_tests}
use Rattle.std.proofs.lemmas.Grind.{flat_map-append}
use Rattle.std.proofs.lemmas.List.{map-append}
use Rattle.std.proofs.lemmas.List.Elements.{All-append, All-cons, All-head, All-map, All-nil, All-tail, All-weaker, filter-append}
use Rattle.std.proofs.lemmas.List.Folds.{find-append}
use Rattle.ext_times.specs.Listing.{Listing, listing}
use Rattle.requests.specs.declared.merge.FileWords.{FileWords}
use Rattle.input_files.specs.TextFile.{unless_bad}
use Rattle.input_files.specs.TimesFile.{given_by, given_with, named_from, named_of, size_with, times_from}
use Rattle.input_files.specs.declared.limits.TheConstants.{MAX_ALL_TIMES_LEN, MAX_TIMES_LEN}
use Rattle.input_files.specs.declared.refusal.TextRefusal.TheVariants.{TooLarge}
use Rattle.input_files.specs.declared.times_file.TimesFile.{TimesFile}
use Rattle.input_files.specs.declared.times_file.TimesGiven.{TimesGiven}
use Rattle.input_files.specs.declared.times_file.TimesGiven.TheVariants.{Missing, Read, Refused}
use Rattle.input_files.specs.declared.times_file.TimesName.{TimesName}
use Rattle.mkv_merge.specs.Texts.{given_listing, listings_at, missing_by, missing_times, refusal_by, refusal_of_first, times_refusal}
use Rattle.mkv_merge.specs.declared.refusal.Refusal.{Refusal}
use Rattle.merge_inputs.specs.Taken.{value_for}
use Rattle.times_laws.specs.GivenBack.{HasOption, World, is_timed, is_too_long, set_input}
use Rattle.times_laws.proofs.AlikeLemmas.{ListsMore}

-- ---- named files

-- The second file isn't for the track of the first one.
abbrev pub IsOther : TimesName → TimesName → Type 0
IsOther n m = (m.input == n.input && m.id == n.id) ≡ false

-- `new` has one more named file than `old`; no later file is for the same track.
pub record IsNamedMore (n : TimesName) (new old : List TimesName) : Type 0 where
  pub before : List TimesName
  pub behind : List TimesName
  pub old_is : old ≡ before ++ behind
  pub new_is : new ≡ before ++ n ∷ behind
  pub alone : All (IsOther n) behind

named-from : (first : ℕ) (files : List FileWords) → All (λ (m : TimesName). first ≤ m.input) (named_from first files)
named-from first [] = All-nil (λ (m : TimesName). first ≤ m.input)
named-from first (w ∷ ws) =
    All-append (λ (m : TimesName). first ≤ m.input) (map (named_of first) w.times) (named_from (suc first) ws)
    (All-map (λ (m : TimesName). first ≤ m.input) (named_of first) w.times (λ k d below. omega arith))
    (All-weaker (λ (m : TimesName). suc first ≤ m.input) (λ (m : TimesName). first ≤ m.input) (λ m above. omega arith) (named_from (suc first) ws) (named-from (suc first) ws))

-- The files of later inputs are for other tracks.
later : (n : TimesName) (m : TimesName) → suc n.input ≤ m.input → IsOther n m
later n m above = let input : (m.input == n.input) ≡ false = grind (arith, nat_tests) in ap (λ (b : Bool). b && m.id == n.id) input

-- Later files of the same input are for other tracks.
own-behind : (n : TimesName) (pairs : List (ℕ × List ℕ)) → is_timed n.id pairs ≡ false → All (IsOther n) (map (named_of n.input) pairs)
own-behind n [] none = All-nil (IsOther n)
own-behind n (p ∷ ps) none = by_id (p.0 == n.id) refl none (own-behind n ps)
  where
    second : (b : Bool) → (b && false) ≡ false
    second true = refl
    second false = refl

    by_id : (b : Bool) → (p.0 == n.id) ≡ b → (b || is_timed n.id ps) ≡ false → (is_timed n.id ps ≡ false → All (IsOther n) (map (named_of n.input) ps)) → All (IsOther n) (map (named_of n.input) (p ∷ ps))
    by_id true is some rest = absurd (cc)
    by_id false is left rest =
        All-cons (IsOther n) (named_of n.input p) (map (named_of n.input) ps) (ap (λ (b : Bool). n.input == n.input && b) is ∙ second (n.input == n.input)) (rest left)

pub named-more : (first k id : ℕ) (name : List ℕ) (new own : FileWords) (files : List FileWords) → HasOption id name new own → slice_get files k ≡ Some own
    → IsNamedMore (record { input = first + k; id = id; name = name }) (named_from first (set_input k new files)) (named_from first files)
named-more first k id name new own [] option found = absurd (cc)
named-more first zero id name new own (w ∷ ws) option found =
    let none : first + 0 ≡ first = omega arith in
    let same : w ≡ own = cc in
    let n : TimesName = record { input = first; id = id; name = name } in
    let rest : List TimesName = named_from (suc first) ws in
    let front : List TimesName = map (named_of first) option.before in
    let back : List TimesName = map (named_of first) option.behind in
    subst (λ (input : ℕ). IsNamedMore (record { input = input; id = id; name = name }) (named_from first (new ∷ ws)) (named_from first (w ∷ ws))) (sym none) (record {
      before = map (named_of first) option.before;
      behind = map (named_of first) option.behind ++ named_from (suc first) ws;
      old_is = ap (λ (pairs : List (ℕ × List ℕ)). map (named_of first) pairs ++ rest) (ap (λ (f : FileWords). f.times) same ∙ option.without)
          ∙ ap (λ (ms : List TimesName). ms ++ rest) (map-append (named_of first) option.before option.behind) ∙ append_assoc front back rest;
      new_is = ap (λ (pairs : List (ℕ × List ℕ)). map (named_of first) pairs ++ rest) option.times
          ∙ ap (λ (ms : List TimesName). ms ++ rest) (map-append (named_of first) option.before ((id, name) ∷ option.behind)) ∙ append_assoc front (n ∷ back) rest;
      alone = All-append (IsOther n) back rest (own-behind n option.behind option.alone) (All-weaker (λ (m : TimesName). suc first ≤ m.input) (IsOther n) (later n) rest (named-from (suc first) ws));
    })
named-more first (suc k) id name new own (w ∷ ws) option found =
    let rest = named-more (suc first) k id name new own ws option found in
    let same : suc first + k ≡ first + suc k = omega arith in
    let front : List TimesName = map (named_of first) w.times in
    subst (λ (input : ℕ). IsNamedMore (record { input = input; id = id; name = name }) (named_from first (w ∷ set_input k new ws)) (named_from first (w ∷ ws))) same (record {
      before = front ++ rest.before;
      behind = rest.behind;
      old_is = ap (λ (ms : List TimesName). front ++ ms) rest.old_is ∙ sym (append_assoc front rest.before rest.behind);
      new_is = ap (λ (ms : List TimesName). front ++ ms) rest.new_is ∙ sym (append_assoc front rest.before (record { input = suc first + k; id = id; name = name } ∷ rest.behind));
      alone = rest.alone;
    })

-- ---- results of the files

-- the number of files that are too long
abbrev pub count_long : List TimesFile → ℕ
count_long files = length (filter (λ (f : TimesFile). is_too_long f.given) files)

-- One more file counts if it is too long.
count-cons : (f : TimesFile) (files : List TimesFile) (b : Bool) → is_too_long f.given ≡ b → count_long (f ∷ files) ≡ (if b then suc (count_long files) else count_long files)
count-cons f files b is = ap (λ (c : Bool). length (if c then f ∷ filter long files else filter long files)) is ∙ by_test b
  where
    long : TimesFile → Bool
    long g = is_too_long g.given

    by_test : (c : Bool) → length (if c then f ∷ filter long files else filter long files) ≡ (if c then suc (count_long files) else count_long files)
    by_test true = refl
    by_test false = refl

count-append : (before behind : List TimesFile) → count_long (before ++ behind) ≡ count_long before + count_long behind
count-append before behind =
    ap length (filter-append (λ (f : TimesFile). is_too_long f.given) before behind)
    ∙ length-append (filter (λ (f : TimesFile). is_too_long f.given) before) (filter (λ (f : TimesFile). is_too_long f.given) behind)

module _ (world : World) where
  -- Some room is left after the files.
  times-behind : (room : ℕ) (before : List TimesName) → (left : ℕ) × ((behind : List TimesName) → times_from world room (before ++ behind) ≡ times_from world room before ++ times_from world left behind)
  times-behind room [] = (room, λ behind. refl)
  times-behind room (m ∷ ms) =
      let rest = times-behind (room - size_with (world m.name)) ms in
      (rest.0, λ behind. ap (λ (fs : List TimesFile). record { named = m; given = given_with room (world m.name) } ∷ fs) (rest.1 behind))

  -- With less room a file has the same result, or becomes too long.
  given-less : (room less : ℕ) (o : Option (List ℕ)) → less ≤ room
      → (given_with less o ≡ given_with room o) ⊎ ((is_too_long (given_with less o) ≡ true) × (is_too_long (given_with room o) ≡ false))
  given-less room less None fits = inl refl
  given-less room less (Some bytes) fits = by_tests (nat_lt (min less MAX_TIMES_LEN) (length bytes)) (nat_lt (min room MAX_TIMES_LEN) (length bytes)) refl refl
    where
      given : Bool → TimesGiven
      given long = given_by (if long then Err TooLarge else unless_bad (listing bytes))

      bad-short : (r : Result Listing ℕ) → is_too_long (given_by (unless_bad r)) ≡ false
      bad-short (Ok times) = refl
      bad-short (Err line) = refl

      by_tests : (c b : Bool) → nat_lt (min less MAX_TIMES_LEN) (length bytes) ≡ c → nat_lt (min room MAX_TIMES_LEN) (length bytes) ≡ b → (given c ≡ given b) ⊎ ((is_too_long (given c) ≡ true) × (is_too_long (given b) ≡ false))
      by_tests true true is is' = inl refl
      by_tests false false is is' = inl refl
      by_tests true false is is' = inr (refl, bad-short (listing bytes))
      by_tests false true is is' =
          let short : length bytes ≤ min less MAX_TIMES_LEN = grind (arith, nat_tests) in
          let long : min room MAX_TIMES_LEN < length bytes = grind (arith, nat_tests) in
          absurd (omega arith)

  -- With less room at least as many files are too long.
  count-less : (room less : ℕ) (names : List TimesName) → less ≤ room → count_long (times_from world room names) ≤ count_long (times_from world less names)
  count-less room less [] fits = omega arith
  count-less room less (m ∷ ms) fits =
      by_given (given-less room less (world m.name) fits) (count-less (room - size_with (world m.name)) (less - size_with (world m.name)) ms (omega arith))
    where
      more : List TimesFile
      more = times_from world (room - size_with (world m.name)) ms

      fewer : List TimesFile
      fewer = times_from world (less - size_with (world m.name)) ms

      file : ℕ → TimesFile
      file r = record { named = m; given = given_with r (world m.name) }

      by_test : (b : Bool) → count_long more ≤ count_long fewer → (if b then suc (count_long more) else count_long more) ≤ (if b then suc (count_long fewer) else count_long fewer)
      by_test true rest = omega arith
      by_test false rest = rest

      by_given : (given_with less (world m.name) ≡ given_with room (world m.name)) ⊎ ((is_too_long (given_with less (world m.name)) ≡ true) × (is_too_long (given_with room (world m.name)) ≡ false))
          → count_long more ≤ count_long fewer → count_long (file room ∷ more) ≤ count_long (file less ∷ fewer)
      by_given (inl same) rest =
          let b : Bool = is_too_long (given_with room (world m.name)) in
          let one = count-cons (file room) more b refl in
          let two = count-cons (file less) fewer b (ap is_too_long same) in
          rw (one, two) (by_test b rest)
      by_given (inr is) rest =
          let one = count-cons (file room) more false is.1 in
          let two = count-cons (file less) fewer true is.0 in
          omega (arith, one, two, rest)

  -- If equally many files are too long with less room, the results are the same.
  times-less : (room less : ℕ) (names : List TimesName) → less ≤ room → count_long (times_from world less names) ≡ count_long (times_from world room names) → times_from world less names ≡ times_from world room names
  times-less room less [] fits same = refl
  times-less room less (m ∷ ms) fits same =
      by_given (given-less room less (world m.name) fits) (times-less (room - size_with (world m.name)) (less - size_with (world m.name)) ms (omega arith))
    where
      more : List TimesFile
      more = times_from world (room - size_with (world m.name)) ms

      fewer : List TimesFile
      fewer = times_from world (less - size_with (world m.name)) ms

      file : ℕ → TimesFile
      file r = record { named = m; given = given_with r (world m.name) }

      by_test : (b : Bool) → (if b then suc (count_long fewer) else count_long fewer) ≡ (if b then suc (count_long more) else count_long more) → count_long fewer ≡ count_long more
      by_test true is = omega arith
      by_test false is = is

      by_given : (given_with less (world m.name) ≡ given_with room (world m.name)) ⊎ ((is_too_long (given_with less (world m.name)) ≡ true) × (is_too_long (given_with room (world m.name)) ≡ false))
          → (count_long fewer ≡ count_long more → fewer ≡ more) → file less ∷ fewer ≡ file room ∷ more
      by_given (inl is) rest =
          let b : Bool = is_too_long (given_with room (world m.name)) in
          let one = count-cons (file room) more b refl in
          let two = count-cons (file less) fewer b (ap is_too_long is) in
          ap₂ (λ (g : TimesGiven) (fs : List TimesFile). record { named = m; given = g } ∷ fs) is (rest (by_test b (sym two ∙ same ∙ one)))
      by_given (inr is) rest =
          let one = count-cons (file room) more false is.1 in
          let two = count-cons (file less) fewer true is.0 in
          let most = count-less (room - size_with (world m.name)) (less - size_with (world m.name)) ms (omega arith) in
          absurd (omega (arith, one, two, same, most))

  -- The result of a file that isn't too long and lists timestamps.
  given-read : (room : ℕ) (bytes : List ℕ) (times : Listing) → is_too_long (given_with room (Some bytes)) ≡ false → listing bytes ≡ Ok times → given_with room (Some bytes) ≡ Read times
  given-read room bytes times short is = by_test (nat_lt (min room MAX_TIMES_LEN) (length bytes)) short
    where
      by_test : (b : Bool) → is_too_long (given_by (if b then Err TooLarge else unless_bad (listing bytes))) ≡ false → given_by (if b then Err TooLarge else unless_bad (listing bytes)) ≡ Read times
      by_test true none = absurd (cc)
      by_test false none = ap (λ (r : Result Listing ℕ). given_by (unless_bad r)) is

  -- Files for other tracks list nothing for this track.
  none-listed : (n : TimesName) (room : ℕ) (names : List TimesName) → All (IsOther n) names → value_for n.id (listings_at n.input (times_from world room names)) ≡ None
  none-listed n room [] other = refl
  none-listed n room (m ∷ ms) other =
      by_input (m.input == n.input) (given_with room (world m.name)) (All-head (IsOther n) m ms other) (none-listed n (room - size_with (world m.name)) ms (All-tail (IsOther n) m ms other))
    where
      rest : List (ℕ × Listing)
      rest = listings_at n.input (times_from world (room - size_with (world m.name)) ms)

      by_input : (b : Bool) (g : TimesGiven) → (b && m.id == n.id) ≡ false → value_for n.id rest ≡ None → value_for n.id ((if b then given_listing m.id g else []) ++ rest) ≡ None
      by_input false g is none = none
      by_input true Missing is none = none
      by_input true (Refused why) is none = none
      by_input true (Read times) is none = ap (λ (b : Bool). if b then Some times else value_for n.id rest) is ∙ none

-- ---- one more file

-- `new` has one more file than `old`, which lists the timestamps `times`. No later file lists any for the same track.
pub record AreMore (n : TimesName) (times : Listing) (new old : List TimesFile) : Type 0 where
  pub before : List TimesFile
  pub behind : List TimesFile
  pub old_is : old ≡ before ++ behind
  pub new_is : new ≡ before ++ record { named = n; given = Read times } ∷ behind
  pub alone : value_for n.id (listings_at n.input behind) ≡ None

pub times-more : (world : World) (n : TimesName) (new old : List TimesName) (bytes : List ℕ) (times : Listing) → IsNamedMore n new old → world n.name ≡ Some bytes → listing bytes ≡ Ok times
    → count_long (times_from world MAX_ALL_TIMES_LEN new) ≡ count_long (times_from world MAX_ALL_TIMES_LEN old)
    → AreMore n times (times_from world MAX_ALL_TIMES_LEN new) (times_from world MAX_ALL_TIMES_LEN old)
times-more world n new old bytes times names holds is same = by_length (is_too_long (given_with left (world n.name))) refl
  where
    front : List TimesFile
    front = times_from world MAX_ALL_TIMES_LEN names.before

    split : (left : ℕ) × ((behind : List TimesName) → times_from world MAX_ALL_TIMES_LEN (names.before ++ behind) ≡ front ++ times_from world left behind)
    split = times-behind world MAX_ALL_TIMES_LEN names.before

    left : ℕ
    left = split.0

    less : ℕ
    less = left - size_with (world n.name)

    file : TimesFile
    file = record { named = n; given = given_with left (world n.name) }

    new_is : times_from world MAX_ALL_TIMES_LEN new ≡ front ++ (file ∷ times_from world less names.behind)
    new_is = ap (times_from world MAX_ALL_TIMES_LEN) names.new_is ∙ split.1 (n ∷ names.behind)

    old_is : times_from world MAX_ALL_TIMES_LEN old ≡ front ++ times_from world left names.behind
    old_is = ap (times_from world MAX_ALL_TIMES_LEN) names.old_is ∙ split.1 names.behind

    -- The numbers of files that are too long are equal from this file on.
    counts : count_long (file ∷ times_from world less names.behind) ≡ count_long (times_from world left names.behind)
    counts =
        let with_it = ap count_long new_is ∙ count-append front (file ∷ times_from world less names.behind) in
        let without = ap count_long old_is ∙ count-append front (times_from world left names.behind) in
        omega (arith, with_it, without, same)

    by_length : (b : Bool) → is_too_long (given_with left (world n.name)) ≡ b → AreMore n times (times_from world MAX_ALL_TIMES_LEN new) (times_from world MAX_ALL_TIMES_LEN old)
    by_length true long =
        let one = count-cons file (times_from world less names.behind) true long in
        let most = count-less world left less names.behind (omega arith) in
        absurd (omega (arith, one, counts, most))
    by_length false short =
        let one = count-cons file (times_from world less names.behind) false short in
        let given : given_with left (world n.name) ≡ Read times = ap (given_with left) holds ∙ given-read world left bytes times (subst (λ (o : Option (List ℕ)). is_too_long (given_with left o) ≡ false) holds short) is in
        let rest : times_from world less names.behind ≡ times_from world left names.behind = times-less world left less names.behind (omega arith) (sym one ∙ counts) in
        record {
          before = front;
          behind = times_from world left names.behind;
          old_is = old_is;
          new_is = new_is ∙ ap₂ (λ (g : TimesGiven) (fs : List TimesFile). front ++ (record { named = n; given = g } ∷ fs)) given rest;
          alone = none-listed world n left names.behind names.alone;
        }

module _ (n : TimesName) (times : Listing) where
  abbrev file : TimesFile
  file = record { named = n; given = Read times }

  -- The file adds no refusal.
  passed : (why : TimesFile → Option Refusal) → why file ≡ None → (before behind : List TimesFile) → refusal_of_first why (before ++ file ∷ behind) ≡ refusal_of_first why (before ++ behind)
  passed why none before behind =
      let p : TimesFile → Bool = λ f. is_some (why f) in
      ap (option_and_then why)
      (find-append p before (file ∷ behind)
      ∙ ap (λ (o : Option Refusal). option_or (find p before) (cond (is_some o) (Some file) (find p behind))) none
      ∙ sym (find-append p before behind))

  module _ (new old : List TimesFile) (are : AreMore n times new old) where
    pub refusal-more : times_refusal new ≡ times_refusal old
    refusal-more = ap times_refusal are.new_is ∙ passed refusal_by refl are.before are.behind ∙ ap times_refusal (sym are.old_is)

    pub missing-more : missing_times new ≡ missing_times old
    missing-more = ap missing_times are.new_is ∙ passed missing_by refl are.before are.behind ∙ ap missing_times (sym are.old_is)

    -- The timestamps that the files list for an input.
    listed-parts : (input : ℕ) → listings_at input new ≡ listings_at input are.before ++ ((if n.input == input then (n.id, times) ∷ [] else []) ++ listings_at input are.behind)
    listed-parts input =
        ap (listings_at input) are.new_is
        ∙ flat_map-append (λ (f : TimesFile). if f.named.input == input then given_listing f.named.id f.given else []) are.before (record { named = n; given = Read times } ∷ are.behind)

    listed-old : (input : ℕ) → listings_at input old ≡ listings_at input are.before ++ listings_at input are.behind
    listed-old input =
        ap (listings_at input) are.old_is
        ∙ flat_map-append (λ (f : TimesFile). if f.named.input == input then given_listing f.named.id f.given else []) are.before are.behind

    pub lists-more : ListsMore n.input n.id times new old
    lists-more = record {
      before = listings_at n.input are.before;
      behind = listings_at n.input are.behind;
      with = listed-parts n.input ∙ ap (λ (b : Bool). listings_at n.input are.before ++ ((if b then (n.id, times) ∷ [] else []) ++ listings_at n.input are.behind)) (eq-eqb n.input n.input refl);
      without = listed-old n.input;
      alone = are.alone;
      others = λ input not_it.
          listed-parts input
          ∙ ap (λ (b : Bool). listings_at input are.before ++ ((if b then (n.id, times) ∷ [] else []) ++ listings_at input are.behind)) not_it
          ∙ sym (listed-old input);
    }
