-- The warnings by a summary are the warnings of a merge of its sources.
use Rattle.std.proofs.Common.{◌≡◌, ◌≢◌, ℕ, zero, suc, ◌+◌, ◌<◌, ◌≤◌, ◌==◌, nat_lt, max, Bool, true, false, ◌||◌, if◌then◌else◌, List, [], ◌∷◌, ◌++◌, length, map, filter, flat_map, Option, Some, None, refl, sym, ◌∙◌, ap, subst, arith, append-nil}
use Rattle.std.specs.List.{All, enumerate_from, find, list_any, range_with_len, zip}
use Rattle.std.specs.Option.{option_map_or, option_or}
use Rattle.std.proofs.lemmas.Bool.Decides.{nat_tests}
use Rattle.std.proofs.lemmas.List.{length-map}
use Rattle.std.proofs.lemmas.List.Elements.{All-cons, All-head, All-map, All-nil, All-tail, filter-append}
use Rattle.std.proofs.lemmas.List.Folds.{find-append}
use Rattle.mkv_io.specs.declared.damage.Damage.{Damage}
use Rattle.mkv_io.specs.LiveFiles.{LiveFiles}
use Rattle.cluster_reader.specs.ToldDamages.{ToldDamages, told_damages}
use Rattle.merge_model.specs.Lanes.{lane_damages}
use Rattle.merge_model.specs.Links.{Given}
use Rattle.merge_model.specs.FileLinks.{given_in}
use Rattle.remux_plan.specs.Plan.{links_of}
use Rattle.remux_plan.specs.Summary.{count_to, damages_of, first_damages, link_damages, more_damages}
use Rattle.remux_plan.specs.declared.plan.PlannedLane.{PlannedLane}
use Rattle.remux_plan.specs.declared.summary.InputDamage.{InputDamage}
use Rattle.remux_plan.specs.declared.summary.MoreDamage.{MoreDamage}
use Rattle.remux_plan.specs.declared.summary.Summary.{Summary}
use Rattle.requests.specs.declared.merge.FileWords.{FileWords}
use Rattle.merge_inputs.specs.Input.{InputRead}
use Rattle.merge_inputs.specs.declared.taken.TakenTrack.{TakenTrack}
use Rattle.merge_plan.specs.Front.{reads_of}
use Rattle.requests.specs.declared.merge.MergeWords.{MergeWords}
use Rattle.merge_plan.specs.Plan.{Source, inputs_given, inputs_taken, lanes_taken, numbers_of}
use Rattle.merge_plan.specs.Records.{is_appended}
use Rattle.merge_plan.proofs.ChainLemmas.{numbers-below}
use Rattle.merge_plan.proofs.OrderedLemmas.{ordered-all}
use Rattle.mkv_lines.specs.Line.{more_damages_line, warning_line}
use Rattle.mkv_io.specs.Lists.{is_some_of}
use Rattle.mkv_merge.specs.Merge.{damages_met, damages_warned, first_met, has_damage, links_met, warnings}
use Rattle.mkv_merge.specs.Told.{damages_at, input_warnings, more_at, warnings_from}
use Rattle.lemmas.proofs.PlainLemmas.{differ-false as other-is, neither-true as neither}

-- ---- tests of numbers

same-is : (n : ℕ) → (n == n) ≡ true
same-is n = grind (arith, nat_tests)

is-same : (n k : ℕ) → (n == k) ≡ true → n ≡ k
is-same n k is = grind (arith, nat_tests)

is-other : (n k : ℕ) → (n == k) ≡ false → n ≢ k
is-other n k is = grind (arith, nat_tests)

-- ---- damage of the inputs

-- the links, each with its input's number and the damage of its file
abbrev Tagged : Type 0
Tagged = List (ℕ × List Damage)

links-are : (f : LiveFiles) (lanes : List PlannedLane) → flat_map (link_damages f) lanes ≡ links_met (map (λ (l : PlannedLane). l.inputs) lanes) (map (map (given_in f)) (links_of lanes))
links-are f [] = refl
links-are f (l ∷ lanes) = ap (λ (rest : Tagged). zip l.inputs (lane_damages (map (given_in f) l.spec.links)) ++ rest) (links-are f lanes)

-- `lanes` are the planned output tracks of a merge of `sources` for `words`.
pub record AreLanesFor (f : LiveFiles) (words : MergeWords) (sources : List Source) (lanes : List PlannedLane) : Type 0 where
  pub numbers : map (λ (l : PlannedLane). l.inputs) lanes ≡ inputs_taken words.order (reads_of sources)
  pub given : map (map (given_in f)) (links_of lanes) ≡ lanes_taken words sources

-- The damage of an input is the damage of its source.
pub damages-are : (f : LiveFiles) (words : MergeWords) (sources : List Source) (lanes : List PlannedLane) (k : ℕ) → AreLanesFor f words sources lanes → damages_of f lanes k ≡ damages_met words sources k
damages-are f words sources lanes k are =
    ap (first_met k) (links-are f lanes)
    ∙ ap (λ (numbers : List (List ℕ)). first_met k (links_met numbers (map (map (given_in f)) (links_of lanes)))) are.numbers
    ∙ ap (λ (given : List (List Given)). first_met k (links_met (inputs_taken words.order (reads_of sources)) given)) are.given

-- No link has the number of a source that doesn't exist.
zip-none : (ns : List ℕ) (found : List (List Damage)) (k : ℕ) → All (λ m. m < k) ns → find (λ (link : ℕ × List Damage). link.0 == k) (zip ns found) ≡ None
zip-none [] found k below = refl
zip-none (n ∷ ns) [] k below = refl
zip-none (n ∷ ns) (d ∷ found) k below =
    let first = All-head (λ m. m < k) n ns below in
    ap (λ (is : Bool). if is then Some (n, d) else find (λ (link : ℕ × List Damage). link.0 == k) (zip ns found)) (other-is n k (omega arith))
    ∙ zip-none ns found k (All-tail (λ m. m < k) n ns below)

met-none : (numbers : List (List ℕ)) (given : List (List Given)) (k : ℕ) → All (All (λ m. m < k)) numbers → find (λ (link : ℕ × List Damage). link.0 == k) (links_met numbers given) ≡ None
met-none [] given k below = refl
met-none (ns ∷ numbers) [] k below = refl
met-none (ns ∷ numbers) (gs ∷ given) k below =
    find-append (λ (link : ℕ × List Damage). link.0 == k) (zip ns (lane_damages gs)) (links_met numbers given)
    ∙ ap (λ (o : Option (ℕ × List Damage)). option_or o (find (λ (link : ℕ × List Damage). link.0 == k) (links_met numbers given))) (zip-none ns (lane_damages gs) k (All-head (All (λ m. m < k)) ns numbers below))
    ∙ met-none numbers given k (All-tail (All (λ m. m < k)) ns numbers below)

abbrev first_of : Option (ℕ × List Damage) → List Damage
first_of o = option_map_or (λ (link : ℕ × List Damage). link.1) o []

-- Therefore it has no damage.
past-source : (words : MergeWords) (sources : List Source) (k : ℕ) → length sources ≤ k → damages_met words sources k ≡ []
past-source words sources k past =
    let many : length (reads_of sources) ≡ length sources = length-map sources (λ (s : Source). s.1) in
    let below : All (All (λ m. m < k)) (inputs_given 0 (reads_of sources)) = numbers-below (λ (each : ℕ × InputRead). is_appended each.1) numbers_of (λ each. All-map (λ m. m ≡ each.0) (λ (t : TakenTrack). each.0) each.1.taken (λ n d inside. refl)) 0 k (reads_of sources) (omega arith) in
    let each : All (All (λ m. m < k)) (inputs_taken words.order (reads_of sources)) = ordered-all (All (λ m. m < k)) words.order (reads_of sources) (inputs_given 0 (reads_of sources)) below in
    ap first_of (met-none (inputs_taken words.order (reads_of sources)) (lanes_taken words sources) k each)

-- ---- no output track has a link with a greater input number

count-append : (ns ms : List ℕ) → count_to (ns ++ ms) ≡ max (count_to ns) (count_to ms)
count-append [] ms = omega arith
count-append (n ∷ ns) ms = ap (λ (m : ℕ). max (suc n) m) (count-append ns ms) ∙ regroup (suc n) (count_to ns) (count_to ms)
  where
    regroup : (a b c : ℕ) → max a (max b c) ≡ max (max a b) c
    regroup a b c = omega arith

within : (n m k : ℕ) → max n m ≤ k → (n ≤ k) × (m ≤ k)
within n m k past = (omega arith, omega arith)

count-below : (ns : List ℕ) (k : ℕ) → count_to ns ≤ k → All (λ m. m < k) ns
count-below [] k past = All-nil (λ m. m < k)
count-below (n ∷ ns) k past = let both = within (suc n) (count_to ns) k past in All-cons (λ m. m < k) n ns (omega (arith, both.0)) (count-below ns k both.1)

lanes-below : (lanes : List PlannedLane) (k : ℕ) → count_to (flat_map (λ (l : PlannedLane). l.inputs) lanes) ≤ k → All (All (λ m. m < k)) (map (λ (l : PlannedLane). l.inputs) lanes)
lanes-below [] k past = All-nil (All (λ m. m < k))
lanes-below (l ∷ lanes) k past =
    let rest : List ℕ = flat_map (λ (l : PlannedLane). l.inputs) lanes in
    let both = within (count_to l.inputs) (count_to rest) k (subst (λ (n : ℕ). n ≤ k) (count-append l.inputs rest) past) in
    All-cons (All (λ m. m < k)) l.inputs (map (λ (l : PlannedLane). l.inputs) lanes) (count-below l.inputs k both.0) (lanes-below lanes k both.1)

pub past-damages : (f : LiveFiles) (lanes : List PlannedLane) (k : ℕ) → count_to (flat_map (λ (l : PlannedLane). l.inputs) lanes) ≤ k → damages_of f lanes k ≡ []
past-damages f lanes k past =
    ap (first_met k) (links-are f lanes)
    ∙ ap first_of (met-none (map (λ (l : PlannedLane). l.inputs) lanes) (map (map (given_in f)) (links_of lanes)) k (lanes-below lanes k past))

-- ---- warnings of one input

-- Each item of the list for `k` has the key `k`.
record Keyed {A : Type 0} (key : A → ℕ) (list : ℕ → List A) : Type 0 where
  same : (k : ℕ) → filter (λ (x : A). key x == k) (list k) ≡ list k
  other : (i k : ℕ) → i ≢ k → filter (λ (x : A). key x == k) (list i) ≡ []

before-range : {A : Type 0} (key : A → ℕ) (list : ℕ → List A) → Keyed key list → (k n count : ℕ) → k < n → filter (λ (x : A). key x == k) (flat_map list (range_with_len n count)) ≡ []
before-range key list keyed k n zero below = refl
before-range {A = A} key list keyed k n (suc count) below =
    filter-append (λ (x : A). key x == k) (list n) (flat_map list (range_with_len (n + 1) count))
    ∙ ap (λ (xs : List A). xs ++ filter (λ (x : A). key x == k) (flat_map list (range_with_len (n + 1) count))) (keyed.other n k (omega arith))
    ∙ before-range key list keyed k (n + 1) count (omega arith)

in-range : {A : Type 0} (key : A → ℕ) (list : ℕ → List A) → Keyed key list → (k n count : ℕ) → n ≤ k → (n + count ≤ k → list k ≡ []) → filter (λ (x : A). key x == k) (flat_map list (range_with_len n count)) ≡ list k
in-range key list keyed k n zero from past = sym (past (omega arith))
in-range {A = A} key list keyed k n (suc count) from past =
    filter-append (λ (x : A). key x == k) (list n) (flat_map list (range_with_len (n + 1) count))
    ∙ step (λ further. in-range key list keyed k (n + 1) count further (λ over. past (omega arith))) (n == k) refl
  where
    rest : List A
    rest = filter (λ (x : A). key x == k) (flat_map list (range_with_len (n + 1) count))

    step : (n + 1 ≤ k → rest ≡ list k) → (is : Bool) → (n == k) ≡ is → filter (λ (x : A). key x == k) (list n) ++ rest ≡ list k
    step behind true is =
        let at : n ≡ k = is-same n k is in
        let none : rest ≡ [] = before-range key list keyed k (n + 1) count (omega arith) in
        ap (λ (xs : List A). filter (λ (x : A). key x == k) (list n) ++ xs) none
        ∙ append-nil (filter (λ (x : A). key x == k) (list n))
        ∙ ap (λ (m : ℕ). filter (λ (x : A). key x == k) (list m)) at
        ∙ keyed.same k
    step behind false is =
        let apart : n ≢ k = is-other n k is in
        ap (λ (xs : List A). xs ++ rest) (keyed.other n k apart) ∙ behind (omega arith)

abbrev tagged : ℕ → Damage → InputDamage
tagged input damage = record { input = input; damage = damage }

first-same : (k : ℕ) (xs : List Damage) → filter (λ (d : InputDamage). d.input == k) (map (tagged k) xs) ≡ map (tagged k) xs
first-same k [] = refl
first-same k (x ∷ xs) =
    ap (λ (is : Bool). if is then tagged k x ∷ filter (λ (d : InputDamage). d.input == k) (map (tagged k) xs) else filter (λ (d : InputDamage). d.input == k) (map (tagged k) xs)) (same-is k)
    ∙ ap (λ (ds : List InputDamage). tagged k x ∷ ds) (first-same k xs)

first-other : (i k : ℕ) (xs : List Damage) → i ≢ k → filter (λ (d : InputDamage). d.input == k) (map (tagged i) xs) ≡ []
first-other i k [] apart = refl
first-other i k (x ∷ xs) apart =
    ap (λ (is : Bool). if is then tagged i x ∷ filter (λ (d : InputDamage). d.input == k) (map (tagged i) xs) else filter (λ (d : InputDamage). d.input == k) (map (tagged i) xs)) (other-is i k apart)
    ∙ first-other i k xs apart

first-keyed : (told : ℕ → ToldDamages) → Keyed (λ (d : InputDamage). d.input) (λ i. first_damages i (told i))
first-keyed told = record { same = λ k. first-same k (told k).first; other = λ i k apart. first-other i k (told i).first apart }

more-same : (k : ℕ) (m : MoreDamage) (none : Bool) → m.input ≡ k → filter (λ (m : MoreDamage). m.input == k) (if none then [] else m ∷ []) ≡ (if none then [] else m ∷ [])
more-same k m true is = refl
more-same k m false is = ap (λ (b : Bool). if b then m ∷ [] else []) (ap (λ (n : ℕ). n == k) is ∙ same-is k)

more-other : (k : ℕ) (m : MoreDamage) (none : Bool) → m.input ≢ k → filter (λ (m : MoreDamage). m.input == k) (if none then [] else m ∷ []) ≡ []
more-other k m true apart = refl
more-other k m false apart = ap (λ (b : Bool). if b then m ∷ [] else []) (other-is m.input k apart)

more-keyed : (told : ℕ → ToldDamages) → Keyed (λ (m : MoreDamage). m.input) (λ i. more_damages i (told i))
more-keyed told = record {
  same = λ k. more-same k (record { input = k; count = (told k).more }) ((told k).more == 0) refl;
  other = λ i k apart. more-other k (record { input = i; count = (told i).more }) ((told i).more == 0) apart;
}

-- The summary `s` lists the damage `found` of each of `count` inputs.
pub record Tells (found : ℕ → List Damage) (count : ℕ) (s : Summary) : Type 0 where
  pub damages : s.damages ≡ flat_map (λ input. first_damages input (told_damages (found input))) (range_with_len 0 count)
  pub more : s.more ≡ flat_map (λ input. more_damages input (told_damages (found input))) (range_with_len 0 count)
  pub past : (k : ℕ) → count ≤ k → found k ≡ []

damages-told : (found : ℕ → List Damage) (count : ℕ) (s : Summary) → Tells found count s → (k : ℕ) → damages_at k s.damages ≡ first_damages k (told_damages (found k))
damages-told found count s tells k =
    ap (damages_at k) tells.damages
    ∙ in-range (λ (d : InputDamage). d.input) (λ i. first_damages i (told_damages (found i))) (first-keyed (λ i. told_damages (found i))) k 0 count (omega arith) (λ past. ap (λ (list : List Damage). first_damages k (told_damages list)) (tells.past k (omega arith)))

more-told : (found : ℕ → List Damage) (count : ℕ) (s : Summary) → Tells found count s → (k : ℕ) → more_at k s.more ≡ more_damages k (told_damages (found k))
more-told found count s tells k =
    ap (more_at k) tells.more
    ∙ in-range (λ (m : MoreDamage). m.input) (λ i. more_damages i (told_damages (found i))) (more-keyed (λ i. told_damages (found i))) k 0 count (omega arith) (λ past. ap (λ (list : List Damage). more_damages k (told_damages list)) (tells.past k (omega arith)))

first-lines : (name : List ℕ) (k : ℕ) (xs : List Damage) → map (λ (d : InputDamage). warning_line name d.damage) (map (tagged k) xs) ≡ map (warning_line name) xs
first-lines name k [] = refl
first-lines name k (x ∷ xs) = ap (λ (lines : List (List ℕ)). warning_line name x ∷ lines) (first-lines name k xs)

more-lines : (name : List ℕ) (m : MoreDamage) (none : Bool) → map (λ (m : MoreDamage). more_damages_line name m.count) (if none then [] else m ∷ []) ≡ (if none then [] else more_damages_line name m.count ∷ [])
more-lines name m true = refl
more-lines name m false = refl

-- The warnings of an input.
input-told : (found : ℕ → List Damage) (count : ℕ) (s : Summary) → Tells found count s → (k : ℕ) (name : List ℕ) → input_warnings s k name ≡ damages_warned name (found k)
input-told found count s tells k name =
    let told = told_damages (found k) in
    ap (λ (ds : List InputDamage). map (λ (d : InputDamage). warning_line name d.damage) ds ++ map (λ (m : MoreDamage). more_damages_line name m.count) (more_at k s.more)) (damages-told found count s tells k)
    ∙ ap (λ (lines : List (List ℕ)). lines ++ map (λ (m : MoreDamage). more_damages_line name m.count) (more_at k s.more)) (first-lines name k told.first)
    ∙ ap (λ (ms : List MoreDamage). map (warning_line name) told.first ++ map (λ (m : MoreDamage). more_damages_line name m.count) ms) (more-told found count s tells k)
    ∙ ap (λ (lines : List (List ℕ)). map (warning_line name) told.first ++ lines) (more-lines name (record { input = k; count = told.more }) (told.more == 0))

-- ---- the warnings of all inputs

one_more : (n : ℕ) → n + 1 ≡ suc n
one_more n = omega arith

all-warnings : (s : Summary) (found : ℕ → List Damage) (words : MergeWords) (sources : List Source) → ((k : ℕ) (name : List ℕ) → input_warnings s k name ≡ damages_warned name (found k))
    → ((k : ℕ) → found k ≡ damages_met words sources k) → (n : ℕ) (files : List FileWords) → warnings_from s n files ≡ flat_map (warnings words sources) (enumerate_from n files)
all-warnings s found words sources told are n [] = refl
all-warnings s found words sources told are n (file ∷ files) =
    ap (λ (lines : List (List ℕ)). lines ++ warnings_from s (suc n) files) (told n file.name ∙ ap (λ (list : List Damage). damages_warned file.name list) (are n))
    ∙ ap (λ (lines : List (List ℕ)). damages_warned file.name (damages_met words sources n) ++ lines)
    (ap (λ (m : ℕ). warnings_from s m files) (sym (one_more n)) ∙ all-warnings s found words sources told are (n + 1) files)

pub warnings-told : (found : ℕ → List Damage) (count : ℕ) (s : Summary) (files : List FileWords) (words : MergeWords) (sources : List Source) → Tells found count s → ((k : ℕ) → found k ≡ damages_met words sources k) → warnings_from s 0 files ≡ flat_map (warnings words sources) (enumerate_from 0 files)
warnings-told found count s files words sources tells are = all-warnings s found words sources (input-told found count s tells) are 0 files

-- ---- whether there are warnings

none-is : {A : Type 0} (xs : List A) → is_some_of xs ≡ false → xs ≡ []
none-is [] none = refl
none-is (x ∷ xs) none = absurd (cc)

first-none : (k : ℕ) (xs : List Damage) → first_damages k (told_damages xs) ≡ [] → xs ≡ []
first-none k [] none = refl
first-none k (x ∷ xs) none = absurd (cc)

-- No source has damage.
none-any : (words : MergeWords) (sources : List Source) → ((k : ℕ) → damages_met words sources k ≡ []) → (n count : ℕ) → list_any (λ k. is_some_of (damages_met words sources k)) (range_with_len n count) ≡ false
none-any words sources none n zero = refl
none-any words sources none n (suc count) =
    ap (λ (found : List Damage). is_some_of found || list_any (λ k. is_some_of (damages_met words sources k)) (range_with_len (n + 1) count)) (none n)
    ∙ none-any words sources none (n + 1) count

any-none : (words : MergeWords) (sources : List Source) (k n count : ℕ) → n ≤ k → k < n + count → list_any (λ j. is_some_of (damages_met words sources j)) (range_with_len n count) ≡ false → damages_met words sources k ≡ []
any-none words sources k n zero from past none = absurd (omega arith)
any-none words sources k n (suc count) from past none =
    let both = neither (is_some_of (damages_met words sources n)) (list_any (λ j. is_some_of (damages_met words sources j)) (range_with_len (n + 1) count)) none in
    step (none-is (damages_met words sources n) both.0) (λ above. any-none words sources k (n + 1) count above (omega arith) both.1) (n == k) refl
  where
    step : damages_met words sources n ≡ [] → (n + 1 ≤ k → damages_met words sources k ≡ []) → (is : Bool) → (n == k) ≡ is → damages_met words sources k ≡ []
    step here behind true is = ap (damages_met words sources) (sym (is-same n k is)) ∙ here
    step here behind false is = let apart = is-other n k is in behind (omega arith)

found-none : (k : ℕ) (words : MergeWords) (sources : List Source) → has_damage words sources ≡ false → damages_met words sources k ≡ []
found-none k words sources none = step (nat_lt k (length sources)) refl
  where
    step : (is : Bool) → nat_lt k (length sources) ≡ is → damages_met words sources k ≡ []
    step true is = any-none words sources k 0 (length sources) (omega arith) (grind (arith, nat_tests)) none
    step false is = past-source words sources k (grind (arith, nat_tests))

none-told : (found : ℕ → List Damage) → ((k : ℕ) → found k ≡ []) → (n count : ℕ) → flat_map (λ input. first_damages input (told_damages (found input))) (range_with_len n count) ≡ []
none-told found none n zero = refl
none-told found none n (suc count) =
    ap (λ (list : List Damage). first_damages n (told_damages list) ++ flat_map (λ input. first_damages input (told_damages (found input))) (range_with_len (n + 1) count)) (none n)
    ∙ none-told found none (n + 1) count

pub some-told : (found : ℕ → List Damage) (count : ℕ) (s : Summary) (words : MergeWords) (sources : List Source) → Tells found count s → ((k : ℕ) → found k ≡ damages_met words sources k) → is_some_of s.damages ≡ has_damage words sources
some-told found count s words sources tells are = step (is_some_of s.damages) (has_damage words sources) refl refl
  where
    step : (a b : Bool) → is_some_of s.damages ≡ a → has_damage words sources ≡ b → is_some_of s.damages ≡ has_damage words sources
    step true true is there = is ∙ sym there
    step false false is there = is ∙ sym there
    step true false is there =
        let none : s.damages ≡ [] = tells.damages ∙ none-told found (λ k. are k ∙ found-none k words sources there) 0 count in
        ap is_some_of none ∙ sym there
    step false true is there =
        let none : s.damages ≡ [] = none-is s.damages is in
        is ∙ sym (none-any words sources (λ k. sym (are k) ∙ first-none k (found k) (sym (damages-told found count s tells k) ∙ ap (damages_at k) none)) 0 (length sources))
