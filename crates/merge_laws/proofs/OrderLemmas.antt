-- The output tracks of a merge with `--track-order`.
use Rattle.std.proofs.Common.{◌≡◌, ◌<◌, ◌≤◌, ℕ, suc, ◌+◌, ◌==◌, Bool, true, false, ◌&&◌, if◌then◌else◌, List, [], ◌∷◌, ◌++◌, length, map, Option, Ok, refl, sym, ap, ap₂, subst, ◌∙◌, arith, flat_map}
use Rattle.std.specs.List.{All, enumerate_from, zip}
use Rattle.std.specs.List.Sorted.{IsPermutation}
use Rattle.std.proofs.lemmas.Bool.Decides.{nat_tests}
use Rattle.std.proofs.lemmas.List.{length-append, length-map}
use Rattle.std.proofs.lemmas.List.Elements.{All-append, All-cons, All-head, All-nil, All-tail, All-weaker}
use Rattle.track_records.specs.declared.track.Track.{Track}
use Rattle.output_model.specs.OutputBlock.{OutputBlock}
use Rattle.merge_model.specs.Lanes.{lane_blocks}
use Rattle.merge_model.specs.Links.{Given, going_on}
use Rattle.requests.specs.declared.merge.FileWords.{FileWords}
use Rattle.requests.specs.declared.merge.MergeWords.{MergeWords}
use Rattle.merge_inputs.specs.Input.{InputRead, input_of}
use Rattle.merge_inputs.specs.Select.{is_taken}
use Rattle.merge_inputs.specs.Taken.{taken_from, taken_track}
use Rattle.merge_inputs.specs.declared.taken.TakenTrack.{TakenTrack}
use Rattle.merge_plan.specs.Front.{reads_of}
use Rattle.merge_plan.specs.Order.{in_order, names}
use Rattle.merge_plan.specs.Plan.{Source, inputs_given, inputs_taken, lanes_given, lanes_taken, numbers_of}
use Rattle.merge_plan.specs.Records.{is_appended, key_of, keys_from, tracks_begun, tracks_ordered, tracks_taken}
use Rattle.merge_plan.proofs.ChainLemmas.{begins, lanes-first}
use Rattle.merge_plan.proofs.OrderLemmas.{in_order-map}
use Rattle.merge_plan.proofs.OrderedLemmas.{lanes-many}
use Rattle.merge_plan.proofs.RecordLemmas.{keys-count}
use Rattle.mkv_merge.specs.Merge.{sources_of}
use Rattle.merge_laws.specs.Merge.{lanes_selected}
use Rattle.merge_laws.specs.Order.{NamesTheFirst, OrdersKeepTracks, tracks_with_blocks, unordered}
use Rattle.merge_laws.proofs.FrontLemmas.{AreApart, NamesNone, in_order-front, in_order-pairs, in_order-permutes, next, none}
use Rattle.merge_laws.proofs.HeldLemmas.{HasTracks, sources-held}
use Rattle.merge_laws.proofs.SourceLemmas.{input-taken}

-- ---- an order keeps the tracks

module _ (words : MergeWords) (sources : List Source) where
  abbrev keys : List (ℕ × ℕ)
  keys = keys_from 0 (reads_of sources)

  -- the blocks of the output tracks, in the order of the tracks that begin them
  abbrev blocks_given : List (List OutputBlock)
  blocks_given = map (lane_blocks words.scale) (map (map (going_on words.append_damaged)) (lanes_given sources))

  abbrev taken : List TakenTrack
  taken = tracks_taken (reads_of sources)

  -- The blocks of the output tracks are in the order of the output.
  selected-ordered : lanes_selected words sources ≡ in_order words.order keys blocks_given
  selected-ordered =
      let going : List Given → List Given = map (going_on words.append_damaged) in
      ap (map (lane_blocks words.scale)) (in_order-map going words.order keys (lanes_given sources))
      ∙ in_order-map (lane_blocks words.scale) words.order keys (map going (lanes_given sources))

  blocks-many : length taken ≡ length blocks_given
  blocks-many =
      sym (length-map (map (map (going_on words.append_damaged)) (lanes_given sources)) (lane_blocks words.scale) ∙ length-map (lanes_given sources) (map (going_on words.append_damaged)) ∙ lanes-many sources)

  pairs-many : length keys ≡ length (zip taken blocks_given)
  pairs-many = keys-count 0 (reads_of sources) ∙ zip-many taken blocks_given blocks-many
    where
      zip-many : {A B : Type 0} (xs : List A) (ys : List B) → length xs ≡ length ys → length xs ≡ length (zip xs ys)
      zip-many [] ys many = refl
      zip-many (x ∷ xs) [] many = absurd (omega arith)
      zip-many (x ∷ xs) (y ∷ ys) many = ap suc (zip-many xs ys (omega arith))

  pub tracks-kept : IsPermutation (tracks_with_blocks (unordered words) sources) (tracks_with_blocks words sources)
  tracks-kept =
      subst (λ (l : List (TakenTrack × List OutputBlock)). IsPermutation (zip taken blocks_given) l)
      (sym (ap (λ (bs : List (List OutputBlock)). zip (tracks_ordered words.order (reads_of sources)) bs) selected-ordered ∙ in_order-pairs words.order keys taken blocks_given blocks-many))
      (in_order-permutes words.order keys (zip taken blocks_given) pairs-many)

pub orders-keep : OrdersKeepTracks
orders-keep words sources = tracks-kept words sources

-- ---- the keys of the tracks

-- The IDs of the selected tracks ascend: the first is at least `from`, and each is below `count`.
abbrev pub AreIds : ℕ → ℕ → List TakenTrack → Type 0
AreIds count from [] = Unit {0}
AreIds count from (t ∷ ts) = (from ≤ t.id) × ((t.id < count) × AreIds count (t.id + 1) ts)

ids-later : (count first from : ℕ) (ts : List TakenTrack) → first ≤ from → AreIds count from ts → AreIds count first ts
ids-later count first from [] less are = tt
ids-later count first from (t ∷ ts) less are = (omega (arith, are.0), are.1)

-- The tracks that a file has are selected in this order.
ids-taken : (words : FileWords) (count id : ℕ) (tracks : List Track) → id + length tracks ≤ count → AreIds count id (taken_from words id tracks)
ids-taken words count id [] few = tt
ids-taken words count id (t ∷ ts) few = of (is_taken words id t.kind) (ids-taken words count (id + 1) ts (omega arith))
  where
    of : (b : Bool) → AreIds count (id + 1) (taken_from words (id + 1) ts) → AreIds count id ((if b then taken_track words id t ∷ [] else []) ++ taken_from words (id + 1) ts)
    of true rest = (omega arith, (omega arith, rest))
    of false rest = ids-later count id (id + 1) (taken_from words (id + 1) ts) (omega arith) rest

-- the fact of an input: the IDs of its selected tracks ascend
abbrev pub HaveIds : ℕ → List TakenTrack → Type 0
HaveIds count taken = AreIds count 0 taken

input-ids : (words : FileWords) (webm : Bool) (held : ℕ) (bytes : List ℕ) (read : InputRead) → Unit {0} → input_of words webm held bytes ≡ Ok read → HaveIds read.count read.taken
input-ids words webm held bytes read any is =
    let found = input-taken words webm held bytes read is in
    subst (AreIds read.count 0) found.1.0 (ids-taken words read.count 0 found.0 (omega (arith, found.1.1)))

all-any : (files : List FileWords) → All (λ (f : FileWords). Unit {0}) files
all-any [] = All-nil (λ (f : FileWords). Unit {0})
all-any (f ∷ fs) = All-cons (λ (g : FileWords). Unit {0}) f fs tt (all-any fs)

pub sources-ids : (world : List ℕ → Option (List ℕ)) (words : MergeWords) (sources : List Source) → sources_of world words ≡ Ok sources → All (HasTracks HaveIds tt) sources
sources-ids world words sources is = sources-held HaveIds tt (λ (f : FileWords). Unit {0}) input-ids world words sources (all-any words.files) is

-- A pair names no later track of its input, and no track of a later input.
misses-later : (number count m from : ℕ) (ts : List TakenTrack) → m < from → AreIds count from ts → NamesNone (number, m) (map (key_of number) ts)
misses-later number count m from [] less are = All-nil (λ (key : ℕ × ℕ). names (number, m) key ≡ false)
misses-later number count m from (t ∷ ts) less are =
    All-cons (λ (key : ℕ × ℕ). names (number, m) key ≡ false) (key_of number t) (map (key_of number) ts) (other (number == number) (m == t.id) (grind (arith, nat_tests, are.0)))
    (misses-later number count m (t.id + 1) ts (omega (arith, are.0)) are.1.1)
  where
    other : (a b : Bool) → b ≡ false → (a && b) ≡ false
    other true b is = is
    other false b is = refl

-- The key's input is number `number` or a later one.
abbrev pub IsFrom : ℕ → ℕ × ℕ → Type 0
IsFrom number key = number ≤ key.0

keys-are_from : (number : ℕ) (ts : List TakenTrack) → All (IsFrom number) (map (key_of number) ts)
keys-are_from number [] = All-nil (IsFrom number)
keys-are_from number (t ∷ ts) = All-cons (IsFrom number) (key_of number t) (map (key_of number) ts) (omega arith) (keys-are_from number ts)

pub keys-from : (number : ℕ) (reads : List InputRead) → All (IsFrom number) (keys_from number reads)
keys-from number [] = All-nil (IsFrom number)
keys-from number (i ∷ is) =
    All-append (IsFrom number) (map (key_of number) (tracks_begun i)) (keys_from (number + 1) is) (keys-are_from number (tracks_begun i))
    (All-weaker (IsFrom (number + 1)) (IsFrom number) (λ key from. omega arith) (keys_from (number + 1) is) (keys-from (number + 1) is))

misses-other : (number m : ℕ) (keys : List (ℕ × ℕ)) → All (IsFrom (number + 1)) keys → NamesNone (number, m) keys
misses-other number m keys from = All-weaker (IsFrom (number + 1)) (λ (key : ℕ × ℕ). names (number, m) key ≡ false) (λ key later. other (number == key.0) (m == key.1) (grind (arith, nat_tests))) keys from
  where
    other : (a b : Bool) → a ≡ false → (a && b) ≡ false
    other a b is = ap (λ (c : Bool). c && b) is

apart-append : (number count from : ℕ) (ts : List TakenTrack) (keys : List (ℕ × ℕ)) → AreIds count from ts → All (IsFrom (number + 1)) keys → AreApart keys → AreApart (map (key_of number) ts ++ keys)
apart-append number count from [] keys are later apart = apart
apart-append number count from (t ∷ ts) keys are later apart =
    next (key_of number t) (map (key_of number) ts ++ keys)
    (All-append (λ (key : ℕ × ℕ). names (key_of number t) key ≡ false) (map (key_of number) ts) keys (misses-later number count t.id (t.id + 1) ts (omega arith) are.1.1) (misses-other number t.id keys later))
    (apart-append number count (t.id + 1) ts keys are.1.1 later apart)

pub keys-apart : (number : ℕ) (reads : List InputRead) → All (λ (i : InputRead). HaveIds i.count i.taken) reads → AreApart (keys_from number reads)
keys-apart number [] each = none
keys-apart number (i ∷ is) each =
    apart-append number i.count 0 (tracks_begun i) (keys_from (number + 1) is) (begun (is_appended i) (All-head (λ (j : InputRead). HaveIds j.count j.taken) i is each)) (keys-from (number + 1) is)
    (keys-apart (number + 1) is (All-tail (λ (j : InputRead). HaveIds j.count j.taken) i is each))
  where
    begun : (b : Bool) → AreIds i.count 0 i.taken → AreIds i.count 0 (if b then [] else i.taken)
    begun true are = tt
    begun false are = are

-- ---- the numbers of the inputs of output tracks

-- The input is appended; it is given with its number.
abbrev goes_on : ℕ × InputRead → Bool
goes_on each = is_appended each.1

begun-many : (n : ℕ) (reads : List InputRead) → length (flat_map (begins goes_on numbers_of) (enumerate_from n reads)) ≡ length (tracks_taken reads)
begun-many n [] = refl
begun-many n (i ∷ is) =
    length-append (begins goes_on numbers_of (n, i)) (flat_map (begins goes_on numbers_of) (enumerate_from (n + 1) is))
    ∙ ap₂ (λ (a b : ℕ). a + b) (of (is_appended i)) (begun-many (n + 1) is)
    ∙ sym (length-append (tracks_begun i) (tracks_taken is))
  where
    of : (b : Bool) → length (if b then [] else numbers_of (n, i)) ≡ length (if b then [] else i.taken)
    of true = refl
    of false = length-map i.taken (λ (t : TakenTrack). n)

inputs-many : (reads : List InputRead) → length (inputs_given 0 reads) ≡ length (tracks_taken reads)
inputs-many reads =
    let one : List ℕ → ℕ = λ lane. 0 in
    let first : ℕ → ℕ = λ number. 0 in
    let begun : List ℕ = flat_map (begins goes_on numbers_of) (enumerate_from 0 reads) in
    sym (length-map (inputs_given 0 reads) one) ∙ ap (λ (l : List ℕ). length l) (lanes-first goes_on numbers_of one first (λ x xs. refl) (enumerate_from 0 reads)) ∙ length-map begun first ∙ begun-many 0 reads

-- ---- an order that names the tracks as they are

module _ (world : List ℕ → Option (List ℕ)) (words : MergeWords) (sources : List Source) (is : sources_of world words ≡ Ok sources) (first : NamesTheFirst words sources) where
  pub all-reads : (ss : List Source) → All (HasTracks HaveIds tt) ss → All (λ (i : InputRead). HaveIds i.count i.taken) (reads_of ss)
  all-reads [] each = All-nil (λ (i : InputRead). HaveIds i.count i.taken)
  all-reads (s ∷ ss) each =
      All-cons (λ (i : InputRead). HaveIds i.count i.taken) s.1 (reads_of ss) (All-head (HasTracks HaveIds tt) s ss each) (all-reads ss (All-tail (HasTracks HaveIds tt) s ss each))

  -- No list with an item for each track changes.
  pub front-same : {A : Type 0} (xs : List A) → length xs ≡ length (tracks_taken (reads_of sources)) → in_order words.order (keys_from 0 (reads_of sources)) xs ≡ xs
  front-same xs many =
      let keys : List (ℕ × ℕ) = keys_from 0 (reads_of sources) in
      ap (λ (order : List (ℕ × ℕ)). in_order order keys xs) (sym first)
      ∙ in_order-front (length words.order) keys xs (keys-apart 0 (reads_of sources) (all-reads sources (sources-ids world words sources is))) (keys-count 0 (reads_of sources) ∙ sym many)

  pub ordered-same : tracks_ordered words.order (reads_of sources) ≡ tracks_ordered [] (reads_of sources)
  ordered-same = front-same (tracks_taken (reads_of sources)) refl

  pub lanes-same : lanes_taken words sources ≡ lanes_taken (unordered words) sources
  lanes-same = ap (map (map (going_on words.append_damaged))) (front-same (lanes_given sources) (lanes-many sources))

  pub numbers-same : inputs_taken words.order (reads_of sources) ≡ inputs_taken [] (reads_of sources)
  numbers-same = front-same (inputs_given 0 (reads_of sources)) (inputs-many (reads_of sources))
