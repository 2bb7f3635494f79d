-- The titles of inputs, the selected tracks, and their entries.
use Rattle.std.proofs.Common.{◌≡◌, ◌≤◌, ◌<◌, ℕ, zero, suc, ◌+◌, Bool, true, false, if◌then◌else◌, List, [], ◌∷◌, ◌++◌, length, take, drop, map, flat_map, get_or, Option, Some, None, refl, sym, ap, ap₂, ◌∙◌, arith, append-nil, append_assoc}
use Rattle.std.specs.List.{All}
use Rattle.std.specs.Option.{IfSome}
use Rattle.std.proofs.lemmas.Grind.{flat_map-append}
use Rattle.std.proofs.lemmas.List.{length-append, length-map, take_all, drop_all}
use Rattle.std.proofs.lemmas.List.Elements.{All-append}
use denote.Ref.{Bor}
use Rattle.record_changes.proofs.GivenLemmas.{length-from}
use Rattle.tree_format.specs.Node.{Node}
use Rattle.ebml_tree.specs.Building.{IsRead}
use Rattle.output_model.specs.Sound.{IsRecord}
use Rattle.merge_inputs.specs.Input.{InputRead, read_in}
use Rattle.merge_inputs.specs.Taken.{IsTaken}
use Rattle.merge_inputs.specs.declared.input.Input.{Input}
use Rattle.merge_inputs.specs.declared.taken.TakenTrack.{TakenTrack}
use Rattle.merge_plan.specs.Lent.{lent}
use Rattle.merge_plan.specs.Records.{entries_from, entry_of, first_title, is_appended, key_of, keys_from, title_or, tracks_begun, tracks_ordered, tracks_taken, uid_of, uids_of}
use Rattle.merge_plan.specs.TakenTracks.{HasTaken}
use Rattle.merge_plan.proofs.ListLemmas.{take-next, drop-next, lent-next}
use Rattle.merge_plan.proofs.OrderLemmas.{in_order-length}

-- ---- titles

module _ (inputs : List Input) (k : ℕ) (i : Input) (inside : k < length inputs) (is : i ≡ get_or inputs k i) where
  title-next : first_title (map read_in (drop k inputs)) ≡ title_or i.title (first_title (map read_in (drop (k + 1) inputs)))
  title-next = ap (λ l. first_title (map read_in l)) (drop-next inputs k i inside is)

  pub title-found : (i.title ≡ [] → ⊥) → first_title (map read_in (drop k inputs)) ≡ i.title
  title-found some = title-next ∙ of i.title some
    where
      of : (t : List ℕ) → (t ≡ [] → ⊥) → title_or t (first_title (map read_in (drop (k + 1) inputs))) ≡ t
      of [] some = absurd (some refl)
      of (o ∷ t) some = refl

  pub title-empty : i.title ≡ [] → first_title (map read_in (drop k inputs)) ≡ first_title (map read_in (drop (k + 1) inputs))
  title-empty none = title-next ∙ ap (λ t. title_or t (first_title (map read_in (drop (k + 1) inputs)))) none

pub title-none : (inputs : List Input) (k : ℕ) → length inputs ≤ k → first_title (map read_in (drop k inputs)) ≡ []
title-none inputs k past = ap (λ l. first_title (map read_in l)) (drop_all k inputs past)

-- ---- the selected tracks

-- the tracks of an input that begin output tracks
abbrev pub begun_in : Input → List TakenTrack
begun_in i = tracks_begun (read_in i)

abbrev pub taken_in : List Input → List TakenTrack
taken_in inputs = flat_map begun_in inputs

pub taken-read : (inputs : List Input) → taken_in inputs ≡ tracks_taken (map read_in inputs)
taken-read [] = refl
taken-read (i ∷ is) = ap (λ l. begun_in i ++ l) (taken-read is)

pub taken-next : (inputs : List Input) (k : ℕ) (i : Input) → k < length inputs → i ≡ get_or inputs k i → taken_in (take (k + 1) inputs) ≡ taken_in (take k inputs) ++ begun_in i
taken-next inputs k i inside is =
    ap taken_in (take-next inputs k i inside is) ∙ flat_map-append begun_in (take k inputs) (i ∷ []) ∙ ap (λ l. taken_in (take k inputs) ++ l) (append-nil (begun_in i))

pub taken-all : (inputs : List Input) (k : ℕ) → length inputs ≤ k → taken_in (take k inputs) ≡ tracks_taken (map read_in inputs)
taken-all inputs k past = ap taken_in (take_all k inputs past) ∙ taken-read inputs

-- Each of them can be taken.
pub begun-taken : (i : Input) → HasTaken i → All IsTaken (begun_in i)
begun-taken i has = of (is_appended (read_in i))
  where
    of : (b : Bool) → All IsTaken (if b then [] else i.taken)
    of true = λ k d inside. absurd (omega arith)
    of false = has.taken

pub each-taken : (inputs : List Input) → All HasTaken inputs → All IsTaken (taken_in inputs)
each-taken [] all = λ k d inside. absurd (omega arith)
each-taken (i ∷ is) all = All-append IsTaken (begun_in i) (taken_in is) (begun-taken i (all 0 i (omega arith))) (each-taken is (λ k d inside. all (suc k) d (omega arith)))

-- ---- their keys

pub keys-count : (n : ℕ) (reads : List InputRead) → length (keys_from n reads) ≡ length (tracks_taken reads)
keys-count n [] = refl
keys-count n (i ∷ is) =
    length-append (map (key_of n) (tracks_begun i)) (keys_from (n + 1) is)
    ∙ ap₂ (λ a b. a + b) (length-map (tracks_begun i) (key_of n)) (keys-count (n + 1) is)
    ∙ sym (length-append (tracks_begun i) (tracks_taken is))

-- The order of the output has each track.
pub ordered-count : (order : List (ℕ × ℕ)) (reads : List InputRead) → length (tracks_ordered order reads) ≡ length (tracks_taken reads)
ordered-count order reads = in_order-length order (keys_from 0 reads) (tracks_taken reads) (keys-count 0 reads)

-- the keys of the first inputs' tracks, which precede the ones of an input
pub keys-next : (inputs : List Input) (k : ℕ) (i : Input) → k < length inputs → i ≡ get_or inputs k i → keys_from k (map read_in (drop k inputs)) ≡ map (key_of k) (begun_in i) ++ keys_from (k + 1) (map read_in (drop (k + 1) inputs))
keys-next inputs k i inside is = ap (λ l. keys_from k (map read_in l)) (drop-next inputs k i inside is)

pub keys-none : (inputs : List Input) (k : ℕ) → length inputs ≤ k → keys_from k (map read_in (drop k inputs)) ≡ []
keys-none inputs k past = ap (λ l. keys_from k (map read_in l)) (drop_all k inputs past)

-- ---- their entries

pub length-uids : (taken : List TakenTrack) → length (uids_of taken) ≡ length taken
length-uids taken = length-from (map uid_of taken) [] (map uid_of taken) ∙ length-map taken uid_of

-- Inside a list the default doesn't matter.
get_or-same : (xs : List ℕ) (k d e : ℕ) → k < length xs → get_or xs k d ≡ get_or xs k e
get_or-same [] k d e inside = absurd (omega arith)
get_or-same (x ∷ xs) zero d e inside = refl
get_or-same (x ∷ xs) (suc k) d e inside = get_or-same xs k d e (omega arith)

module _ (uids : List ℕ) (refs : List (Bor TakenTrack)) (k : ℕ) (r : Bor TakenTrack) (inside : k < length refs) (is : r ≡ get_or refs k r) (as_many : length uids ≡ length refs) where
  pub uid-inside : k < length uids
  uid-inside = omega arith

  pub entries-next : (entries new : List Node) (entry : Node) (all : List Node) → entry ≡ entry_of (k + 1) (get_or uids k 0) r.now → new ≡ entries ++ entry ∷ []
      → entries ++ entries_from (k + 1) (drop k uids) (drop k (lent refs)) ≡ all → new ++ entries_from (k + 1 + 1) (drop (k + 1) uids) (drop (k + 1) (lent refs)) ≡ all
  entries-next entries new entry all made put so_far =
      ap (λ l. l ++ entries_from (k + 1 + 1) (drop (k + 1) uids) (drop (k + 1) (lent refs))) put
      ∙ append_assoc entries (entry ∷ []) (entries_from (k + 1 + 1) (drop (k + 1) uids) (drop (k + 1) (lent refs)))
      ∙ ap (λ e. entries ++ e ∷ entries_from (k + 1 + 1) (drop (k + 1) uids) (drop (k + 1) (lent refs))) made
      ∙ ap (λ l. entries ++ l) (sym (ap₂ (entries_from (k + 1)) (drop-next uids k (get_or uids k 0) uid-inside (get_or-same uids k 0 (get_or uids k 0) uid-inside)) (lent-next refs k r inside is)))
      ∙ so_far

pub entries-all : (uids : List ℕ) (refs : List (Bor TakenTrack)) (k : ℕ) (entries all : List Node) → length refs ≤ k → length uids ≡ length refs
    → entries ++ entries_from (k + 1) (drop k uids) (drop k (lent refs)) ≡ all → entries ≡ all
entries-all uids refs k entries all past as_many so_far =
    sym (append-nil entries) ∙ ap (λ us. entries ++ entries_from (k + 1) us (drop k (lent refs))) (sym (drop_all k uids (omega arith))) ∙ so_far

-- A record that can be written was read as one.
pub read-record : (own : ℕ) (n : Option Node) → IfSome n (IsRecord own) → IfSome n (IsRead own)
read-record own None is = tt
read-record own (Some m) is = record { id = is.id; master = is.master; sound = is.sound }
