-- Results that don't depend on the timestamps that files list.
use Rattle.std.proofs.Common.{◌≡◌, ℕ, ◌+◌, List, [], ◌∷◌, ◌++◌, length, map, Option, refl, sym, ap, ap₂, ◌∙◌}
use Rattle.std.specs.List.{enumerate_from, zip}
use Rattle.std.specs.Option.{option_map, option_or}
use Rattle.std.proofs.lemmas.List.{length-map, map-append, map-id}
use Rattle.std.proofs.lemmas.List.Folds.{flat_map-map}
use Rattle.record_changes.specs.Identifiers.{renumbered}
use Rattle.meta_records.specs.Attached.{AttachedFile}
use Rattle.output_records.specs.declared.inputs.InputRecords.{InputRecords}
use Rattle.merge_model.specs.Links.{Given}
use Rattle.merge_inputs.specs.Input.{InputRead}
use Rattle.merge_inputs.specs.declared.taken.TakenTrack.{TakenTrack}
use Rattle.merge_plan.specs.Appending.{difference_at, differs_at, differs_from, lane_tracks}
use Rattle.merge_plan.specs.Chains.{lanes_by}
use Rattle.merge_plan.specs.declared.appending.AppendDiffers.{AppendDiffers}
use Rattle.merge_plan.specs.Front.{attached_from, attachments_of, file_uids, files_in, reads_of}
use Rattle.merge_plan.specs.Order.{in_order}
use Rattle.merge_plan.specs.Plan.{Source, given_of, inputs_given, inputs_taken, lanes_given, lanes_ordered, numbers_of}
use Rattle.merge_plan.specs.Records.{LaneUids, first_title, is_appended, kept_anywhere, key_of, keys_from, lane_uids, lanes_with, owner_at, records_from, records_in, records_of, title_or, track_uids_at, tracks_begun, tracks_ordered, tracks_taken, uids_at, uids_of}
use Rattle.merge_plan.proofs.ChainLemmas.{enumerate-map, lanes-map}

-- an input without the timestamps of files; `bare` is a source without them
abbrev pub untimed : InputRead → InputRead
untimed i = record i { times = [] }

abbrev pub bare : Source → Source
bare s = (s.0, untimed s.1)

-- ---- inputs as they are read

pub reads-bare : (sources : List Source) → reads_of (map bare sources) ≡ map untimed (reads_of sources)
reads-bare [] = refl
reads-bare (s ∷ ss) = ap (λ (rest : List InputRead). untimed s.1 ∷ rest) (reads-bare ss)

pub differs-bare : (before : List TakenTrack) (n : ℕ) (reads : List InputRead) → differs_from before n (map untimed reads) ≡ differs_from before n reads
differs-bare before n [] = refl
differs-bare before n (i ∷ is) = ap (λ (rest : Option AppendDiffers). option_or (option_map (differs_at n) (difference_at before i)) rest) (differs-bare (lane_tracks before i) (n + 1) is)

pub tracks-bare : (reads : List InputRead) → tracks_taken (map untimed reads) ≡ tracks_taken reads
tracks-bare reads = flat_map-map tracks_begun untimed reads

pub titles-bare : (reads : List InputRead) → first_title (map untimed reads) ≡ first_title reads
titles-bare [] = refl
titles-bare (i ∷ is) = ap (title_or i.title) (titles-bare is)

keys-bare : (n : ℕ) (reads : List InputRead) → keys_from n (map untimed reads) ≡ keys_from n reads
keys-bare n [] = refl
keys-bare n (i ∷ is) = ap (λ (rest : List (ℕ × ℕ)). map (key_of n) (tracks_begun i) ++ rest) (keys-bare (n + 1) is)

pub ordered-bare : (order : List (ℕ × ℕ)) (reads : List InputRead) → tracks_ordered order (map untimed reads) ≡ tracks_ordered order reads
ordered-bare order reads = ap₂ (λ (keys : List (ℕ × ℕ)) (taken : List TakenTrack). in_order order keys taken) (keys-bare 0 reads) (tracks-bare reads)

records-each : (lanes : LaneUids) (before number : ℕ) (reads : List InputRead)
    → records_from lanes before number (map kept_anywhere (map untimed reads)) ≡ records_from lanes before number (map kept_anywhere reads)
records-each lanes before number [] = refl
records-each lanes before number (i ∷ is) =
    let owner : ℕ = owner_at before number i in
    ap (λ (rest : List InputRecords). records_in (track_uids_at lanes owner i) (uids_at lanes owner) (kept_anywhere i) ∷ rest) (records-each lanes owner (number + 1) is)

pub records-bare : (order : List (ℕ × ℕ)) (reads : List InputRead) → records_of order (map untimed reads) ≡ records_of order reads
records-bare order reads =
    let lanes : lane_uids order (map untimed reads) ≡ lane_uids order reads = ap₂ (lanes_with order) (keys-bare 0 reads) (ap uids_of (ordered-bare order reads)) in
    ap (λ (l : LaneUids). records_from l 0 0 (map kept_anywhere (map untimed reads))) lanes ∙ records-each (lane_uids order reads) 0 0 reads

maps-id : {A : Type 0} (xs : List (List A)) → map (map (λ (x : A). x)) xs ≡ xs
maps-id [] = refl
maps-id {A = A} (x ∷ xs) = ap₂ (λ (y : List A) (ys : List (List A)). y ∷ ys) (map-id x) (maps-id xs)

numbers-given : (n : ℕ) (reads : List InputRead) → inputs_given n (map untimed reads) ≡ inputs_given n reads
numbers-given n reads =
    ap (lanes_by (λ (each : ℕ × InputRead). is_appended each.1) numbers_of) (enumerate-map untimed n reads)
    ∙ lanes-map (λ (each : ℕ × InputRead). is_appended each.1) numbers_of (λ (each : ℕ × InputRead). (each.0, untimed each.1)) numbers_of (λ (m : ℕ). m) (λ each. sym (map-id (numbers_of each))) (enumerate_from n reads)
    ∙ maps-id (inputs_given n reads)

pub numbers-bare : (order : List (ℕ × ℕ)) (reads : List InputRead) → inputs_taken order (map untimed reads) ≡ inputs_taken order reads
numbers-bare order reads = ap₂ (λ (keys : List (ℕ × ℕ)) (numbers : List (List ℕ)). in_order order keys numbers) (keys-bare 0 reads) (numbers-given 0 reads)

-- ---- results of sources

uids-bare : (reads : List InputRead) → file_uids (map untimed reads) ≡ file_uids reads
uids-bare reads = ap (λ (files : List AttachedFile). renumbered (map (λ (a : AttachedFile). a.uid) files)) (flat_map-map (λ (i : InputRead). i.attachments) untimed reads)

pub attachments-bare : (sources : List Source) → attachments_of (map bare sources) ≡ attachments_of sources
attachments-bare sources =
    ap₂ attached_from (ap file_uids (reads-bare sources) ∙ uids-bare (reads_of sources)) (flat_map-map files_in bare sources)

-- The sources `new` and `old` differ only in the timestamps of files, and give the same blocks to their output tracks.
pub record AreAlike (new old : List Source) : Type 0 where
  pub bare : map bare new ≡ map bare old
  pub given : map given_of new ≡ map given_of old

pairs : (sources : List Source) → zip (map bare sources) (map given_of sources) ≡ map (λ (s : Source). (bare s, given_of s)) sources
pairs [] = refl
pairs (s ∷ ss) = ap (λ (rest : List (Source × List Given)). (bare s, given_of s) ∷ rest) (pairs ss)

-- The output tracks depend only on the visible parts of each source.
lanes-seen : (sources : List Source) → lanes_by (λ (p : Source × List Given). is_appended p.0.1) (λ (p : Source × List Given). p.1) (zip (map bare sources) (map given_of sources)) ≡ lanes_given sources
lanes-seen sources =
    ap (lanes_by (λ (p : Source × List Given). is_appended p.0.1) (λ (p : Source × List Given). p.1)) (pairs sources)
    ∙ lanes-map (λ (p : Source × List Given). is_appended p.0.1) (λ (p : Source × List Given). p.1) (λ (s : Source). (bare s, given_of s)) given_of (λ (g : Given). g) (λ s. sym (map-id (given_of s))) sources
    ∙ maps-id (lanes_given sources)

given-same : (new old : List Source) → AreAlike new old → lanes_given new ≡ lanes_given old
given-same new old are =
    sym (lanes-seen new)
    ∙ ap₂ (λ (bares : List Source) (given : List (List Given)). lanes_by (λ (p : Source × List Given). is_appended p.0.1) (λ (p : Source × List Given). p.1) (zip bares given)) are.bare are.given
    ∙ lanes-seen old

pub reads-same : (new old : List Source) → AreAlike new old → map untimed (reads_of new) ≡ map untimed (reads_of old)
reads-same new old are = sym (reads-bare new) ∙ ap reads_of are.bare ∙ reads-bare old

pub attachments-same : (new old : List Source) → AreAlike new old → attachments_of new ≡ attachments_of old
attachments-same new old are = sym (attachments-bare new) ∙ ap attachments_of are.bare ∙ attachments-bare old

pub length-same : (new old : List Source) → AreAlike new old → length new ≡ length old
length-same new old are = sym (length-map new bare) ∙ ap length are.bare ∙ length-map old bare

-- A result that ignores timestamps is the same for inputs that differ only in them.
module _ {X : Type 0} (f : List InputRead → X) (whatever : (reads : List InputRead) → f (map untimed reads) ≡ f reads) where
  pub same-of : (new old : List InputRead) → map untimed new ≡ map untimed old → f new ≡ f old
  same-of new old are = sym (whatever new) ∙ ap f are ∙ whatever old

-- The output tracks are the same, in the order of the output.
pub lanes-same : (order : List (ℕ × ℕ)) (new old : List Source) → AreAlike new old → lanes_ordered order new ≡ lanes_ordered order old
lanes-same order new old are =
    ap₂ (λ (keys : List (ℕ × ℕ)) (lanes : List (List Given)). in_order order keys lanes)
    (same-of (keys_from 0) (keys-bare 0) (reads_of new) (reads_of old) (reads-same new old are)) (given-same new old are)

-- More sources after them change nothing of it.
pub alike-append : (new old more : List Source) → AreAlike new old → AreAlike (new ++ more) (old ++ more)
alike-append new old more are = record {
  bare = map-append bare new more ∙ ap (λ (l : List Source). l ++ map bare more) are.bare ∙ sym (map-append bare old more);
  given = map-append given_of new more ∙ ap (λ (l : List (List Given)). l ++ map given_of more) are.given ∙ sym (map-append given_of old more);
}
