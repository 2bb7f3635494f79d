-- The Tracks of a merge are valid, with tracks numbered from 1 on.
use Rattle.std.proofs.Common.{◌≡◌, ◌≢◌, ◌<◌, ◌≤◌, ℕ, zero, suc, ◌+◌, ◌^◌, ◌==◌, cond, List, [], ◌∷◌, length, map, filter, get_or, refl, sym, ap, subst, ◌∙◌, arith, None}
use Rattle.std.specs.List.{All, AllPairs, AllZip}
use Rattle.std.proofs.lemmas.List.{length-map}
use Rattle.std.proofs.lemmas.List.Elements.{All-nil, All-cons, All-head, All-tail, All-map, All-weaker}
use Rattle.mkv_schema.specs.declared.ids.TheConstants.{TRACKS, TRACK_ENTRY}
use Rattle.mkv_io.specs.Results.{unless}
use Rattle.tree_format.specs.Node.{Node, nodes_of, id_of, depth_all, deepest}
use Rattle.tree_format.specs.NormalForm.{content, longest}
use Rattle.tree_format.specs.Standing.{AllStandIn}
use Rattle.tree_format.proofs.NodeLemmas.{list-nodes}
use Rattle.file_format.specs.Entry.{number_of}
use Rattle.file_format.specs.Entry as track
use Rattle.file_format.specs.Refusal.{refusal_of}
use Rattle.file_format.specs.Tracks.{IsTrack, AreTracks}
use Rattle.file_format.proofs.TracksLemmas.{refusal-none}
use Rattle.record_changes.proofs.GivenLemmas.{numbers-fit}
use Rattle.output_model.specs.declared.TheConstants.{MAX_LANES}
use Rattle.output_model.specs.Sound.{IsRecord, CountFrom}
use Rattle.output_model.specs.Sound as output
use Rattle.track_records.specs.Entry.{IsWholeEntry}
use Rattle.output_records.specs.Tracks.{output_tracks}
use Rattle.output_records.proofs.OutputLemmas.{entry-stands}
use Rattle.merge_inputs.specs.declared.taken.TakenTrack.{TakenTrack}
use Rattle.merge_plan.specs.Records.{change_of, entry_of, entries_from, entries_of, uids_of}
use Rattle.merge_plan.proofs.RecordLemmas.{length-uids}
use Rattle.merge_laws.specs.Merge.{HasEncodingsOf}
use Rattle.merge_laws.specs.Sources.{IsReadTrack}
use Rattle.merge_laws.proofs.EntryLemmas.{CanBeSet, taken-whole, written-whole, written-encodings, written-number, written-track}

-- ---- the entries

-- The entry was written.
record IsWritten (entry : Node) : Type 0 where
  whole : IsWholeEntry entry
  track : IsTrack entry

can-be : (number uid : ℕ) (t : TakenTrack) → 0 < number → number < 2 ^ 64 → uid < 2 ^ 64 → IsReadTrack t → CanBeSet (change_of number uid t)
can-be number uid t some small own read = record { some = some; number = small; uid = own; name = read.name; language = read.language; language_tag = read.language_tag }

entries-written : (number : ℕ) (uids : List ℕ) (taken : List TakenTrack) → 0 < number → number + length taken < 2 ^ 64 → All (λ uid. uid < 2 ^ 64) uids → All IsReadTrack taken → All IsWritten (entries_from number uids taken)
entries-written number [] taken some small own read = All-nil IsWritten
entries-written number (uid ∷ uids) [] some small own read = All-nil IsWritten
entries-written number (uid ∷ uids) (t ∷ taken) some small own read =
    let first = All-head IsReadTrack t taken read in
    let can = can-be number uid t some (omega arith) (All-head (λ (n : ℕ). n < 2 ^ 64) uid uids own) first in
    let whole = taken-whole t first.taken in
    All-cons IsWritten (entry_of number uid t) (entries_from (number + 1) uids taken)
    (record { whole = written-whole (change_of number uid t) t.track.stored t.track.entry can whole; track = written-track (change_of number uid t) t.track.stored t.track.entry can whole first.taken.track })
    (entries-written (number + 1) uids taken (omega arith) (omega arith) (All-tail (λ (n : ℕ). n < 2 ^ 64) uid uids own) (All-tail IsReadTrack t taken read))

entries-encodings : (number : ℕ) (uids : List ℕ) (taken : List TakenTrack) → length uids ≡ length taken → All IsReadTrack taken → AllZip HasEncodingsOf taken (entries_from number uids taken)
entries-encodings number [] [] long read = tt
entries-encodings number [] (t ∷ taken) long read = absurd (omega arith)
entries-encodings number (uid ∷ uids) [] long read = absurd (omega arith)
entries-encodings number (uid ∷ uids) (t ∷ taken) long read =
    let first = All-head IsReadTrack t taken read in (
      written-encodings (change_of number uid t) t.track.stored t.track.entry (taken-whole t first.taken),
      entries-encodings (number + 1) uids taken (omega (arith, long)) (All-tail IsReadTrack t taken read),
    )

entries-numbers : (number : ℕ) (uids : List ℕ) (taken : List TakenTrack) → 0 < number → number + length taken < 2 ^ 64 → All (λ uid. uid < 2 ^ 64) uids → All IsReadTrack taken → CountFrom number (map number_of (entries_from number uids taken))
entries-numbers number [] taken some small own read = tt
entries-numbers number (uid ∷ uids) [] some small own read = tt
entries-numbers number (uid ∷ uids) (t ∷ taken) some small own read =
    let first = All-head IsReadTrack t taken read in
    let can = can-be number uid t some (omega arith) (All-head (λ (n : ℕ). n < 2 ^ 64) uid uids own) first in (
      written-number (change_of number uid t) t.track.stored t.track.entry can (taken-whole t first.taken),
      entries-numbers (number + 1) uids taken (omega arith) (omega arith) (All-tail (λ (n : ℕ). n < 2 ^ 64) uid uids own) (All-tail IsReadTrack t taken read),
    )

entries-length : (number : ℕ) (uids : List ℕ) (taken : List TakenTrack) → length uids ≡ length taken → length (entries_from number uids taken) ≡ length taken
entries-length number [] [] same = refl
entries-length number [] (t ∷ taken) same = absurd (omega arith)
entries-length number (uid ∷ uids) [] same = absurd (omega arith)
entries-length number (uid ∷ uids) (t ∷ taken) same = ap suc (entries-length (number + 1) uids taken (omega arith))

-- There is one entry for each selected track.
pub entries-count : (taken : List TakenTrack) → length (entries_of taken) ≡ length taken
entries-count taken = entries-length 1 (uids_of taken) taken (length-uids taken)

-- ---- numbers that count are distinct

counted-at : (n : ℕ) (ns : List ℕ) (k d : ℕ) → CountFrom n ns → k < length ns → get_or ns k d ≡ n + k
counted-at n [] k d count below = absurd (omega arith)
counted-at n (m ∷ ns) zero d count below = count.0 ∙ omega arith
counted-at n (m ∷ ns) (suc k) d count below = counted-at (n + 1) ns k d count.1 (omega arith) ∙ omega arith

counted-apart : (n : ℕ) (ns : List ℕ) → CountFrom n ns → AllPairs ◌≢◌ ns
counted-apart n ns count i j d before inside same =
    let first = counted-at n ns i d count (omega arith) in
    let second = counted-at n ns j d count inside in
    omega arith

-- ---- the Tracks

-- `n` is a TrackEntry.
abbrev IsOne : Node → Type 0
IsOne n = id_of n ≡ TRACK_ENTRY

filter-entries : (es : List Node) → All IsOne es → filter (λ n. id_of n == TRACK_ENTRY) es ≡ es
filter-entries [] all = refl
filter-entries (e ∷ es) all =
    ap (λ (i : ℕ). cond (i == TRACK_ENTRY) (e ∷ filter (λ n. id_of n == TRACK_ENTRY) es) (filter (λ n. id_of n == TRACK_ENTRY) es)) (All-head IsOne e es all)
    ∙ ap (λ l. e ∷ l) (filter-entries es (All-tail IsOne e es all))

-- All entries of a Tracks Element that is made from them are found in it.
pub entries-all : (es : List Node) → All IsOne es → track.entries_of (output_tracks es) ≡ es
entries-all es all = ap (filter (λ n. id_of n == TRACK_ENTRY)) (list-nodes es) ∙ filter-entries es all

written-all : (es : List Node) → All IsWritten es → track.entries_of (output_tracks es) ≡ es
written-all es all = entries-all es (All-weaker IsWritten IsOne (λ e w. w.whole.id) es all)

-- Valid entries are valid in it.
pub all-stand : (es : List Node) → All IsWholeEntry es → AllStandIn TRACKS (nodes_of es)
all-stand [] all = tt
all-stand (e ∷ es) all = (entry-stands e (All-head IsWholeEntry e es all), all-stand es (All-tail IsWholeEntry e es all))

-- They aren't too deep for it.
pub all-low : (es : List Node) → All IsWholeEntry es → depth_all (nodes_of es) < deepest
all-low [] all = omega arith
all-low (e ∷ es) all =
    let first = (All-head IsWholeEntry e es all).room in
    let rest = all-low es (All-tail IsWholeEntry e es all) in
    omega arith

tracks-record : (es : List Node) → All IsWritten es → length (content (output_tracks es)) ≤ longest → IsRecord TRACKS (output_tracks es)
tracks-record es all short =
    let whole : All IsWholeEntry es = All-weaker IsWritten IsWholeEntry (λ e w. w.whole) es all in
    let low = all-low es whole in
    record { id = refl; master = refl; sound = all-stand es whole; limits = record { long = short; deep = omega arith } }

tracks-of : (es : List Node) → All IsWritten es → CountFrom 1 (map number_of es) → length es ≤ MAX_LANES → length (content (output_tracks es)) ≤ longest → output.AreTracks (output_tracks es)
tracks-of es all count few short =
    let is = written-all es all in
    let P : List Node → Type 0 = AreTracks in
    let Q : List Node → Type 0 = λ l. CountFrom 1 (map number_of l) in
    let R : List Node → Type 0 = λ l. length l ≤ MAX_LANES in
    let are : AreTracks es = record { each = All-weaker IsWritten IsTrack (λ e w. w.track) es all; distinct = counted-apart 1 (map number_of es) count; few = omega arith } in
    let good : refusal_of (output_tracks es) ≡ None = (refusal-none (output_tracks es)).1 (subst P (sym is) are) in
    record {
      is = tracks-record es all short;
      read = ap (λ refusal. unless refusal (track.entries_of (output_tracks es))) good;
      numbers = subst Q (sym is) count;
      few = subst R (sym is) few;
    }

-- ---- the selected tracks

module _ (taken : List TakenTrack) (read : All IsReadTrack taken) (few : length taken ≤ MAX_LANES) where
  uids-small : All (λ uid. uid < 2 ^ 64) (uids_of taken)
  uids-small =
      let ids : List ℕ = map (λ (t : TakenTrack). t.track.uid) taken in
      let as_many : length ids ≡ length taken = length-map taken (λ (t : TakenTrack). t.track.uid) in
      let own : All (λ uid. uid < 2 ^ 64) ids = All-map (λ uid. uid < 2 ^ 64) (λ (t : TakenTrack). t.track.uid) taken (All-weaker IsReadTrack (λ (t : TakenTrack). t.track.uid < 2 ^ 64) (λ t r. r.uid) taken read) in
      numbers-fit ids (2 ^ 64) own (omega arith)

  -- The entries make a valid Tracks Element.
  pub taken-tracks : length (content (output_tracks (entries_of taken))) ≤ longest → output.AreTracks (output_tracks (entries_of taken))
  taken-tracks short =
      let all = entries-written 1 (uids_of taken) taken (omega arith) (omega arith) uids-small read in
      let count = entries-numbers 1 (uids_of taken) taken (omega arith) (omega arith) uids-small read in
      tracks-of (entries_of taken) all count (omega (arith, entries-count taken)) short

  -- The entries have the ContentEncodings of tracks that are taken as they are stored, and no others.
  pub taken-encodings : AllZip HasEncodingsOf taken (track.entries_of (output_tracks (entries_of taken)))
  taken-encodings =
      let all = entries-written 1 (uids_of taken) taken (omega arith) (omega arith) uids-small read in
      subst (AllZip HasEncodingsOf taken) (sym (written-all (entries_of taken) all)) (entries-encodings 1 (uids_of taken) taken (length-uids taken) read)

  -- Each entry is one output track.
  pub taken-lanes : length (track.entries_of (output_tracks (entries_of taken))) ≡ length taken
  taken-lanes =
      let all = entries-written 1 (uids_of taken) taken (omega arith) (omega arith) uids-small read in
      ap length (written-all (entries_of taken) all) ∙ entries-count taken
