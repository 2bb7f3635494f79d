-- The default durations of tracks that are merged again.
use Rattle.std.proofs.Common.{◌≡◌, ◌<◌, ◌≤◌, ℕ, ◌+◌, ◌^◌, false, List, [], ◌∷◌, length, map, All, Option, refl, sym, ap, ap₂, ◌∙◌, arith}
use Rattle.std.specs.List.{AllZip}
use Rattle.std.specs.Option.{option_map}
use Rattle.std.proofs.lemmas.List.{length-map}
use Rattle.std.proofs.lemmas.List.Elements.{All-head, All-tail, All-weaker}
use Rattle.mkv_schema.specs.declared.ids.TheConstants.{DEFAULT_DURATION, TRACKS, TRACK_ENTRY}
use Rattle.tree_format.specs.Node.{Node, leaf, master, id_of, IsMaster}
use Rattle.tree_format.specs.Values.{integer_of}
use Rattle.file_format.specs.Entry.{default_duration_of, entries_of}
use Rattle.output_model.specs.declared.TheConstants.{MAX_LANES}
use Rattle.output_model.specs.Sound.{IsRecord}
use Rattle.track_records.specs.declared.track.Track.{Track}
use Rattle.track_records.specs.declared.track_change.TrackChange.{TrackChange}
use Rattle.track_records.specs.Entry.{IsWholeEntry, written_entry}
use Rattle.record_laws.specs.Again.{plain, plain_changes, written_entries}
use Rattle.record_laws.proofs.EntryLemmas.{part-others}
use Rattle.output_records.specs.Tracks.{output_tracks}
use Rattle.requests.specs.Plain.{plain_file}
use Rattle.merge_inputs.specs.Taken.{taken_from}
use Rattle.merge_inputs.specs.declared.taken.TakenTrack.{TakenTrack}
use Rattle.merge_plan.specs.Records.{uids_of}
use Rattle.merge_plan.specs.Records.{entries_of as entries_given}
use Rattle.merge_plan.proofs.RecordLemmas.{length-uids}
use Rattle.merge_laws.proofs.EntryLemmas.{first-kept}
use Rattle.merge_laws.proofs.TracksLemmas.{entries-all}
use Rattle.remerge_laws.specs.AgainTracks.{ArePlainTracks}
use Rattle.remerge_laws.specs.Records.{AreTracksOf}
use Rattle.remerge_laws.specs.Tracks.{IsTrackOf}
use Rattle.remerge_laws.proofs.AgainPlanLemmas.{all-whole, read-whole}
use Rattle.remerge_laws.proofs.AgainTrackLemmas.{entries-plain, tracks-taken}
use Rattle.remerge_laws.proofs.TrackLemmas.{integer-same}

abbrev Small : ℕ → Type 0
Small n = n < 2 ^ 64

-- A written entry has the default duration of the entry.
duration-written : (c : TrackChange) (e : Node) → IsMaster e → default_duration_of (written_entry c false e) ≡ default_duration_of e
duration-written c (leaf id at body) is = absurd (cc)
duration-written c (master id at kids) is = ap (option_map integer_of) (first-kept c false DEFAULT_DURATION id at kids (λ ns. part-others c false ns DEFAULT_DURATION refl refl refl refl))

durations-written : (number : ℕ) (uids : List ℕ) (es : List Node) → length uids ≡ length es → All IsWholeEntry es
    → map default_duration_of (written_entries (plain_changes number uids) es) ≡ map default_duration_of es
durations-written number [] [] long whole = refl
durations-written number [] (e ∷ es) long whole = absurd (cc)
durations-written number (uid ∷ uids) [] long whole = absurd (cc)
durations-written number (uid ∷ uids) (e ∷ es) long whole =
    ap₂ (λ (d : Option ℕ) ds. d ∷ ds) (duration-written (plain number uid) e (All-head IsWholeEntry e es whole).master)
    (durations-written (number + 1) uids es (cc) (All-tail IsWholeEntry e es whole))

-- An entry that is read has the default duration of the written one.
durations-read : (es : List Node) (ts : List Track) → AllZip IsTrackOf es ts → map default_duration_of (map (λ (t : Track). t.entry) ts) ≡ map default_duration_of es
durations-read [] [] are = refl
durations-read [] (t ∷ ts) are = absurd are
durations-read (e ∷ es) [] are = absurd are
durations-read (e ∷ es) (t ∷ ts) are =
    ap₂ (λ (d : Option ℕ) ds. d ∷ ds) (ap default_duration_of are.0.stands.1 ∙ integer-same DEFAULT_DURATION e are.0.stands.0 refl) (durations-read es ts are.1)

-- The entries of an output keep their default durations if they are merged again.
pub durations-again : (name : List ℕ) (tracks : Node) (read : List Track) → IsRecord TRACKS tracks → ArePlainTracks tracks → AreTracksOf tracks read
    → length (taken_from (plain_file name) 0 read) ≤ MAX_LANES → All Small (uids_of (taken_from (plain_file name) 0 read))
    → map default_duration_of (entries_of (output_tracks (entries_given (taken_from (plain_file name) 0 read)))) ≡ map default_duration_of (entries_of tracks)
durations-again name tracks read is plain_tracks are few small =
    let taken : List TakenTrack = taken_from (plain_file name) 0 read in
    let entries : List Node = map (λ (t : Track). t.entry) read in
    let made : List Node = written_entries (plain_changes 1 (uids_of taken)) entries in
    let whole = read-whole tracks read is are in
    let long = length-uids taken in
    let again : length taken ≡ length (entries_of tracks) = (tracks-taken name tracks read plain_tracks are).many in
    let read_as : map default_duration_of entries ≡ map default_duration_of (entries_of tracks) = durations-read (entries_of tracks) read are.say in
    let many : length entries ≡ length (entries_of tracks) = sym (length-map entries default_duration_of) ∙ ap length read_as ∙ length-map (entries_of tracks) default_duration_of in
    let made_whole : All IsWholeEntry made = all-whole 1 (uids_of taken) entries (omega arith) (omega (arith, long, few)) small whole in
    ap (λ (es : List Node). map default_duration_of (entries_of (output_tracks es))) (entries-plain name tracks read plain_tracks are)
    ∙ ap (map default_duration_of) (entries-all made (All-weaker IsWholeEntry (λ (n : Node). id_of n ≡ TRACK_ENTRY) (λ n entry. entry.id) made made_whole))
    ∙ durations-written 1 (uids_of taken) entries (long ∙ again ∙ sym many) whole
    ∙ read_as
