-- The values of the entries that a merge writes for its selected tracks.
use Rattle.std.proofs.Common.{◌≡◌, ◌<◌, ℕ, ◌+◌, ◌^◌, ◌==◌, Bool, true, false, List, [], ◌∷◌, length, map, find, All, Option, None, refl, sym, ap, ap₂, ◌∙◌}
use Rattle.std.specs.Prelude.{unwrap_or}
use Rattle.std.specs.Option.{option_map}
use Rattle.std.proofs.lemmas.List.Elements.{All-nil, All-cons, All-head, All-tail}
use Rattle.ebml_numbers.specs.Number.{uint_octets}
use Rattle.mkv_schema.specs.declared.ids.TheConstants.{TRACK_ENTRY, TRACK_TYPE, TRACK_UID}
use Rattle.mkv_schema.specs.Schema.{uint_default}
use Rattle.tree_format.specs.Node.{Node, leaf, master, nodes_of, list_of, id_of, IsMaster}
use Rattle.tree_format.specs.Changes.{part}
use Rattle.tree_format.specs.Values.{first_child, integer_of}
use Rattle.tree_format.proofs.NodeLemmas.{list-nodes}
use Rattle.tree_format.proofs.ValueLemmas.{uint_value-octets}
use Rattle.file_format.specs.Entry.{entries_of, type_of, uid_of}
use Rattle.output_model.specs.declared.rule.CueRule.{CueRule}
use Rattle.record_laws.proofs.EntryLemmas.{entry_list, part-uid, written-master}
use Rattle.record_laws.proofs.TrackLemmas.{find-filter, first_in}
use Rattle.track_records.specs.declared.track.Track.{Track}
use Rattle.track_records.specs.declared.track_change.TrackChange.{TrackChange}
use Rattle.track_records.specs.Entry.{written_entry}
use Rattle.output_records.specs.Tracks.{output_tracks}
use Rattle.merge_inputs.specs.Taken.{IsTaken}
use Rattle.merge_inputs.specs.declared.taken.TakenTrack.{TakenTrack}
use Rattle.merge_plan.specs.Plan.{rule_for, rule_of, default_rule}
use Rattle.merge_plan.specs.Records.{change_of, entries_from, entry_of, uids_of}
use Rattle.merge_plan.specs.Records.{entries_of as entries_given}
use Rattle.merge_plan.proofs.RecordLemmas.{length-uids}
use Rattle.merge_laws.specs.Sources.{is_taken_type}
use Rattle.merge_laws.proofs.EntryLemmas.{taken-whole}
use Rattle.merge_laws.proofs.EntryLemmas.{type-kept as first-type}
use Rattle.merge_laws.proofs.TracksLemmas.{entries-all}
use Rattle.remerge_laws.proofs.OwnTrackLemmas.{written-id}

-- ---- an entry

first-is : (c : TrackChange) (stored : Bool) (id : ℕ) (i at : ℕ) (ns : List Node) → first_child id (master i at (nodes_of (entry_list c stored ns))) ≡ first_in (part id (entry_list c stored ns))
first-is c stored id i at ns = ap (find (λ n. id_of n == id)) (list-nodes (entry_list c stored ns)) ∙ find-filter (λ n. id_of n == id) (entry_list c stored ns)

type-kept : (c : TrackChange) (stored : Bool) (entry : Node) → IsMaster entry → type_of (written_entry c stored entry) ≡ type_of entry
type-kept c stored (leaf id at body) is = let never : true ≡ false = is in absurd (cc)
type-kept c stored (master id at kids) is =
    ap (λ (o : Option Node). unwrap_or (option_map integer_of o) (unwrap_or (uint_default TRACK_TYPE) 0)) (first-type c stored id at kids)

uid-set : (c : TrackChange) (stored : Bool) (entry : Node) → IsMaster entry → c.uid < 2 ^ 64 → uid_of (written_entry c stored entry) ≡ c.uid
uid-set c stored (leaf id at body) is small = let never : true ≡ false = is in absurd (cc)
uid-set c stored (master id at kids) is small =
    ap uid_of (written-master c stored id at kids)
    ∙ ap (λ (o : Option Node). unwrap_or (option_map integer_of o) (unwrap_or (uint_default TRACK_UID) 0)) (first-is c stored TRACK_UID id at (list_of kids) ∙ ap first_in (part-uid c stored (list_of kids)))
    ∙ uint_value-octets TRACK_UID c.uid (uint_octets c.uid) small refl

pub taken-master : (t : TakenTrack) → IsTaken t → IsMaster t.track.entry
taken-master t is = (taken-whole t is).master

-- ---- all entries

abbrev IsOne : Node → Type 0
IsOne n = id_of n ≡ TRACK_ENTRY

from-ones : (number : ℕ) (uids : List ℕ) (taken : List TakenTrack) → All IsTaken taken → All IsOne (entries_from number uids taken)
from-ones number [] taken are = All-nil IsOne
from-ones number (uid ∷ uids) [] are = All-nil IsOne
from-ones number (uid ∷ uids) (t ∷ taken) are =
    All-cons IsOne (entry_of number uid t) (entries_from (number + 1) uids taken)
    (written-id (change_of number uid t) t.track.stored t.track.entry ∙ (All-head IsTaken t taken are).entry.id) (from-ones (number + 1) uids taken (All-tail IsTaken t taken are))

pub entries-are : (taken : List TakenTrack) → All IsTaken taken → entries_of (output_tracks (entries_given taken)) ≡ entries_given taken
entries-are taken are = entries-all (entries_given taken) (from-ones 1 (uids_of taken) taken are)

abbrev HasTypeTaken : Node → Type 0
HasTypeTaken entry = is_taken_type (type_of entry) ≡ true

abbrev pub IsOfTakenType : TakenTrack → Type 0
IsOfTakenType t = is_taken_type t.track.kind ≡ true

abbrev pub HasUsualCues : TakenTrack → Type 0
HasUsualCues t = t.cues ≡ None

entry-type : (number uid : ℕ) (t : TakenTrack) → IsTaken t → type_of (entry_of number uid t) ≡ t.track.kind
entry-type number uid t is = type-kept (change_of number uid t) t.track.stored t.track.entry (taken-master t is) ∙ sym (ap (λ (k : Track). k.kind) is.said)

pub types-from : (number : ℕ) (uids : List ℕ) (taken : List TakenTrack) → All IsTaken taken → All IsOfTakenType taken → All HasTypeTaken (entries_from number uids taken)
types-from number [] taken are types = All-nil HasTypeTaken
types-from number (uid ∷ uids) [] are types = All-nil HasTypeTaken
types-from number (uid ∷ uids) (t ∷ taken) are types =
    All-cons HasTypeTaken (entry_of number uid t) (entries_from (number + 1) uids taken)
    (ap is_taken_type (entry-type number uid t (All-head IsTaken t taken are)) ∙ All-head IsOfTakenType t taken types)
    (types-from (number + 1) uids taken (All-tail IsTaken t taken are) (All-tail IsOfTakenType t taken types))

rules-from : (number : ℕ) (uids : List ℕ) (taken : List TakenTrack) → length uids ≡ length taken → All IsTaken taken → All HasUsualCues taken
    → map (λ (entry : Node). default_rule (type_of entry)) (entries_from number uids taken) ≡ map rule_of taken
rules-from number [] [] long are cues = refl
rules-from number [] (t ∷ taken) long are cues = absurd (cc)
rules-from number (uid ∷ uids) [] long are cues = absurd (cc)
rules-from number (uid ∷ uids) (t ∷ taken) long are cues =
    ap₂ (λ (r : CueRule) rs. r ∷ rs)
    (ap default_rule (entry-type number uid t (All-head IsTaken t taken are)) ∙ ap (λ o. rule_for o t.track.kind) (sym (All-head HasUsualCues t taken cues)))
    (rules-from (number + 1) uids taken (cc) (All-tail IsTaken t taken are) (All-tail HasUsualCues t taken cues))

abbrev Small : ℕ → Type 0
Small n = n < 2 ^ 64

uids-from : (number : ℕ) (uids : List ℕ) (taken : List TakenTrack) → length uids ≡ length taken → All IsTaken taken → All Small uids → map uid_of (entries_from number uids taken) ≡ uids
uids-from number [] taken long are small = refl
uids-from number (uid ∷ uids) [] long are small = absurd (cc)
uids-from number (uid ∷ uids) (t ∷ taken) long are small =
    ap₂ (λ (u : ℕ) us. u ∷ us) (uid-set (change_of number uid t) t.track.stored t.track.entry (taken-master t (All-head IsTaken t taken are)) (All-head Small uid uids small))
    (uids-from (number + 1) uids taken (cc) (All-tail IsTaken t taken are) (All-tail Small uid uids small))

pub rules-given : (taken : List TakenTrack) → All IsTaken taken → All HasUsualCues taken → map (λ (entry : Node). default_rule (type_of entry)) (entries_given taken) ≡ map rule_of taken
rules-given taken are cues = rules-from 1 (uids_of taken) taken (length-uids taken) are cues

pub uids-given : (taken : List TakenTrack) → All IsTaken taken → All Small (uids_of taken) → map uid_of (entries_given taken) ≡ uids_of taken
uids-given taken are small = uids-from 1 (uids_of taken) taken (length-uids taken) are small
