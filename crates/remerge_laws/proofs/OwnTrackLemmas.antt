-- The entries that are read from an output are the written ones.
use Rattle.std.proofs.Common.{◌≡◌, ℕ, ◌+◌, ◌==◌, Bool, false, cond, List, [], ◌∷◌, length, map, filter, All, refl, sym, ap, ◌∙◌}
use Rattle.std.proofs.lemmas.List.Elements.{All-nil, All-cons, All-head, All-tail}
use Rattle.mkv_schema.specs.declared.ids.TheConstants.{TRACKS, TRACK_ENTRY}
use Rattle.tree_format.specs.Node.{Node, leaf, master, nodes_of, id_of}
use Rattle.tree_format.specs.NormalForm.{header_octets, is_filler, octets, octets_all}
use Rattle.tree_format.specs.Children.{set_each, set_in, removed_each, removed_in}
use Rattle.tree_format.specs.Standing.{placed}
use Rattle.file_format.specs.Entry.{entries_of}
use Rattle.track_records.specs.declared.track.Track.{Track}
use Rattle.track_records.specs.declared.track_change.TrackChange.{TrackChange}
use Rattle.track_records.specs.Entry.{IsWholeEntry, children_set, ids_removed, written_entry}
use Rattle.track_records.specs.Track.{track_of}
use Rattle.record_laws.specs.Again.{TracksStay, merged_again, read_of, written_entries}
use Rattle.remerge_laws.specs.OwnTracks.{OwnTracksStay}
use Rattle.remerge_laws.proofs.PlacedLemmas.{id-placed}
use Rattle.record_laws.proofs.SameLemmas.{read-step}

-- ---- a written entry is a TrackEntry

set-id : (c n : Node) → id_of (set_in c n) ≡ id_of n
set-id c (leaf id at body) = refl
set-id c (master id at kids) = refl

each-id : (cs : List Node) (n : Node) → id_of (set_each cs n) ≡ id_of n
each-id [] n = refl
each-id (c ∷ cs) n = each-id cs (set_in c n) ∙ set-id c n

removed-id : (id : ℕ) (n : Node) → id_of (removed_in id n) ≡ id_of n
removed-id id (leaf i at body) = refl
removed-id id (master i at kids) = refl

all_removed-id : (ids : List ℕ) (n : Node) → id_of (removed_each ids n) ≡ id_of n
all_removed-id [] n = refl
all_removed-id (id ∷ ids) n = all_removed-id ids (removed_in id n) ∙ removed-id id n

pub written-id : (c : TrackChange) (stored : Bool) (entry : Node) → id_of (written_entry c stored entry) ≡ id_of entry
written-id c stored entry = each-id (children_set c) (removed_each (ids_removed stored c.language) entry) ∙ all_removed-id (ids_removed stored c.language) entry

-- `n` is a TrackEntry.
abbrev IsOne : Node → Type 0
IsOne n = id_of n ≡ TRACK_ENTRY

written-ones : (changes : List TrackChange) (entries : List Node) → All IsWholeEntry entries → All IsOne (written_entries changes entries)
written-ones [] entries whole = All-nil IsOne
written-ones (c ∷ cs) [] whole = All-nil IsOne
written-ones (c ∷ cs) (e ∷ es) whole =
    All-cons IsOne (written_entry c false e) (written_entries cs es)
    (written-id c false e ∙ (All-head IsWholeEntry e es whole).id)
    (written-ones cs es (All-tail IsWholeEntry e es whole))

-- ---- all Elements that are read are entries

read-ones : (ns : List Node) (p : ℕ) → All IsOne ns → filter (λ n. id_of n == TRACK_ENTRY) (read_of p ns) ≡ read_of p ns
read-ones [] p are = refl
read-ones (n ∷ ns) p are =
    let q : ℕ = p + length (octets n) in
    let is : id_of n ≡ TRACK_ENTRY = All-head IsOne n ns are in
    let step = read-step p n ns (ap is_filler is) in
    ap (filter (λ k. id_of k == TRACK_ENTRY)) step
    ∙ ap (λ (i : ℕ). cond (i == TRACK_ENTRY) (placed p n ∷ filter (λ k. id_of k == TRACK_ENTRY) (read_of q ns)) (filter (λ k. id_of k == TRACK_ENTRY) (read_of q ns))) (id-placed n p ∙ is)
    ∙ ap (λ l. placed p n ∷ l) (read-ones ns q (All-tail IsOne n ns are))
    ∙ sym step

pub map-entries : (es : List Node) → map (λ (t : Track). t.entry) (map track_of es) ≡ es
map-entries [] = refl
map-entries (e ∷ es) = ap (λ l. e ∷ l) (map-entries es)

-- The tracks of an output stay if the entries do.
pub own-tracks : TracksStay → OwnTracksStay
own-tracks stay changes entries read whole small are of_them =
    let list : List Node = written_entries changes entries in
    let base : ℕ = of_them.place + length (header_octets TRACKS (length (octets_all (nodes_of list)))) in
    let entries_are : entries_of (placed of_them.place (master TRACKS 0 (nodes_of list))) ≡ read_of base list = read-ones list base (written-ones changes entries whole) in
    ap (λ (l : List Track). map octets (merged_again (map (λ (t : Track). t.entry) l))) of_them.stand
    ∙ ap (λ (l : List Node). map octets (merged_again l)) (map-entries (entries_of (placed of_them.place (master TRACKS 0 (nodes_of list)))) ∙ entries_are)
    ∙ stay changes entries base whole small are
