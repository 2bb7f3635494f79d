-- Tracks that were written and read are written as they were.
use Rattle.std.proofs.Common.{◌≡◌, ℕ, ◌+◌, ◌<◌, ◌^◌, ◌==◌, Bool, false, List, [], ◌∷◌, length, map, filter, find, All, Option, None, Some, refl, sym, ap, ap₂, ◌∙◌, arith, unwrap_or, option_map}
use Rattle.std.proofs.lemmas.List.{length-map}
use Rattle.std.proofs.lemmas.List.Elements.{All-head, All-tail}
use Rattle.ebml_numbers.specs.Number.{uint_octets}
use Rattle.mkv_schema.specs.declared.ids.TheConstants.{TRACK_ENTRY, TRACK_UID}
use Rattle.mkv_schema.specs.Table.{table}
use Rattle.mkv_schema.specs.Schema.{entry_of, uint_default}
use Rattle.tree_format.specs.Node.{Node, Nodes, leaf, master, nodes_of, list_of, id_of, IsMaster}
use Rattle.tree_format.specs.NormalForm.{is_filler, header_octets, octets, octets_all}
use Rattle.tree_format.specs.Standing.{placed, placed_all}
use Rattle.tree_format.specs.Values.{integer_of}
use Rattle.tree_format.proofs.NodeLemmas.{list-nodes}
use Rattle.tree_format.proofs.ValueLemmas.{uint_value-octets}
use Rattle.file_format.specs.Entry.{uid_of}
use Rattle.record_changes.specs.Identifiers.{renumbered}
use Rattle.record_changes.proofs.GivenLemmas.{numbers-settle}
use Rattle.track_records.specs.declared.track_change.TrackChange.{TrackChange}
use Rattle.tree_format.specs.Children.{uint_leaf}
use Rattle.track_records.specs.Entry.{written_entry, IsWholeEntry}
use Rattle.record_laws.specs.Again.{plain, plain_changes, written_entries, read_of, AreNumbered, TracksStay}
use Rattle.record_laws.proofs.EntryLemmas.{entry_list, written-master, part-uid, entries-stay}
use Rattle.record_laws.proofs.SameLemmas.{integer-placed, part-placed, read-step}

-- ---- the first child with an ID is the first of all with that ID

abbrev pub first_in : {A : Type 0} → List A → Option A
first_in [] = None
first_in (n ∷ ns) = Some n

pub find-filter : (p : Node → Bool) (ns : List Node) → find p ns ≡ first_in (filter p ns)
find-filter p [] = refl
find-filter p (n ∷ ns) = grind (arith, find-filter p ns)

pub find-map : {A : Type 0} (f : Node → A) (p : Node → Bool) (ns : List Node) → option_map f (find p ns) ≡ first_in (map f (filter p ns))
find-map f p [] = refl
find-map f p (n ∷ ns) = grind (arith, find-map f p ns)

-- ---- a written integer is the same at any place

pub placed-integer : (id : ℕ) (ns : Nodes) (p : ℕ) → is_filler id ≡ false
    → option_map integer_of (find (λ n. id_of n == id) (list_of (placed_all p ns))) ≡ option_map integer_of (find (λ n. id_of n == id) (list_of ns))
placed-integer id ns p kept =
    find-map integer_of (λ n. id_of n == id) (list_of (placed_all p ns)) ∙ ap first_in (part-placed integer_of integer-placed id ns p kept)
    ∙ sym (find-map integer_of (λ n. id_of n == id) (list_of ns))

-- ---- a written identifier is read

no-default : uint_default TRACK_UID ≡ None
unfolding entry_of table
no-default = refl

uid-again : (c : TrackChange) (id at p : ℕ) (kids : Nodes) → c.uid < 2 ^ 64 → uid_of (placed p (written_entry c false (master id at kids))) ≡ c.uid
uid-again c id at p kids small =
    let first : List Node = entry_list c false (list_of kids) in
    let own : Node = uint_leaf TRACK_UID c.uid in
    let q : ℕ = p + length (header_octets id (length (octets_all (nodes_of first)))) in
    let found : find (λ n. id_of n == TRACK_UID) first ≡ Some own = find-filter (λ n. id_of n == TRACK_UID) first ∙ ap first_in (part-uid c false (list_of kids)) in
    let read : option_map integer_of (find (λ n. id_of n == TRACK_UID) (read_of q first)) ≡ Some (integer_of own) =
    placed-integer TRACK_UID (nodes_of first) q refl ∙ ap (λ l. option_map integer_of (find (λ n. id_of n == TRACK_UID) l)) (list-nodes first) ∙ ap (option_map integer_of) found in
    ap (λ n. uid_of (placed p n)) (written-master c false id at kids)
    ∙ ap (λ o. unwrap_or o (unwrap_or (uint_default TRACK_UID) 0)) read ∙ uint_value-octets TRACK_UID c.uid (uint_octets c.uid) small refl

uid-whole : (c : TrackChange) (entry : Node) (p : ℕ) → IsMaster entry → c.uid < 2 ^ 64 → uid_of (placed p (written_entry c false entry)) ≡ c.uid
uid-whole c (leaf id at body) p is small = absurd (cc)
uid-whole c (master id at kids) p is small = uid-again c id at p kids small

written-id : (c : TrackChange) (entry : Node) → IsMaster entry → id_of (written_entry c false entry) ≡ id_of entry
written-id c (leaf id at body) is = absurd (cc)
written-id c (master id at kids) is = ap id_of (written-master c false id at kids)

-- ---- all tracks

module _ (c : TrackChange) (entry : Node) (whole : IsWholeEntry entry) where
  is-entry : id_of (written_entry c false entry) ≡ TRACK_ENTRY
  is-entry = written-id c entry whole.master ∙ whole.id

uids-again : (cs : List TrackChange) (es : List Node) (p : ℕ) → length cs ≡ length es → All IsWholeEntry es → All (λ c. c.uid < 2 ^ 64) cs → map uid_of (read_of p (written_entries cs es)) ≡ map (λ c. c.uid) cs
uids-again [] es p same whole small = refl
uids-again (c ∷ cs) [] p same whole small = absurd (omega arith)
uids-again (c ∷ cs) (e ∷ es) p same whole small =
    let one = All-head IsWholeEntry e es whole in
    ap (map uid_of) (read-step p (written_entry c false e) (written_entries cs es) (ap is_filler (is-entry c e one)))
    ∙ ap₂ (λ (u : ℕ) us. u ∷ us) (uid-whole c e p one.master (All-head (λ (k : TrackChange). k.uid < 2 ^ 64) c cs small))
    (uids-again cs es (p + length (octets (written_entry c false e))) (omega arith) (All-tail IsWholeEntry e es whole) (All-tail (λ (k : TrackChange). k.uid < 2 ^ 64) c cs small))

entries-again : (n : ℕ) (us : List ℕ) (cs : List TrackChange) (es : List Node) (p : ℕ) → length cs ≡ length es → All IsWholeEntry es → AreNumbered n us cs
    → map octets (written_entries (plain_changes n us) (read_of p (written_entries cs es))) ≡ map octets (written_entries cs es)
entries-again n us [] es p same whole are = ap (λ l. map octets (written_entries (plain_changes n l) [])) (sym are.0)
entries-again n us (c ∷ cs) [] p same whole are = absurd (omega arith)
entries-again n [] (c ∷ cs) (e ∷ es) p same whole are = let never : c.uid ∷ map (λ c. c.uid) cs ≡ [] = are.0 in absurd (cc)
entries-again n (u ∷ us) (c ∷ cs) (e ∷ es) p same whole are =
    let uids : c.uid ∷ map (λ c. c.uid) cs ≡ u ∷ us = are.0 in
    let numbers : c.number ∷ map (λ c. c.number) cs ≡ n ∷ map (λ c. c.number) (plain_changes (n + 1) us) = are.1 in
    let own : c.uid ≡ u = cc in
    let others : map (λ c. c.uid) cs ≡ us = cc in
    let number : c.number ≡ n = cc in
    let rest : map (λ c. c.number) cs ≡ map (λ c. c.number) (plain_changes (n + 1) us) = cc in
    let one = All-head IsWholeEntry e es whole in
    let behind : List Node = read_of (p + length (octets (written_entry c false e))) (written_entries cs es) in
    ap (λ l. map octets (written_entries (plain_changes n (u ∷ us)) l)) (read-step p (written_entry c false e) (written_entries cs es) (ap is_filler (is-entry c e one)))
    ∙ ap₂ (λ (o : List ℕ) os. o ∷ os)
    (ap₂ (λ a b. octets (written_entry (plain a b) false (placed p (written_entry c false e)))) (sym number) (sym own) ∙ entries-stay c false e p one.master)
    (entries-again (n + 1) us cs es (p + length (octets (written_entry c false e))) (omega arith) (All-tail IsWholeEntry e es whole) (others, rest))

pub tracks-stay : TracksStay
tracks-stay changes entries place whole small are =
    let us : List ℕ = renumbered (map uid_of entries) in
    let long : length changes ≡ length entries =
    sym (length-map changes (λ c. c.uid)) ∙ ap length are.0 ∙ numbers-settle.each (map uid_of entries) ∙ length-map entries uid_of in
    let read : List Node = read_of place (written_entries changes entries) in
    let uids : map uid_of read ≡ us = uids-again changes entries place long whole small ∙ are.0 in
    let again : renumbered (map uid_of read) ≡ us = ap renumbered uids ∙ numbers-settle.stays us (numbers-settle.settled (map uid_of entries)) in
    ap (λ ns. map octets (written_entries (plain_changes 1 ns) read)) again ∙ entries-again 1 us changes entries place long whole are
