-- The entries of a Tracks Element that was read.
use Rattle.std.proofs.Common.{◌≡◌, ◌<◌, ℕ, ◌==◌, true, false, List, [], ◌∷◌, All, eqb-true, refl, sym, ap, subst, ◌∙◌, arith, inl, inr}
use Rattle.std.proofs.lemmas.List.Elements.{All-nil, All-cons}
use Rattle.std.proofs.lemmas.Bool.{cases_Bool}
use Rattle.mkv_schema.specs.declared.ids.TheConstants.{TRACKS, TRACK_ENTRY}
use Rattle.mkv_schema.specs.Table.{table}
use Rattle.mkv_schema.specs.Schema.{entry_of}
use Rattle.tree_format.specs.Node.{Node, Nodes, leaf, master, nodes_of, id_of, children, depth_all, deepest, IsMaster}
use Rattle.tree_format.specs.Changes.{part}
use Rattle.tree_format.specs.Reading.{is_master_in}
use Rattle.tree_format.specs.Standing.{StandsIn, AllStandIn, IsSound, IsSoundOf}
use Rattle.tree_format.proofs.NodeLemmas.{nodes-list}
use Rattle.tree_format.proofs.ChildLemmas.{stands-sound}
use Rattle.track_records.specs.Entry.{IsWholeEntry}
use Rattle.record_laws.specs.Entries.{ReadEntriesAreWhole}

entry-master : is_master_in TRACKS TRACK_ENTRY ≡ true
unfolding entry_of table
entry-master = refl

-- An entry in a Tracks Element is a master.
stands-master : (n : Node) → id_of n ≡ TRACK_ENTRY → StandsIn TRACKS n → IsMaster n
stands-master (leaf id at body) is stands =
    let never : true ≡ false = sym entry-master ∙ ap (is_master_in TRACKS) (sym is) ∙ stands.no_master in
    absurd (cc)
stands-master (master id at kids) is stands = refl

-- The entries among the children of a Tracks Element are valid.
all-whole : (ns : List Node) → AllStandIn TRACKS (nodes_of ns) → depth_all (nodes_of ns) < deepest → All IsWholeEntry (part TRACK_ENTRY ns)
all-whole [] stand low = All-nil IsWholeEntry
all-whole (n ∷ ns) stand low =
    let rest = all-whole ns stand.1 (omega arith) in
    elim (cases_Bool (id_of n == TRACK_ENTRY)) [
      | inl is ↦
          let own : id_of n ≡ TRACK_ENTRY = eqb-true (id_of n) TRACK_ENTRY is in
          rw is (All-cons IsWholeEntry n (part TRACK_ENTRY ns) (record { id = own; master = stands-master n own stand.0; sound = stands-sound TRACKS n stand.0; room = omega arith }) rest)
      | inr is ↦ rw is rest
    ]

children-stand : (tracks : Node) → IsSoundOf TRACKS tracks → AllStandIn TRACKS (nodes_of (children tracks))
children-stand (leaf id at body) sound = tt
children-stand (master id at kids) sound =
    let own : id ≡ TRACKS = sound.id in
    let P : Nodes → Type 0 = AllStandIn TRACKS in
    let Q : ℕ → Type 0 = λ p. AllStandIn p kids in
    subst P (sym (nodes-list kids)) (subst Q own sound.sound)

whole-stands : (entry : Node) → id_of entry ≡ TRACK_ENTRY → IsMaster entry → IsSound entry → StandsIn TRACKS entry
whole-stands (leaf id at body) own is sound = absurd (cc)
whole-stands (master id at kids) own is sound = (ap (is_master_in TRACKS) own ∙ entry-master, sound)

pub read-entries-whole : ReadEntriesAreWhole
read-entries-whole = record {
  read = λ tracks sound low. all-whole (children tracks) (children-stand tracks sound) low;
  stands = λ entry whole. whole-stands entry whole.id whole.master whole.sound;
}
