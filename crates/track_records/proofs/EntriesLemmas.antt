-- The TrackEntries among the children of a Tracks Element.
use Rattle.std.proofs.Common.{◌≡◌, ◌<◌, ℕ, zero, suc, ◌==◌, eqb-true, List, [], ◌∷◌, length, filter, drop, get_or, All, subst, arith}
use Rattle.std.proofs.lemmas.List.Elements.{All-filter, filter_passes}
use Rattle.mkv_schema.specs.declared.ids.TheConstants.{TRACK_ENTRY}
use Rattle.tree_format.specs.Node.{Node, id_of, children, nodes_of, depth_all, deepest, HasRoom}
use Rattle.tree_format.specs.Standing.{IsSound}
use Rattle.tree_format.proofs.ChildLemmas.{child-stands, children-sound, stands-sound}
use Rattle.file_format.specs.Entry.{entries_of}
use Rattle.track_records.specs.Sound.{IsEntry}

-- the TrackEntries from the index `i` on
abbrev pub entries_from : ℕ → List Node → List Node
entries_from i ns = filter (λ n. id_of n == TRACK_ENTRY) (drop i ns)

-- A TrackEntry in a sound tree is sound.
pub child-entry : (tracks n : Node) (ns : List Node) (i id : ℕ) → IsSound tracks → ns ≡ children tracks → i < length ns → n ≡ get_or ns i n → id ≡ id_of n → id ≡ TRACK_ENTRY → IsEntry n
child-entry tracks n ns i id sound are inside is of same =
    record { id = cc; sound = stands-sound (id_of tracks) n (child-stands tracks n ns i sound are inside is) }

-- The TrackEntries of a sound tree are sound.
pub entries-sound : (tracks : Node) → IsSound tracks → All IsEntry (entries_of tracks)
entries-sound tracks sound = λ k d inside. record {
  id = eqb-true _ _ (filter_passes (λ n. id_of n == TRACK_ENTRY) (children tracks) k d inside);
  sound = All-filter (λ n. id_of n == TRACK_ENTRY) IsSound (children tracks) (children-sound tracks sound) k d inside;
}

-- Each one leaves room for the Tracks element around it.
low-each : (ns : List Node) → depth_all (nodes_of ns) < deepest → All HasRoom ns
low-each [] low = λ k d inside. absurd (omega arith)
low-each (n ∷ ns) low = of (low-each ns (omega arith))
  where
    of : All HasRoom ns → (k : ℕ) (d : Node) → k < length (n ∷ ns) → HasRoom (get_or (n ∷ ns) k d)
    of rest zero d inside = omega arith
    of rest (suc k) d inside = rest k d (omega arith)

pub entries-room : (tracks : Node) (ns : List Node) → ns ≡ children tracks → depth_all (nodes_of ns) < deepest → All HasRoom (entries_of tracks)
entries-room tracks ns are low =
    let P : List Node → Type 0 = All HasRoom in
    All-filter (λ n. id_of n == TRACK_ENTRY) HasRoom (children tracks) (subst P are (low-each ns low))
