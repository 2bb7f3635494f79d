-- A TrackEntry in Tracks: its fields, and its edits.
use Rattle.std.proofs.Common.{◌≡◌, ◌==◌, ℕ, suc, ◌+◌, ◌-◌, Bool, true, false, List, [], ◌∷◌, Some, slice_get, refl, sym, ◌∙◌, ap, arith}
use Rattle.std.proofs.lemmas.Bool.Decides.{nat_tests}
use Rattle.requests.specs.declared.edit.Selector.{Selector}
use Rattle.requests.specs.declared.edit.Selector.TheVariants.{Info, Nth, Typed, Uid, Number}
use Rattle.mkv_schema.specs.Table.{table}
use Rattle.mkv_schema.specs.Schema.{entry_of}
use Rattle.mkv_schema.specs.declared.ids.TheConstants.{TRACKS, TRACK_ENTRY, TRACK_NUMBER, TRACK_UID, TRACK_TYPE}
use Rattle.tree_format.specs.Node.{Node, leaf, master, id_of, IsMaster}
use Rattle.tree_format.specs.Reading.{is_master_in}
use Rattle.tree_format.specs.Standing.{StandsIn, IsSound, IsSoundOf}
use Rattle.tree_format.specs.Values.{HasUint}
use Rattle.edit_changes.specs.Change.{fits, turn_of, nth_place, place_of}
use Rattle.edit_changes.specs.Trees.{IsEntryAt}

pub number : HasUint TRACK_ENTRY TRACK_NUMBER
unfolding entry_of table
number = record { stands = refl; kind = refl }

pub uid : HasUint TRACK_ENTRY TRACK_UID
unfolding entry_of table
uid = record { stands = refl; kind = refl }

pub type : HasUint TRACK_ENTRY TRACK_TYPE
unfolding entry_of table
type = record { stands = refl; kind = refl }

is-master : is_master_in TRACKS TRACK_ENTRY ≡ true
unfolding entry_of table
is-master = refl

pub entry-sound : (n : Node) → StandsIn TRACKS n → id_of n ≡ TRACK_ENTRY → IsSoundOf TRACK_ENTRY n
entry-sound (leaf id at body) stands is = record { id = is; sound = tt }
entry-sound (master id at kids) stands is = record { id = is; sound = stands.1 }

pub entry-master : (n : Node) → StandsIn TRACKS n → id_of n ≡ TRACK_ENTRY → IsMaster n
entry-master (leaf id at body) stands is =
    let none : is_master_in TRACKS TRACK_ENTRY ≡ false = ap (is_master_in TRACKS) (sym is) ∙ stands.no_master in
    absurd (cc (none, is-master))
entry-master (master id at kids) stands is = refl

-- The table allows a sound TrackEntry in Tracks.
pub entry-stands : (n : Node) → IsMaster n → id_of n ≡ TRACK_ENTRY → IsSound n → StandsIn TRACKS n
entry-stands (leaf id at body) is own sound = absurd (cc is)
entry-stands (master id at kids) is own sound = (ap (is_master_in TRACKS) own ∙ is-master, sound)

pub ruleset entries = (number, uid, type, entry-sound)

-- A node that a selector matches is a TrackEntry.
fits-entry : (selector : Selector) (n : Node) → fits selector n ≡ true → id_of n ≡ TRACK_ENTRY
fits-entry Info n fit = absurd (cc fit)
fits-entry (Nth k) n fit = grind (arith, fit, nat_tests)
fits-entry (Typed kind k) n fit = grind (arith, fit, nat_tests)
fits-entry (Uid uid) n fit = grind (arith, fit, nat_tests)
fits-entry (Number k) n fit = grind (arith, fit, nat_tests)

-- The index that is found belongs to a node that passes.
record Found (passes : Node → Bool) (before p : ℕ) (ns : List Node) : Type 0 where
  inside : ℕ
  is : p ≡ before + inside
  one : Node
  at : slice_get ns inside ≡ Some one
  fit : passes one ≡ true

found : (passes : Node → Bool) (k before p : ℕ) (ns : List Node) → nth_place passes k before ns ≡ Some p → Found passes before p ns
found passes k before p [] is = absurd (cc is)
found passes k before p (n ∷ ns) is = split (passes n) (k == 1) refl refl (found passes (k - 1) (before + 1) p ns) (found passes k (before + 1) p ns)
  where
    later : Found passes (before + 1) p ns → Found passes before p (n ∷ ns)
    later f = record { inside = suc f.inside; is = omega (arith, f.is); one = f.one; at = f.at; fit = f.fit }

    split : (fit last : Bool) → passes n ≡ fit → (k == 1) ≡ last → (nth_place passes (k - 1) (before + 1) ns ≡ Some p → Found passes (before + 1) p ns)
        → (nth_place passes k (before + 1) ns ≡ Some p → Found passes (before + 1) p ns) → Found passes before p (n ∷ ns)
    split true true fit last next same =
        let here : Some before ≡ Some p = rw (fit, last) at is in
        let own : before ≡ p = cc here in
        record { inside = 0; is = omega (arith, own); one = n; at = refl; fit = fit }
    split true false fit last next same = later (next (rw (fit, last) at is))
    split false b fit last next same = later (same (rw fit at is))

pub place-entry : (selector : Selector) (ns : List Node) (k : ℕ) → place_of selector ns ≡ Some k → IsEntryAt ns k
place-entry selector ns k is =
    let f = found (fits selector) (turn_of selector) 0 k ns is in
    let same : k ≡ f.inside = omega (arith, f.is) in
    record { entry = f.one; at = ap (slice_get ns) same ∙ f.at; id = fits-entry selector f.one f.fit }

pub ruleset places = place-entry
