-- Consequences of a result.
use Rattle.std.proofs.Common.{◌≡◌, ◌≢◌, List, map, Option, Some, None, Result, Ok, Err, OnOk, IfOk, IfErr, All, subst, refl}
use Rattle.std.proofs.lemmas.List.Elements.{All-map}
use Rattle.mkv_io.specs.declared.damage.Damage.{Damage as Harm}
use Rattle.ebml_tree.specs.declared.end.TreeEnd.{TreeEnd}
use Rattle.ebml_tree.specs.declared.end.TreeEnd.TheVariants.{Damage, Memory}
use Rattle.mkv_io.specs.Results.{unless}
use Rattle.tree_format.specs.Node.{Node, HasRoom}
use Rattle.tree_format.specs.Standing.{IsSound}
use Rattle.file_format.specs.Entry.{entries_of}
use Rattle.file_format.specs.Refusal.{refusal_of}
use Rattle.file_format.specs.Tracks.{AreTracks}
use Rattle.track_records.proofs.EntriesLemmas.{entries-sound}
use Rattle.file_format.proofs.TracksLemmas.{refusal-none}
use Rattle.track_records.specs.declared.track.Track.{Track}
use Rattle.track_records.specs.Sound.{IsEntry}
use Rattle.track_records.specs.Track.{track_of, tracks_of}
use Rattle.track_records.specs.Outcome.{ReadsTracks}

-- The tracks weren't refused.
taken-is : {A : Type 0} (o : Option Harm) (x y : A) → unless o x ≡ Ok y → (o ≡ None) × (x ≡ y)
taken-is None x y is = (refl, cc)
taken-is (Some d) x y is = absurd (cc)

refused-is : {A : Type 0} (o : Option Harm) (x : A) (d : Harm) → unless o x ≡ Err d → o ≡ Some d
refused-is None x d is = absurd (cc)
refused-is (Some e) x d is = cc

pub taken : (r : Result (List Track) TreeEnd) (tracks : Node) → ReadsTracks r (tracks_of tracks) → IfOk r (λ list. AreTracks (entries_of tracks))
taken (Ok list) tracks reads = (refusal-none tracks).0 (taken-is (refusal_of tracks) (map track_of (entries_of tracks)) list reads).0
taken (Err end) tracks reads = tt

pub refused : (r : Result (List Track) TreeEnd) (tracks : Node) → ReadsTracks r (tracks_of tracks) → IfErr r (λ end. end ≢ Memory → AreTracks (entries_of tracks) → ⊥)
refused (Ok list) tracks reads = tt
refused (Err Memory) tracks reads = λ other are. other refl
refused (Err (Damage d)) tracks reads = λ other are.
    let some = refused-is (refusal_of tracks) (map track_of (entries_of tracks)) d reads in
    let none = (refusal-none tracks).1 are in
    absurd (cc)

pub sound : (r : Result (List Track) TreeEnd) (tracks : Node) → IsSound tracks → ReadsTracks r (tracks_of tracks) → IfOk r (λ list. All (λ (t : Track). IsEntry t.entry) list)
sound (Ok list) tracks whole reads =
    let P : List Track → Type 0 = λ ts. All (λ (t : Track). IsEntry t.entry) ts in
    subst P (taken-is (refusal_of tracks) (map track_of (entries_of tracks)) list reads).1 (All-map (λ (t : Track). IsEntry t.entry) track_of (entries_of tracks) (entries-sound tracks whole))
sound (Err end) tracks whole reads = tt

pub room : (r : Result (List Track) TreeEnd) (tracks : Node) → OnOk r (All HasRoom (entries_of tracks)) → ReadsTracks r (tracks_of tracks) → IfOk r (λ list. All (λ (t : Track). HasRoom t.entry) list)
room (Ok list) tracks low reads =
    let P : List Track → Type 0 = λ ts. All (λ (t : Track). HasRoom t.entry) ts in
    subst P (taken-is (refusal_of tracks) (map track_of (entries_of tracks)) list reads).1 (All-map (λ (t : Track). HasRoom t.entry) track_of (entries_of tracks) low)
room (Err end) tracks low reads = tt
