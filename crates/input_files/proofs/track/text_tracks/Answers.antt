-- The Tracks has the only entry, and is read as its track.
use Rattle.std.proofs.Common.{◌≡◌, List, [], ◌∷◌, All, Ok, Err, sym, ◌∙◌, ap, subst}
use Rattle.std.proofs.lemmas.List.Elements.{All-cons, All-nil, All-same}
use Rattle.mkv_schema.specs.declared.ids.TheConstants.{TRACKS}
use Rattle.ebml_tree.specs.Outcome.{Refuses}
use Rattle.ebml_tree.specs.declared.end.TreeEnd.{TreeEnd}
use Rattle.ebml_tree.specs.declared.end.TreeEnd.TheVariants.{Damage}
use Rattle.mkv_io.specs.declared.damage.Damage.{Damage as Harm}
use Rattle.tree_format.specs.Node.{Node, master, nodes_of, id_of}
use Rattle.track_records.specs.Entry.{IsWholeEntry}
use Rattle.file_format.specs.Tracks.{IsTrack}
use Rattle.track_records.specs.Track.{track_of, tracks_of}
use Rattle.track_records.specs.declared.track.Track.{Track}
use Rattle.ebml_tree.proofs.BuildLemmas.{built-master}
use Rattle.input_files.specs.Track.{text_entry}
use Rattle.input_files.proofs.TrackLemmas.{tracks-master, sound-built, stands-in, one-entry}
use Rattle.input_files.proofs.TextFacts.{is_read, is_track}
use Rattle.input_files.proofs.track.text_tracks.Goals as goal

pub empty-requires : goal.empty-requires
empty-requires c = tracks-master

pub push-requires-clause-master : goal.push-requires-clause-master
push-requires-clause-master c = built-master TRACKS 0 0 [] c.in_ok-tracks.tracks (c.in_ok-tracks.ensures 0)

pub read_tracks-requires : goal.read_tracks-requires
read_tracks-requires c =
    let none = c.in_ok-tracks.ensures 0 in
    c.in_ok-push.ensures.sound (sound-built TRACKS 0 [] c.in_ok-tracks.tracks none)
    (stands-in c.in_ok-tracks.tracks c.in_ok-text_entry.field-0 (ap id_of none.is) c.in_ok-text_entry.ensures.whole)

-- The list of tracks has the only entry's track.
is-one : (t entry : Node) (list : List Track) → t ≡ master TRACKS 0 (nodes_of (entry ∷ [])) → entry ≡ text_entry → tracks_of t ≡ Ok list → list ≡ track_of text_entry ∷ []
is-one t entry list tree same read =
    let whole : t ≡ master TRACKS 0 (nodes_of (text_entry ∷ [])) = tree ∙ ap (λ e. master TRACKS 0 (nodes_of (e ∷ []))) same in
    let both : Ok list ≡ Ok (track_of text_entry ∷ []) = sym read ∙ ap tracks_of whole ∙ is_read in
    cc

listed : (c : goal.Joined-tracks-3) → c.in-Ok.list ≡ track_of text_entry ∷ []
listed c = is-one _ _ _ (one-entry _ _ _ (c.in_ok-tracks.ensures 0) c.in_ok-push.ensures.ok) c.in_ok-text_entry.ensures.exact c.in-Ok.ensures.exact

-- A fact about the entry holds for all entries.
each : (P : Node → Type 0) (list : List Track) → list ≡ track_of text_entry ∷ [] → P text_entry → All (λ (t : Track). P t.entry) list
each P list is one = All-same (λ (t : Track). P t.entry) list (track_of text_entry ∷ []) is (All-cons (λ (t : Track). P t.entry) (track_of text_entry) [] one (All-nil (λ (t : Track). P t.entry)))

pub returns-in-Ok-clause-exact : goal.returns-in-Ok-clause-exact
returns-in-Ok-clause-exact c = listed c

pub returns-in-Ok-clause-whole : goal.returns-in-Ok-clause-whole
returns-in-Ok-clause-whole c =
    let P : Node → Type 0 = IsWholeEntry in
    each IsWholeEntry _ (listed c) (subst P c.in_ok-text_entry.ensures.exact c.in_ok-text_entry.ensures.whole)

pub returns-in-Ok-clause-tracks : goal.returns-in-Ok-clause-tracks
returns-in-Ok-clause-tracks c = each IsTrack _ (listed c) is_track

-- The Tracks isn't refused.
never : (t entry : Node) (end : TreeEnd) (d : Harm) → t ≡ master TRACKS 0 (nodes_of (entry ∷ [])) → entry ≡ text_entry → end ≡ Damage d → Refuses end (tracks_of t) → ⊥
never t entry end d tree same is refuses =
    let P : TreeEnd → Type 0 = λ e. Refuses e (tracks_of t) in
    let told : tracks_of t ≡ Err d = subst P is refuses in
    let read : tracks_of t ≡ Ok (track_of text_entry ∷ []) = ap tracks_of (tree ∙ ap (λ e. master TRACKS 0 (nodes_of (e ∷ []))) same) ∙ is_read in
    cc

pub unreachable-requires : goal.unreachable-requires
unreachable-requires c =
    never _ _ _ _ (one-entry _ _ _ (c.in_ok-tracks.ensures 0) c.in_ok-push.ensures.ok) c.in_ok-text_entry.ensures.exact c.in-Err-Damage.field-0-is c.in-Err-Damage.ensures.exact
