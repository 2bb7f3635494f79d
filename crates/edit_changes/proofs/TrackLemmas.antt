-- The children of Tracks, after an edit of one.
use Rattle.std.proofs.Common.{◌≡◌, ℕ, zero, suc, List, [], ◌∷◌, Option, Some, IfSome, Result, Ok, Err, slice_get, slice_set, slice_index_or, sym, ◌∙◌, ap, subst}
use Rattle.std.specs.List.{All}
use Rattle.std.proofs.lemmas.List.Elements.{All-set}
use Rattle.std.proofs.lemmas.Option.{slice_get_within}
use Rattle.mkv_schema.specs.declared.ids.TheConstants.{TRACKS, TRACK_ENTRY}
use Rattle.requests.specs.declared.edit.Edit.{Edit}
use Rattle.tree_format.specs.Node.{Node, id_of}
use Rattle.tree_format.specs.Standing.{StandsIn}
use Rattle.ebml_tree.specs.Building.{IsRead}
use Rattle.edit_changes.specs.declared.refusal.EditRefusal.{EditRefusal}
use Rattle.edit_changes.specs.Change.{edited_node, place_of}
use Rattle.mkv_io.specs.Results.{and_then}
use Rattle.edit_changes.specs.declared.change.EditEnd.{EditEnd}
use Rattle.edit_changes.specs.declared.change.EditEnd.TheVariants.{Refused, Memory}
use Rattle.edit_changes.specs.Made.{BecomesOrStays}
use Rattle.edit_changes.specs.Trees.{IsEntryAt, MakesEntry, entry_edited, tracks_edited, tracks_edited_at}
use Rattle.edit_changes.proofs.SelectLemmas.{entry-sound, entry-master, entry-stands}

own-set : (ns : List Node) (k : ℕ) (n : Node) → slice_get ns k ≡ Some n → slice_set ns k n ≡ ns
own-set [] k n at = absurd (cc at)
own-set (m ∷ ns) zero n at = ap (λ x. x ∷ ns) (sym (cc at))
own-set (m ∷ ns) (suc k) n at = ap (λ l. m ∷ l) (own-set ns k n at)

own-get : (ns : List Node) (k : ℕ) (n : Node) → slice_get ns k ≡ Some n → slice_index_or ns k n ≡ n
own-get [] k n at = absurd (cc at)
own-get (m ∷ ns) zero n at = cc at
own-get (m ∷ ns) (suc k) n at = own-get ns k n at

stands-at : (ns : List Node) (k : ℕ) (n : Node) → All (StandsIn TRACKS) ns → slice_get ns k ≡ Some n → StandsIn TRACKS n
stands-at ns k n all at = subst (StandsIn TRACKS) (own-get ns k n at) (all k n (slice_get_within ns k n at))

-- The TrackEntry at index `k` was read as one.
pub entry-read : (ns : List Node) (k : ℕ) → All (StandsIn TRACKS) ns → IsEntryAt ns k → IfSome (slice_get ns k) (IsRead TRACK_ENTRY)
entry-read ns k all here =
    let stands = stands-at ns k here.entry all here.at in
    let P : Option Node → Type 0 = λ m. IfSome m (IsRead TRACK_ENTRY) in
    subst P (sym here.at) (record { id = here.id; master = entry-master here.entry stands here.id; sound = (entry-sound here.entry stands here.id).sound })

-- After the edit, the table still allows all children in Tracks.
pub tracks-stand : {A : Type 0} (result : Result A EditEnd) (old new : List Node) (k : ℕ) (e : Edit) → All (StandsIn TRACKS) old → IsEntryAt old k
    → MakesEntry result old new k e → All (StandsIn TRACKS) new
tracks-stand result old new k e all here made =
    let same : here.entry ≡ made.before = cc (here.at, made.was) in
    let id : id_of made.before ≡ TRACK_ENTRY = ap id_of (sym same) ∙ here.id in
    let stands = stands-at old k made.before all made.was in
    let after : StandsIn TRACKS made.after =
    entry-stands made.after made.sounds.master (made.sounds.id ∙ id) (made.sounds.sound ((entry-sound made.before stands id).sound)) in
    let P : List Node → Type 0 = All (StandsIn TRACKS) in
    subst P (sym made.becomes) (All-set (StandsIn TRACKS) old k made.after after all)

made-at : {A : Type 0} (result : Result A EditEnd) (old new : List Node) (k : ℕ) (before after : Node) (made : Result Node EditRefusal) → slice_get old k ≡ Some before
    → new ≡ slice_set old k after → BecomesOrStays result before after made → BecomesOrStays result old new (and_then made (λ m. Ok (slice_set old k m)))
made-at (Ok done) old new k before after made was becomes makes = ap (λ r. and_then r (λ m. Ok (slice_set old k m))) makes ∙ ap (λ l. Ok l) (sym becomes)
made-at (Err (Refused why)) old new k before after made was becomes makes =
    (ap (λ r. and_then r (λ m. Ok (slice_set old k m))) makes.0, becomes ∙ ap (slice_set old k) makes.1 ∙ own-set old k before was)
made-at (Err Memory) old new k before after made was becomes makes = becomes ∙ ap (slice_set old k) makes ∙ own-set old k before was

-- The edit changes the TrackEntry that it selects.
pub tracks-made : {A : Type 0} (result : Result A EditEnd) (old new : List Node) (k : ℕ) (e : Edit) → place_of e.place old ≡ Some k
    → MakesEntry result old new k e → BecomesOrStays result old new (tracks_edited e old)
tracks-made result old new k e meant made =
    let P : Result (List Node) EditRefusal → Type 0 = BecomesOrStays result old new in
    let is : and_then (edited_node e made.before) (λ m. Ok (slice_set old k m)) ≡ tracks_edited e old =
    sym (ap (tracks_edited_at e old) meant ∙ ap (entry_edited e old k) made.was) in
    subst P is (made-at result old new k made.before made.after (edited_node e made.before) made.was made.becomes made.makes)

pub ruleset tracks = entry-read
