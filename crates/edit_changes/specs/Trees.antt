-- The code's edits of the trees of a file, by the definitions of edits.
use Rattle.std.specs.Prelude.{◌≡◌, ⊤, ℕ, ◌+◌, List, Option, Some, None, slice_get, slice_set, IfSome, Result, Ok, Err}
use Rattle.std.specs.List.{All}
use Rattle.mkv_schema.specs.declared.ids.TheConstants.{INFO, TRACKS, TRACK_ENTRY}
use Rattle.requests.specs.declared.edit.Edit.{Edit}
use Rattle.tree_format.specs.Node.{Node, id_of}
use Rattle.tree_format.specs.Standing.{StandsIn}
use Rattle.ebml_tree.specs.Building.{IsRead}
use Rattle.edit_changes.specs.declared.trees.Trees.{Trees}
use Rattle.edit_changes.specs.declared.refusal.Refusal.{Refusal}
use Rattle.edit_changes.specs.declared.refusal.Refusal.TheVariants.{Edit as RefusedEdit}
use Rattle.edit_changes.specs.declared.refusal.EditRefusal.{EditRefusal}
use Rattle.edit_changes.specs.declared.refusal.EditRefusal.TheVariants.{NoInfo, NoSuchTrack}
use Rattle.edit_changes.specs.Change.{edited_node, place_of}
use Rattle.mkv_io.specs.Results.{and_then}
use Rattle.edit_changes.specs.declared.change.EditEnd.{EditEnd}
use Rattle.edit_changes.specs.declared.change.EditEnd.TheVariants as end
use Rattle.edit_changes.specs.declared.editing.EditsEnd.{EditsEnd}
use Rattle.edit_changes.specs.declared.editing.EditsEnd.TheVariants.{Refused, Memory}
use Rattle.edit_changes.specs.Made.{BecomesOrStays, Sounds}

-- The trees `t` are ones that a file has: the Info was read as one, and the Matroska table allows the children of Tracks there. `edited` requires and
-- keeps it.
pub record AreSound (t : Trees) : Type 0 where
  pub info : IfSome t.info (IsRead INFO)
  pub tracks : All (StandsIn TRACKS) t.tracks

-- The child with index `k`, from 0, of a Tracks with the children `ns` is a TrackEntry. The contract of `place_of` promises it.
pub record IsEntryAt (ns : List Node) (k : ℕ) : Type 0 where
  pub entry : Node
  pub at : slice_get ns k ≡ Some entry
  pub id : id_of entry ≡ TRACK_ENTRY

-- the Info after the edit `e`, or its refusal; without an Info the edit is refused. The contract of `edit_info` promises it.
abbrev pub info_edited : Edit → Option Node → Result (Option Node) EditRefusal
info_edited e None = Err NoInfo
info_edited e (Some n) = and_then (edited_node e n) (λ m. Ok (Some m))

-- the children `ns` of Tracks after the edit `e` of the one with index `k`, from 0, or its refusal. The last argument is that child; without it the
-- edit is refused. Used by `tracks_edited_at`.
abbrev pub entry_edited : Edit → List Node → ℕ → Option Node → Result (List Node) EditRefusal
entry_edited e ns k None = Err NoSuchTrack
entry_edited e ns k (Some n) = and_then (edited_node e n) (λ m. Ok (slice_set ns k m))

-- the children `ns` of Tracks after the edit `e` of the one with the index, from 0, that its selector gave, or its refusal. Without an index it is
-- refused. Used by `tracks_edited`.
abbrev pub tracks_edited_at : Edit → List Node → Option ℕ → Result (List Node) EditRefusal
tracks_edited_at e ns None = Err NoSuchTrack
tracks_edited_at e ns (Some k) = entry_edited e ns k (slice_get ns k)

-- the children `ns` of Tracks after the edit `e` of the TrackEntry that it selects, or its refusal. The contract of `edit_track` promises it.
abbrev pub tracks_edited : Edit → List Node → Result (List Node) EditRefusal
tracks_edited e ns = tracks_edited_at e ns (place_of e.place ns)

-- A call made the edit `e` of the TrackEntry with index `k`, from 0: `old` and `new` are the children of Tracks before and after. The others stay,
-- and so does this one if the edit isn't made. The contract of `edit_entry` promises it.
pub record MakesEntry {A : Type 0} (result : Result A EditEnd) (old new : List Node) (k : ℕ) (e : Edit) : Type 0 where
  pub before : Node
  pub after : Node
  pub was : slice_get old k ≡ Some before
  pub becomes : new ≡ slice_set old k after
  pub makes : BecomesOrStays result before after (edited_node e before)
  pub sounds : Sounds before after

-- the end of a sequence of edits if the one with index `k`, from 0, isn't made; a refusal has its number, from 1. The contract of the function with
-- this name promises it.
abbrev pub numbered : ℕ → EditEnd → EditsEnd
numbered k (end.Refused why) = Refused (k + 1) why
numbered k end.Memory = Memory

-- The result of the code's edits is `made`, the trees after all of them or the first refusal; or memory ran out. The contract of `edited` promises
-- it.
abbrev pub MakesAll : Result Trees EditsEnd → Result Trees Refusal → Type 0
MakesAll (Ok t) made = made ≡ Ok t
MakesAll (Err (Refused edit why)) made = made ≡ Err (RefusedEdit edit why)
MakesAll (Err Memory) made = ⊤
