-- A walk over the Elements at level 1 of a file, for the Cluster that contains a block. It keeps the last Cluster that begins before the block.
use Rattle.std.specs.Prelude.{◌≡◌, ◌≤◌, ℕ, ◌+◌, ◌*◌, ◌-◌, List, [], ◌∷◌, Option, Some, None, Result, length, ◌==◌, if◌then◌else◌}
use Rattle.std.specs.Option.{option_or}
use Rattle.mkv_io.specs.LiveFiles.{LiveFiles}
use Rattle.mkv_io.specs.Sources.{IfTold, file_size}
use Rattle.mkv_io.specs.declared.reads.Reads.{Ghosts}
use Rattle.elements.specs.Looks.{Goes}
use Rattle.mkv_schema.specs.declared.element.Header.{Header}
use Rattle.mkv_schema.specs.Order.{AscendFrom}
use Rattle.element_reader.specs.LevelOne.{CanRead, left}
use Rattle.reindex.specs.Points.{cluster_before}
use Rattle.reindex.specs.declared.clusters.Clusters.{Clusters}
use Rattle.mkv_schema.specs.Outline.{segment_run}
use Rattle.element_reader.specs.Outline.{FileOutline}
use Rattle.mkv_schema.specs.declared.ids.TheConstants.{CLUSTER}
use Rattle.mkv_io.specs.declared.outside.FileId.{FileId}
use Rattle.elements.specs.Window.{HasNotPassed}

-- the Element that a walk of `reindex` has read and not passed, if any, followed by the remaining ones, `rest`
abbrev pub in_front : Option Header → List Header → List Header
in_front None rest = rest
in_front (Some h) rest = h ∷ rest

-- the Elements at level 1, in a file with the content `bytes`, that the walk `c` of `reindex` hasn't passed yet
abbrev pub due : List ℕ → Clusters → List Header
due bytes c = in_front c.next (left bytes c.level)

-- ---- the remaining steps

-- 1 if a walk of `reindex` has read an Element and not passed it yet, the argument, or else 0; for `steps_left`
abbrev pub looked_at : Option Header → ℕ
looked_at None = 0
looked_at (Some h) = 1

-- a bound on the number of Elements that the walk `c` of `reindex` can still pass, by the bytes that are left; it falls, so a call ends
abbrev pub steps_left : Clusters → ℕ
steps_left c = 2 * (c.level.end - c.level.at) + looked_at c.next

-- ---- properties of the walk

-- The walk `c` of `reindex` over `list`, the headers at level 1 of a file with the content `bytes`, has lost no Cluster. Take any offset `at` from
-- the reached one on. The last Cluster of `list` before `at` is among the Elements that aren't passed, or else it is the Cluster that `c` keeps.
pub record HasComeTo (bytes : List ℕ) (list : List Header) (c : Clusters) : Type 0 where
  pub ascends : AscendFrom 0 (due bytes c)
  pub before : (at : ℕ) → c.reached ≤ at → cluster_before at list ≡ option_or (cluster_before at (due bytes c)) c.last

-- The walk `c`, which `start` returned, has passed no Element, in any file with the length of the outline `outline`.
abbrev pub StandsAtStart : FileOutline → Clusters → Type 0
StandsAtStart outline c = (bytes : List ℕ) → outline.total ≡ length bytes → HasComeTo bytes (segment_run bytes outline.segment).list c

-- The walk `c` of `reindex` over `list` has reached its offset, as `go_to` promises: it keeps the last Cluster that begins before it. `list` has the
-- headers at level 1 of a file with the content `bytes`.
pub record HasReached (bytes : List ℕ) (list : List Header) (c : Clusters) : Type 0 where
  pub come : HasComeTo bytes list c
  pub last : c.last ≡ cluster_before c.reached list

-- A call of `go_to` has taken the walk `old` to `new`, which has reached its offset, if `old` had lost no Cluster. It is promised if the file's
-- content is visible to the proof in the state `src`. `r` gives the proof's view of it.
abbrev pub HasReachedIn : {S : Type 0} → Ghosts S → S → Clusters → Clusters → Type 0
HasReachedIn r src old new = IfTold r src old.level.file (λ bytes. (list : List Header) → HasComeTo bytes list old → HasReached bytes list new)

-- A call of `look` has read the next Element `found` of the walk `old`, which became `new`, and has passed none. If it found none, none is left. The
-- file has the content `bytes`. Used by `LooksAtIn`.
pub record LooksAt (bytes : List ℕ) (old new : Clusters) (found : Option Header) : Type 0 where
  pub same : due bytes new ≡ due bytes old
  pub none : found ≡ None → due bytes new ≡ []

-- A call of `look` has read the next Element `found` of the walk `old`, which became `new`, and has passed none. It is promised if the file's content
-- is visible to the proof in the state `src`. `r` gives the proof's view of it.
abbrev pub LooksAtIn : {S : Type 0} → Ghosts S → S → Clusters → Clusters → Option Header → Type 0
LooksAtIn r src old new found = IfTold r src old.level.file (λ bytes. LooksAt bytes old new found)

-- the walk `c` of `reindex` after it passed the Element with header `header`; a Cluster is kept as the last
abbrev pub passed : Header → Clusters → Clusters
passed header c = record c { next = None; last = if header.id == CLUSTER then Some header else c.last }

-- After a call of `look`, the walk `new` holds the Element `found` until it is passed, and can pass no more Elements than the walk `old`, before the
-- call.
pub record HoldsNext (old new : Clusters) (found : Option Header) : Type 0 where
  pub next : new.next ≡ found
  pub further : steps_left new ≤ steps_left old

-- The walk of `reindex` advanced from `old` to `new` by a call with the result `result`. Between the states `src` and `src'` at most the bytes of the
-- distance were read. `r` gives the proof's view of them.
abbrev pub PaysOn : {S T E : Type 0} → Ghosts S → S → S → Clusters → Clusters → Result T E → Type 0
PaysOn r src src' old new result = Goes r old.level.file old.level.at (λ _. new.level.at) old.level.ahead new.level.ahead src src' result

-- The walk `c` of `reindex` can continue, as each call requires: it is at or before the end of its Segment, and its file is open among the live files
-- `files`.
pub record IsReady (files : LiveFiles) (c : Clusters) : Type 0 where
  pub inside : c.level.at ≤ c.level.end
  pub reads : CanRead files c.level

-- The bytes that the walk `c` of `reindex` has buffered begin at its offset or before. They end at the end of the file `file` in the state `src`, or
-- before. `collect` requires it. `r` gives the proof's view of the files.
abbrev pub IsWindowIn : {S : Type 0} → Ghosts S → S → FileId → Clusters → Type 0
IsWindowIn r src file c = HasNotPassed c.level.ahead c.level.at (file_size r src file)

-- The walk `old` of `reindex` became `new`, as each call promises: it didn't go back, is in the same Segment of the same file, and can continue over
-- the live files `files`.
pub record StaysReady (files : LiveFiles) (old new : Clusters) : Type 0 where
  pub file : new.level.file ≡ old.level.file
  pub end : new.level.end ≡ old.level.end
  pub forwards : old.level.at ≤ new.level.at
  pub ready : IsReady files new
