-- An iterator over the Elements at level 1 of a Segment.
use Rattle.std.specs.Prelude.{◌≡◌, true, ℕ, ◌<◌, ◌≤◌, if◌then◌else◌, List, [], ◌∷◌, length, Option, Some, None, Result}
use Rattle.ebml_numbers.specs.declared.number.Size.{Size}
use Rattle.mkv_io.specs.declared.outside.FileId.{FileId}
use Rattle.mkv_io.specs.LiveFiles.{LiveFiles}
use Rattle.mkv_io.specs.Told.{IfVisible}
use Rattle.mkv_io.specs.declared.reads.Reads.{Ghosts}
use Rattle.mkv_schema.specs.declared.element.Header.{Header}
use Rattle.mkv_schema.specs.Element.{end_in, is_unknown}
use Rattle.mkv_schema.specs.Elements.{level_1}
use Rattle.elements.specs.Looks.{GoesTo}
use Rattle.elements.specs.Window.{ReadAhead, Holds, nothing_at}
use Rattle.mkv_schema.specs.Outline.{segment_run}
use Rattle.element_reader.specs.declared.outline.Outline.{Outline}

-- the state of an iterator over the Elements at level 1. It has its file, the size in the Segment's header, and the next Element's offset. Then come
-- the greatest offset of the Segment, and the bytes that are buffered. Offsets are in bytes from the start of the file.
pub record Listing : Type 0 where
  pub file : FileId
  pub size : Size
  pub at : ℕ
  pub end : ℕ
  pub ahead : ReadAhead

-- the Elements at level 1 in the content `bytes` that the iterator `p` has left; its contracts are about them
abbrev pub left : List ℕ → Listing → List Header
left bytes p = (level_1 bytes p.size p.at p.end).list

-- the state of an iterator at the start of `segment` in `file`, which has `total` bytes; nothing is buffered yet. Used by `start` and `over`.
abbrev pub first_place : Header → ℕ → FileId → Listing
first_place segment total file = record {
  file = file;
  size = segment.size;
  at = segment.body;
  end = if is_unknown segment.size then total else end_in total segment;
  ahead = nothing_at 0;
}

-- The iterator `p` can be advanced: its file is open among the live files `files`, and the buffered bytes are this file's. Used by the contract of
-- `next`.
pub record CanRead (files : LiveFiles) (p : Listing) : Type 0 where
  pub live : files.live p.file.n ≡ true
  pub inside : p.end ≤ files.size p.file.n
  pub holds : IfVisible (files.content p.file.n) (λ bytes. Holds bytes p.ahead)

-- The first argument, which an iterator returned, is the first of the Elements `old`, and `new` are left; or it is None and both are empty. Used by
-- `GivesNext`.
abbrev pub Gives : Option Header → List Header → List Header → Type 0
Gives (Some h) old new = old ≡ h ∷ new
Gives None old new = (old ≡ []) × (new ≡ [])

-- `found`, which `next` returned, is the first Element that the iterator `old` has left in the content `bytes`, or None if there is none. The
-- iterator `new` has the others left.
abbrev pub GivesNext : List ℕ → Listing → Listing → Option Header → Type 0
GivesNext bytes old new found = Gives found (left bytes old) (left bytes new)

-- The offset of an iterator grows from `old` to `new` if it returned an Element, the first argument, and stays if it returned None. Used by the
-- contract of `next`.
abbrev pub GoesOn : Option Header → ℕ → ℕ → Type 0
GoesOn (Some h) old new = old < new
GoesOn None old new = new ≡ old

-- The iterators `old` and `new` are in the same Segment of the same file, as each call of `next` promises.
pub record IsSameSegment (old new : Listing) : Type 0 where
  pub file : new.file ≡ old.file
  pub size : new.size ≡ old.size
  pub end : new.end ≡ old.end

-- The iterator `old` became `new` by a call of `next`, which is in the same Segment and can be advanced over the live files `files`.
pub record StandsOn (files : LiveFiles) (old new : Listing) : Type 0 where
  pub segment : IsSameSegment old new
  pub inside : new.at ≤ new.end
  pub reads : CanRead files new

-- The iterator moved from `old` to `new` by a call of `next` with the result `result`. From the state `before` to `now` of the files, at most the
-- bytes of that move were read. `r` gives the proof's view of the files.
abbrev pub GoesAlong : {S T E : Type 0} → Ghosts S → Listing → Listing → S → S → Result T E → Type 0
GoesAlong r old new before now result = GoesTo r old.file old.at new.at old.ahead new.ahead before now result

-- The iterator `p`, which `start` returned, has all Elements at level 1 left, in each content with the length of the outline `outline`.
abbrev pub HasAllElementsLeft : Outline → Listing → Type 0
HasAllElementsLeft outline p = (bytes : List ℕ) → outline.total ≡ length bytes → left bytes p ≡ (segment_run bytes outline.segment).list
