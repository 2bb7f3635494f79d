-- The part of a block that a cursor knows, as its filter chooses.
use Rattle.std.specs.Prelude.{◌≡◌, ℕ, ◌==◌, min, Bool, true, false, if◌then◌else◌, List, [], ◌∷◌, length, take, Option, Some, None, Result, Ok, Err}
use Rattle.mkv_io.specs.declared.damage.Damage.{Damage}
use Rattle.mkv_schema.specs.declared.ids.TheConstants.{SIMPLE_BLOCK}
use Rattle.mkv_schema.specs.declared.element.Header.{Header}
use Rattle.mkv_schema.specs.Element.{known}
use Rattle.elements.specs.Window.{ReadAhead, front_from}
use Rattle.block_format.specs.Block.{Block}
use Rattle.block_format.specs.Events.{Found}
use Rattle.block_reader.specs.Buffered.{Buffered, block_of}
use Rattle.block_reader.specs.Front.{front_head, head_of}
use Rattle.block_reader.specs.declared.front.BlockPreview.{BlockPreview}
use Rattle.cluster_reader.specs.declared.child.TheConstants.{MAX_PREVIEW_LEN}
use Rattle.cluster_reader.specs.declared.filter.BlockFilter.{BlockFilter}
use Rattle.cluster_reader.specs.declared.filter.BlockFilter.TheVariants.{All, Track, Heads}

-- The given filter of a cursor wants the frames of a block of the track with the TrackNumber `track`; the others may be skipped. Used by
-- `unless_wanted`.
abbrev pub wants : BlockFilter → ℕ → Bool
wants All track = true
wants (Track wanted) track = track == wanted
wants Heads track = false

-- The buffer `lent` has the track of the block `b`, and all of it if it is a block of the track `wanted`. It is what a cursor promises with the
-- filter `Track`.
pub record IsKnownFor (wanted : ℕ) (b : Block) (lent : Buffered) : Type 0 where
  pub track : b.track ≡ lent.head.track
  pub whole : lent.head.track ≡ wanted → b ≡ block_of lent

-- The buffer `lent` has the head and the frame count of the block `b`. It is what a cursor promises with the filter `Heads`.
pub record IsKnownByHead (b : Block) (lent : Buffered) : Type 0 where
  pub head : head_of b ≡ lent.head
  pub frames : length b.frames ≡ lent.frames

-- The buffer `lent` has the part of the block `b` that the filter of the cursor, the first argument, wants. `All` wants the whole block, and `Track`
-- its track and, if that is the given one, the whole block. `Heads` wants its head and frame count.
abbrev pub IsKnown : BlockFilter → Block → Buffered → Type 0
IsKnown All b lent = b ≡ block_of lent
IsKnown (Track track) b lent = IsKnownFor track b lent
IsKnown Heads b lent = IsKnownByHead b lent

-- The expected result `found` of reading a SimpleBlock or BlockGroup is a block, and the buffer `lent` has the part of it that the filter `takes`
-- wants. Used by `MakesWanted` and `PassesIn`.
pub record MakesBlock (takes : BlockFilter) (lent : Buffered) (found : Result Block Damage) : Type 0 where
  pub given : Block
  pub is : found ≡ Ok given
  pub known : IsKnown takes given lent

-- The second argument, the result of `read_block`, is the expected one, `found`. The buffer `lent` has the part of the block that the filter `takes`
-- wants, or both are the same damage. Used by `MakesIn`.
abbrev pub MakesWanted : {T : Type 0} → BlockFilter → Result T Damage → Buffered → Result Block Damage → Type 0
MakesWanted takes (Ok done) lent found = MakesBlock takes lent found
MakesWanted takes (Err d) lent found = found ≡ Err d

-- The expected results `found` of a Cluster's child are only one block, and the buffer `lent` has the part of it that the filter `takes` wants. Used
-- by `Finds`.
pub record FindsBlock (takes : BlockFilter) (lent : Buffered) (found : List Found) : Type 0 where
  pub given : Block
  pub is : found ≡ Ok given ∷ []
  pub known : IsKnown takes given lent

-- ---- a SimpleBlock that is skipped

-- the given head and frame count of a SimpleBlock that may be skipped, or None if the filter `takes` wants the block; for `settled_by`
abbrev pub unless_wanted : BlockFilter → Option BlockPreview → Option BlockPreview
unless_wanted takes None = None
unless_wanted takes (Some front) = if wants takes front.head.track then None else Some front

-- the head and frame count of the SimpleBlock with the header `h`, or None if the filter `takes` wants it. It is also None if the first bytes `front`
-- of its content aren't enough to know them. `ticks` is its Cluster's Timestamp, in ticks of `scale` nanoseconds. Used by `settled_in` and the
-- contract of `settled`.
abbrev pub settled_by : BlockFilter → ℕ → ℕ → Header → List ℕ → Option BlockPreview
settled_by takes scale ticks h front = unless_wanted takes (front_head scale ticks h front)

-- the first bytes of the content of the SimpleBlock with the header `h` that are checked before it is skipped: the ones in the window `w`, at most
-- MAX_PREVIEW_LEN; for `settled_in` and the contract of `settled`
abbrev pub held_front : ReadAhead → Header → List ℕ
held_front w h = take (min (known h.size) MAX_PREVIEW_LEN) (front_from w h.body)

-- the head and frame count of the child `h` of a Cluster that is skipped: a SimpleBlock that the filter `takes` doesn't want. It is None if the bytes
-- in the window `w` aren't enough to know them. `ticks` is its Cluster's Timestamp, in ticks of `scale` nanoseconds. Used by `PassesWhereSettled`.
abbrev pub settled_in : BlockFilter → ℕ → ℕ → Header → ReadAhead → Option BlockPreview
settled_in takes scale ticks h w = if h.id == SIMPLE_BLOCK then settled_by takes scale ticks h (held_front w h) else None

-- A block was skipped (`answer`, the result of `passes`), and the buffer `lent` has the head and frame count of `front`. Used by `IsPassedWhere`.
pub record IsPassed (front : BlockPreview) (lent : Buffered) (answer : Bool) : Type 0 where
  pub passed : answer ≡ true
  pub head : lent.head ≡ front.head
  pub frames : lent.frames ≡ front.frames

-- A block was skipped (`passed`, the result of `passes`) exactly if its head and frame count are given, known from its first bytes. The buffer `lent`
-- has them then. Used by `PassesWhereSettled`.
abbrev pub IsPassedWhere : Option BlockPreview → Buffered → Bool → Type 0
IsPassedWhere None lent passed = passed ≡ false
IsPassedWhere (Some front) lent passed = IsPassed front lent passed
