-- A file on the way, one block at a time.
use Rattle.std.proofs.Common.{◌≡◌, ◌≤◌, ◌<◌, ◌+◌, ◌-◌, ℕ, suc, Bool, true, List, [], ◌∷◌, map, None, Result, Ok, Err, refl, sym, ◌∙◌, ap, subst, arith}
use Rattle.std.specs.List.{range_with_len, sum_by}
use Rattle.mkv_io.specs.LiveFiles.{LiveFiles}
use Rattle.mkv_io.specs.Names.{Names}
use Rattle.mkv_io.specs.Sources.{live_files}
use Rattle.mkv_io.specs.Writing.{WritesOnly}
use Rattle.mkv_io.specs.declared.outside.FileId.{FileId}
use Rattle.mkv_io.specs.declared.reads.Reads.{Ghosts}
use Rattle.mkv_io.specs.declared.files.Files as writing
use Rattle.mkv_io.specs.declared.remux_end.RemuxEnd.{RemuxEnd}
use Rattle.mkv_io.proofs.WritingLemmas.{WritesOnly-then}
use Rattle.mkv_outputs.specs.Drafts.{AreWrittenInOrder}
use Rattle.mkv_outputs.specs.Starts.{ArePrefixes}
use Rattle.output_model.specs.Attached.{attached_file}
use Rattle.output_model.specs.declared.attachment.Attachment.{Attachment}
use Rattle.output_model.specs.declared.front.Front as given
use Rattle.output_model.specs.Front.{front_with}
use Rattle.output_model.specs.OutputBlock.{OutputBlock}
use Rattle.output_model.specs.Document.{Document, Front, lasting_if, opened_with}
use Rattle.output_model.specs.Cued.{is_cue, is_cue_by}
use Rattle.merge_model.specs.Merged.{in_lane}
use Rattle.cluster_writer.specs.Gathered.{Gathered, Holds}
use Rattle.cues_seekhead.specs.Finished.{Finishes}
use Rattle.cues_seekhead.specs.Made.{WritesAndEnds}
use Rattle.cues_seekhead.specs.OpenOutput.{OpenOutput, StandsOpen}
use Rattle.cues_seekhead.specs.Draft.{draft_of}
use Rattle.remuxer.specs.Output.{Writes}
use Rattle.remuxer.specs.Stands.{Adds, Ends, Stands, counted_with}
use Rattle.remuxer.proofs.OutputLemmas.{begun-in_turn, finishes-all, none_counted, stands-begun}
use Rattle.remuxer.proofs.ShortLemmas.{HoldsOfFiles}
use Rattle.mkv_generate.specs.declared.blocks.MediaKind.{MediaKind}
use Rattle.mkv_generate.specs.Blocks.{block_of, count_of}
use Rattle.mkv_generate.specs.Files.{IsFrontOf, file_of, front_of, lane_blocks, rule_of, default_limits}
use Rattle.mkv_generate.specs.Writing.{AddsAll, AddsOne, IsOnTheWay}

-- ---- remaining blocks

-- the last blocks of the file, from a number on
abbrev pub lane_left : MediaKind → ℕ → ℕ → List OutputBlock
lane_left medium i count = map (in_lane 1) (map (block_of medium) (range_with_len i (count - i)))

pub all-left : (medium : MediaKind) (n count : ℕ) → count ≡ count_of medium n → lane_blocks medium n ≡ lane_left medium 0 count
all-left medium n count is =
    let same : count_of medium n ≡ count - 0 = omega (arith, is) in
    ap (λ (k : ℕ). map (in_lane 1) (map (block_of medium) (range_with_len 0 k))) same

pub next-left : (medium : MediaKind) (i count : ℕ) → i < count → lane_left medium i count ≡ in_lane 1 (block_of medium i) ∷ lane_left medium (i + 1) count
next-left medium i count below =
    let more : count - i ≡ suc (count - (i + 1)) = omega arith in
    ap (λ (k : ℕ). map (in_lane 1) (map (block_of medium) (range_with_len i k))) more

pub none-left : (medium : MediaKind) (i count : ℕ) → count ≤ i → lane_left medium i count ≡ []
none-left medium i count past =
    let none : count - i ≡ 0 = omega arith in
    ap (λ (k : ℕ). map (in_lane 1) (map (block_of medium) (range_with_len i k))) none

-- ---- one more block

module _ {S : Type 0} (r : Ghosts S) (f : writing.Ghosts S) (medium : MediaKind) (i : ℕ) (old new : S) (o o' : OpenOutput) (g g' : Gathered) (b : OutputBlock) (cued : Bool) (same : b ≡ in_lane 1 (block_of medium i)) where
  cue-is : cued ≡ is_cue_by (rule_of medium) (block_of medium i).key → cued ≡ is_cue (rule_of medium ∷ []) b
  cue-is cue = cue ∙ ap (is_cue (rule_of medium ∷ [])) (sym same)

  -- The block was added.
  pub one-added : {T : Type 0} (done : T) (begins : Bool) → cued ≡ is_cue_by (rule_of medium) (block_of medium i).key → Adds {E = RemuxEnd} r f b cued old new o o' g g' (Ok begins) → AddsOne r f medium i old new o o' g g' (Ok done)
  one-added done begins cue adds = λ before name d left way.
      let P : OutputBlock → Type 0 = λ x. Stands r f before name (rule_of medium ∷ []) d old o g way.counts (x ∷ left) in
      record {
        counts = counted_with begins cued way.counts;
        stands = adds before name (rule_of medium ∷ []) d way.counts left (cue-is cue) (subst P (sym same) way.stands);
      }

  -- The block couldn't be added.
  pub one-refused : (T : Type 0) (end : RemuxEnd) → Adds r f b cued old new o o' g g' (Err end) → AddsOne {T = T} r f medium i old new o o' g g' (Err end)
  one-refused T end adds = λ before name d left way.
      let P : OutputBlock → Type 0 = λ x. Stands r f before name (rule_of medium ∷ []) d old o g way.counts (x ∷ left) in
      adds before name (rule_of medium ∷ []) d way.counts left (subst P (sym same) way.stands)

-- ---- the file

-- Two calls write into one file.
pub writes-then : {S : Type 0} (r : Ghosts S) (f : writing.Ghosts S) (a b c : S) (file its : FileId) → its ≡ file → (live_files r a).live file.n ≡ true → WritesOnly r f (f.holder a file.n ∷ []) a b → WritesOnly r f (f.holder b its.n ∷ []) b c → WritesOnly r f (f.holder a file.n ∷ []) a c
writes-then r f a b c file its same live first next =
    let named : f.holder b its.n ≡ f.holder a file.n = ap (λ (id : FileId). f.holder b id.n) same ∙ first.kept.holders file.n live in
    WritesOnly-then r f (f.holder a file.n ∷ []) a b c first (subst (λ (name : List ℕ). WritesOnly r f (name ∷ []) b c) named next)

-- No block remains, and the last Cluster is written.
pub rest-added : {S T : Type 0} (r : Ghosts S) (f : writing.Ghosts S) (medium : MediaKind) (n : ℕ) (a b c : S) (o p o' : OpenOutput) (g h : Gathered) (result : Result T RemuxEnd) → Ends r f b c p o' h result
    → ((before : Names) (name : List ℕ) (d : Document) → IsOnTheWay r f before name medium d a o g (lane_blocks medium n) → IsOnTheWay r f before name medium d b p h []) → AddsAll r f medium n a c o o' g result
rest-added r f medium n a b c o p o' g h (Ok done) ends way = λ before name d cues begun.
    let now = way before name d begun in
    record { counts = now.counts; has = ends before name (rule_of medium ∷ []) d now.counts now.stands cues }
rest-added r f medium n a b c o p o' g h (Err end) ends way = λ before name d begun.
    let now = way before name d begun in
    ends before name (rule_of medium ∷ []) d now.counts now.stands

-- ---- the whole file

-- The Elements before the Clusters are the Elements that the code has made.
pub front-is : (f : LiveFiles) (medium : MediaKind) (front : given.Front) → IsFrontOf medium front → front_with f front ≡ front_of medium
front-is f medium front is = λ i. record { webm = is.webm i; lasting = lasting_if (is.duration i); info = is.info i; tracks = is.tracks i; attachments = map (attached_file f) (is.attachments i) }

-- No byte is read for it.
pub none-read : (list : List Attachment) (old new : ℕ) → list ≡ [] → new ≤ old + sum_by (λ (a : Attachment). a.len) list → new ≤ old
none-read list old new none reads =
    let few : new ≤ old + sum_by (λ (a : Attachment). a.len) [] = subst (λ (l : List Attachment). new ≤ old + sum_by (λ (a : Attachment). a.len) l) none reads in
    omega (arith, few)

-- The file couldn't be begun.
pub file-refused : (files : LiveFiles) (medium : MediaKind) (n : ℕ) (name : List ℕ) (front : given.Front) (old new : Names) → IsFrontOf medium front
    → ArePrefixes old new (record { name = name; content = opened_with (front_with files front) [] } ∷ []) → AreWrittenInOrder old new (draft_of name (file_of medium n) ∷ [])
file-refused files medium n name front old new is part =
    begun-in_turn old new name (file_of medium n) (front_of medium) 0 refl
    (subst (λ (each : Front). ArePrefixes old new (record { name = name; content = opened_with each [] } ∷ [])) (front-is files medium front is) part)

module _ {S : Type 0} (r : Ghosts S) (f : writing.Ghosts S) (medium : MediaKind) (n : ℕ) (name : List ℕ) (front : given.Front) (a b : S) (o : OpenOutput) (g : Gathered) (is : IsFrontOf medium front) where
  -- The file was begun.
  pub file-begun : StandsOpen r f (f.names a) name (front_with (live_files r a) front) [] b o → o.cues ≡ [] → Holds None g → g.limits ≡ default_limits → IsOnTheWay r f (f.names a) name medium (file_of medium n) b o g (lane_blocks medium n)
  file-begun opened cues holds limits = record {
    counts = none_counted;
    stands = stands-begun r f (f.names a) name (file_of medium n) (rule_of medium ∷ []) default_limits b o g (lane_blocks medium n) refl cues holds limits
        (subst (λ (front : Front). StandsOpen r f (f.names a) name front [] b o) (front-is (live_files r a) medium front is) opened);
  }

  -- All blocks were added, and the file is finished.
  pub file-finished : (c e : S) (o' : OpenOutput) (result : Result ℕ RemuxEnd) → IsOnTheWay r f (f.names a) name medium (file_of medium n) b o g (lane_blocks medium n) → AddsAll {T = Unit {0}} r f medium n b c o o' g (Ok tt)
      → HoldsOfFiles r f → Finishes r f o' 0 None None c e result → WritesAndEnds r f o'.file c e → Writes (f.names a) (f.names e) name (file_of medium n) result
  file-finished c e o' result begun adds of_files finishes ended =
      let whole = adds (f.names a) name (file_of medium n) refl begun in
      finishes-all r f (f.names a) name (file_of medium n) c e o' 0 None None result tt refl refl of_files finishes ended whole.counts whole.has
