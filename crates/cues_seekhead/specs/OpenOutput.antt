-- An output that is being written.
use Rattle.std.specs.Prelude.{◌≡◌, ◌≢◌, ◌<◌, ◌≤◌, ℕ, ◌+◌, Bool, List, [], ◌∷◌, ◌++◌, length, Option, IfSome}
use Rattle.mkv_io.specs.declared.outside.FileId.{FileId}
use Rattle.mkv_io.specs.Names.{Names, with_content}
use Rattle.mkv_io.specs.Sources.{IsLive, file_size, live_files}
use Rattle.mkv_io.specs.declared.reads.Reads.{Ghosts}
use Rattle.mkv_io.specs.declared.files.Files as writing
use Rattle.mkv_schema.specs.declared.ids.TheConstants.{ATTACHED_FILE}
use Rattle.tree_format.specs.Node.{id_of, IsMaster}
use Rattle.output_model.specs.declared.attachment.Attachment.{Attachment}
use Rattle.output_model.specs.declared.TheConstants.{AREA, DURATION_LEN, MAX_CUES}
use Rattle.output_model.specs.declared.places.CuePoint.{CuePoint}
use Rattle.output_model.specs.declared.places.Seek.{Seek}
use Rattle.output_model.specs.SeekHead.{seeks_from}
use Rattle.output_model.specs.Document.{Front, front_elements, clusters_at, opened_with}
use Rattle.cues_seekhead.specs.Front.{body_start, place_of}
use Rattle.cues_seekhead.specs.Places.{AreIds}
use Rattle.mkv_outputs.specs.Starts.{ArePrefixes}
use Rattle.output_model.specs.Front.{front_with}
use Rattle.output_model.specs.declared.front.Front.{Front as GivenFront}

-- an output that is being written: its file, whether it is WebM, the length in bytes of the Segment's body, the offset in bytes of the Duration in
-- that body, if Info has one, the places of the Elements before the Clusters, and the cue points. Used by `IsReady`, `Finishes` and others.
pub record OpenOutput : Type 0 where
  pub file : FileId
  pub webm : Bool
  pub len : ℕ
  pub place : Option ℕ
  pub seeks : List Seek
  pub cues : List CuePoint

-- The open output `o` is within its limits: numbers of cue points and Seeks, valid IDs, and a length that includes the area. It is the invariant of
-- `OutFile`.
pub record HasBegun (o : OpenOutput) : Type 0 where
  pub cues : length o.cues ≤ MAX_CUES
  pub seeks : length o.seeks ≤ 3
  pub ids : AreIds o.seeks
  pub area : AREA ≤ o.len
  pub place : IfSome o.place (λ at. at + DURATION_LEN ≤ o.len)

-- the open output `o` with the cue point `point` after its own, when a block gets one; for `KeepsPoint`
abbrev pub with_cue : OpenOutput → CuePoint → OpenOutput
with_cue o point = record o { cues = o.cues ++ point ∷ [] }

-- the open output `o` after the `more` bytes of a Cluster were appended to it; for the contract of `cluster`
abbrev pub grown : OpenOutput → ℕ → OpenOutput
grown o more = record o { len = o.len + more }

-- The file of the open output `o` is live in `files`, and has the length that `o` expects. Writing Clusters and finishing require it. `r` gives the
-- proof's view of the files.
pub record IsOpen {S : Type 0} (r : Ghosts S) (files : S) (o : OpenOutput) : Type 0 where
  pub live : IsLive r files o.file
  pub size : file_size r files o.file ≡ body_start o.webm + o.len

-- The open output `o` agrees with a document that has `front` before the Clusters, and the bytes `behind`, its first Clusters, after that. It is the
-- same for every end of the output. Used by `StandsOpen`.
pub record Knows (front : Front) (behind : List ℕ) (o : OpenOutput) : Type 0 where
  pub webm : o.webm ≡ front.webm
  pub len : o.len ≡ clusters_at front + length behind
  pub place : o.place ≡ place_of front.info front.lasting
  pub seeks : o.seeks ≡ seeks_from AREA (front_elements front)

-- The output `o` is open in `files`, and its file `name` has the Elements `front` and then the bytes `behind`, its first Clusters. Other names have
-- the content that they have in `before`. `r` and `f` give the proof's view of the files. Used by `BeginsOutput`.
pub record StandsOpen {S : Type 0} (r : Ghosts S) (f : writing.Ghosts S) (before : Names) (name : List ℕ) (front : Front) (behind : List ℕ) (files : S) (o : OpenOutput) : Type 0 where
  pub is_open : IsOpen r files o
  pub holder : f.holder files o.file.n ≡ name
  pub names : f.names files ≡ with_content before name (opened_with front behind)
  pub known : Knows front behind o

-- The attached file `a` can be written to an output with the name `name`; `begin` requires it. It is an AttachedFile, and its data are in a live file
-- of another name in `files`. `r` and `f` give the proof's view of the files.
pub record CanAttach {S : Type 0} (r : Ghosts S) (f : writing.Ghosts S) (files : S) (name : List ℕ) (a : Attachment) : Type 0 where
  pub id : id_of a.entry ≡ ATTACHED_FILE
  pub master : IsMaster a.entry
  pub live : IsLive r files a.file
  pub inside : a.at + a.len ≤ file_size r files a.file
  pub apart : f.holder files a.file.n ≢ name

-- From `old` to `new` the output `name` was begun by `begin`: `out` is open, and its content is the Elements `front` before the first Cluster. `r`
-- and `f` give the proof's view of the files.
abbrev pub BeginsOutput : {S : Type 0} → Ghosts S → writing.Ghosts S → List ℕ → GivenFront → S → S → OpenOutput → Type 0
BeginsOutput r f name front old new out = StandsOpen r f (f.names old) name (front_with (live_files r old) front) [] new out

-- From `old` to `new` the output `name` was begun, but `begin` failed: its content is unchanged, or a prefix of the Elements `front` before the first
-- Cluster. `r` and `f` give the proof's view of the files.
abbrev pub BeginsInPart : {S : Type 0} → Ghosts S → writing.Ghosts S → List ℕ → GivenFront → S → S → Type 0
BeginsInPart r f name front old new =
    ArePrefixes (f.names old) (f.names new) (record { name = name; content = opened_with (front_with (live_files r old) front) [] } ∷ [])

-- The open output `new` is `old` with a cue point in the next Cluster, for a block at the tick `tick` on the output track `lane`, `relative` bytes
-- inside the Cluster's content. It promises nothing if `old` has as many points as are allowed. Used by the contract of `cue`.
abbrev pub KeepsPoint : ℕ → ℕ → ℕ → OpenOutput → OpenOutput → Type 0
KeepsPoint tick lane relative old new =
    length old.cues < MAX_CUES → new ≡ with_cue old (record { tick = tick; lane = lane; cluster = old.len; relative = relative })
