-- The records of a file up to its blocks, as an extraction needs them: RFC 9559, section 5.1 (Segment Element).
use Rattle.std.specs.Prelude.{◌≡◌, ⊤, ℕ, ◌+◌, ◌==◌, Bool, true, if◌then◌else◌, List, [], ◌∷◌, ◌++◌, map, Option, None, Result, Ok, Err}
use Rattle.std.specs.List.{list_any}
use Rattle.mkv_io.specs.declared.damage.Damage.{Damage}
use Rattle.requests.specs.declared.job.Job.{Job}
use Rattle.requests.specs.declared.job.Job.TheVariants as jobs
use Rattle.requests.specs.declared.job.Target.{Target}
use Rattle.mkv_schema.specs.declared.element.Header.{Header}
use Rattle.mkv_schema.specs.Outline.{Outlined, first_damage, outline_of}
use Rattle.mkv_io.specs.Results.{and_then, unless}
use Rattle.element_reader.specs.declared.outline_end.OutlineEnd.{OutlineEnd}
use Rattle.element_reader.specs.declared.outline_end.OutlineEnd.TheVariants as outline_end
use Rattle.element_reader.specs.Outline.{FileOutline, outline_in}
use Rattle.tree_format.specs.Node.{Node}
use Rattle.file_format.specs.Encoding.{usable_causes}
use Rattle.file_format.specs.FileBlocks.{file_events}
use Rattle.track_records.specs.declared.track.Track.{Track}
use Rattle.meta_records.specs.Attached.{AttachedFile, in_file}
use Rattle.meta_records.specs.Records.{FileRecords, ReadsAs, file_records}
use Rattle.extractors.specs.Reading.{first_cues}
use Rattle.extractors.specs.Job.{targets_of}
use Rattle.extractors.specs.Source.{events_in}
use Rattle.extractors.specs.declared.source.Source.{Source}

-- One of `targets` names the track with index `k`, from 0. For `causes_of`, when `extract` reads its file.
abbrev pub is_named : List Target → ℕ → Bool
is_named targets k = list_any (λ (t : Target). t.id == k) targets

-- the reasons why the frames of the track `t`, which has the index `k`, can't be used, if one of `targets` names it. For `causes_from`, when
-- `extract` reads its file.
abbrev pub causes_of : List Target → ℕ → Track → List (Option Damage)
causes_of targets k t = if is_named targets k then usable_causes t.entry else []

-- the reasons why the frames of tracks that `targets` name can't be used. The list has tracks in sequence, and the first has the index `k`. For
-- `first_unusable`, when `extract` reads its file.
abbrev pub causes_from : List Target → ℕ → List Track → List (Option Damage)
causes_from targets k [] = []
causes_from targets k (t ∷ ts) = causes_of targets k t ++ causes_from targets (k + 1) ts

-- the reason why the frames of the first of `tracks` that one of `targets` names can't be used, if there is such a track. `extract` refuses the file
-- then.
abbrev pub first_unusable : List Target → List Track → Option Damage
first_unusable targets tracks = first_damage (causes_from targets 0 tracks)

-- a file read up to its blocks, as `extract` needs it. It has its Segment, the damage that ends its level 1, and the records that a job needs.
pub record FileRead : Type 0 where
  pub segment : Header
  pub damage : Option Damage
  pub info : Option Node
  pub tracks : List Track
  pub attachments : List AttachedFile
  pub chapters : Option Node
  pub cues : Option Node

-- the source `s` that the code has read, in the form of the definitions. The contracts of `extract`'s steps use it.
abbrev pub read_in : Source → FileRead
read_in s = record {
  segment = s.outline.segment;
  damage = s.outline.damage;
  info = s.info;
  tracks = s.tracks;
  attachments = map in_file s.attachments;
  chapters = s.chapters;
  cues = s.cues;
}

-- a file that was read, with the Segment `segment`, the damage `damage` at level 1, the records `r` and the Cues `cues`. For `read_of`, when
-- `extract` reads its file.
abbrev pub read_with : Header → Option Damage → FileRecords → Option Node → FileRead
read_with segment damage r cues =
    record { segment = segment; damage = damage; info = r.info; tracks = r.tracks; attachments = r.attachments; chapters = r.chapters; cues = cues }

-- the first Cues of a file with the content `bytes` and the Segment `segment`, if the job extracts cue points; none for other jobs. For `read_of`,
-- when `extract` reads its file.
abbrev pub cues_for : Job → List ℕ → Header → Result (Option Node) Damage
cues_for (jobs.Cues list) bytes segment = first_cues bytes segment
cues_for job bytes segment = Ok None

-- the file with the content `bytes`, read up to its blocks for `job`, or its first refusal. It is refused for its outline, its records, its Cues, and
-- then the named tracks. The contract of `read_source` states it.
abbrev pub read_of : Job → List ℕ → Result FileRead Damage
read_of job bytes =
    and_then (outline_of 0 bytes) (λ (o : Outlined).
    and_then (file_records bytes o.segment) (λ (r : FileRecords).
    and_then (cues_for job bytes o.segment) (λ (cues : Option Node).
    unless (first_unusable (targets_of job) r.tracks) (read_with o.segment o.damage r cues))))

-- The result of `read_source` has `found`, the file or its refusal; or a read failed, or memory ran out. Its contract states it.
abbrev pub ReadsSource : Result FileRead Damage → Result Source OutlineEnd → Type 0
ReadsSource found (Ok s) = found ≡ Ok (read_in s)
ReadsSource found (Err (outline_end.Refused d)) = found ≡ Err d
ReadsSource found (Err outline_end.ReadFault) = ⊤
ReadsSource found (Err outline_end.Memory) = ⊤

-- If the content `bytes` has the outline `outline`, `result` has its first Cues for `job`, or the refusal of the Cues. The contract of `cues_for`
-- states it; `held` is the size in bytes of records of other files.
abbrev pub ReadsCues : Job → FileOutline → Result (Option Node) OutlineEnd → List ℕ → Type 0
ReadsCues job outline result bytes = (held : ℕ) → outline_in held bytes ≡ Ok outline → ReadsAs (cues_for job bytes outline.segment) result

-- The source `source` has the blocks and damage of the file with the content `bytes`, with the file's tick. The contract of `read_source` states it.
abbrev pub HasOwnEvents : Source → List ℕ → Type 0
HasOwnEvents source bytes = events_in source bytes ≡ file_events true bytes source.outline.segment
