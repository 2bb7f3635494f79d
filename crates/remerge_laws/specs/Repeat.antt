-- An output that is merged by itself and without options is written as it was: RFC 9559, section 5.1 (Segment Element). This is this project's
-- promise.
use Rattle.std.specs.Prelude.{◌≡◌, ℕ, Bool, false, List, [], ◌∷◌, length, map, All, None, Ok}
use Rattle.mkv_schema.specs.Outline.{outline_of}
use Rattle.tree_format.specs.Text.{HasNoZero}
use Rattle.meta_records.specs.Records.{FileRecords, file_records}
use Rattle.output_laws.specs.Reading.{header_of_segment, outline_of_document}
use Rattle.output_model.specs.Document.{Document, layout}
use Rattle.requests.specs.declared.merge.FileWords.{FileWords}
use Rattle.requests.specs.declared.merge.MergeWords.{MergeWords}
use Rattle.requests.specs.Sound.{IsSoundMerge}
use Rattle.requests.specs.Texts.{AreTexts}
use Rattle.merge_inputs.specs.Input.{input_with}
use Rattle.merge_inputs.specs.Taken.{first_unusable, taken_from}
use Rattle.merge_inputs.specs.declared.taken.TakenTrack.{TakenTrack}
use Rattle.merge_plan.specs.Front.{reads_of}
use Rattle.merge_plan.specs.Plan.{Source}
use Rattle.merge_plan.specs.Records.{title_of, tracks_taken}
use Rattle.merge_plan.specs.Refusal.{plan_refusal}
use Rattle.mkv_merge.specs.Merge.{has_damage, outputs_of}
use Rattle.mkv_merge.specs.Records.{HaveRecords}
use Rattle.requests.specs.Plain.{plain_file}
use Rattle.merge_laws.specs.Merge.{laid_out}
use Rattle.merge_laws.specs.Sources.{AreSources}
use Rattle.remerge_laws.specs.Limits.{IsWithinLimits}
use Rattle.remerge_laws.specs.AsRead.{EndsAfterStart, as_read}
use Rattle.remerge_laws.specs.Plain.{merge_again}
use Rattle.remerge_laws.specs.Whole.{whole_document}

-- The command line `words` asks for no WebM, cue points, parts or identifiers, takes no track as it is stored, and has the default ticks (1,000,000
-- ns) and Cluster limits (65,535 blocks, 5 s). It may order tracks and attach files. A condition on the first merge in the law that an output, merged
-- by itself, is written as it was.
pub record IsDefault (words : MergeWords) : Type 0 where
  pub webm : words.webm ≡ false
  pub scale : words.scale ≡ 1000000
  pub blocks : words.blocks ≡ 65535
  pub span : words.span ≡ 5000000000
  pub split : words.split ≡ None
  pub uuids : words.uuids ≡ []
  pub cues : All (λ (f : FileWords). f.cues ≡ []) words.files
  pub undone : All (λ (f : FileWords). f.keep_encodings ≡ false) words.files

-- The sources `sources` of the merge `words` are plain. Only the types of their tracks decide on cue points, no frames are taken as they are stored,
-- and the title of the output has no zero byte. A condition of `OutputsAreRepeated`.
pub record ArePlainSources (words : MergeWords) (sources : List Source) : Type 0 where
  pub cues : All (λ (t : TakenTrack). t.cues ≡ None) (tracks_taken (reads_of sources))
  pub undone : All (λ (t : TakenTrack). t.track.stored ≡ false) (tracks_taken (reads_of sources))
  pub title : HasNoZero (title_of words (reads_of sources))

-- the output with the document `d` and the name `name`, as the source of a merge without options. `r` are the records that were read from it. Used by
-- the laws on an output that is merged by itself.
abbrev pub source_again : List ℕ → Document → FileRecords → Source
source_again name d r = (layout d, input_with (plain_file name) false (outline_of_document d (length (layout d))) r)

-- A merge of the file `name`, which is the output with the document `d`, to `out` and without options but `--duration`, if `duration` is true, repeats
-- it. Its outline and its records `r` are read, and each track can be used. The plan isn't refused. It has one output, which is as it was, byte for
-- byte, and no damage is met. Used by `OutputsAreRepeated`.
pub record IsRepeated (duration : Bool) (out name : List ℕ) (d : Document) (r : FileRecords) : Type 0 where
  pub outline : outline_of 0 (layout d) ≡ Ok (outline_of_document d (length (layout d)))
  pub read : file_records (layout d) (header_of_segment d) ≡ Ok r
  pub usable : first_unusable (taken_from (plain_file name) 0 r.tracks) ≡ None
  pub planned : plan_refusal (merge_again duration out name) (reads_of (source_again name d r ∷ [])) ≡ None
  pub outputs : map laid_out (outputs_of (merge_again duration out name) (source_again name d r ∷ [])) ≡ record { name = out; content = layout d } ∷ []
  pub undamaged : has_damage (merge_again duration out name) (source_again name d r ∷ []) ≡ false

-- The output of a merge `words` of `sources`, with default options and plain sources, is repeated by a merge of the file `name` to `out`, if it keeps
-- a reader's limits. Both merges have `--duration`, or neither; a Duration must be above 0. The sources and their records must be valid.
abbrev pub OutputsAreRepeated : Type 0
OutputsAreRepeated =
    (words : MergeWords) (sources : List Source) (out name : List ℕ) → IsDefault words → IsSoundMerge words → AreTexts words → AreSources words sources
    → HaveRecords words sources → ArePlainSources words sources → EndsAfterStart (whole_document words sources)
    → IsWithinLimits (layout (whole_document words sources))
    → (r : FileRecords) × IsRepeated words.duration out name (as_read (whole_document words sources)) r
