-- The Elements before the Clusters of a merge: RFC 9559, sections 5.1.2 (Info Element), 5.1.4 (Tracks Element) and 5.1.6 (Attachments Element).
use Rattle.std.specs.Prelude.{ℕ, List, [], ◌∷◌, map, flat_map, sum_by}
use Rattle.mkv_io.specs.Contents.{octets_from}
use Rattle.mkv_schema.specs.declared.ids.TheConstants.{FILE_UID}
use Rattle.tree_format.specs.Node.{Node}
use Rattle.output_model.specs.Attached.{with_data}
use Rattle.meta_records.specs.Attached.{AttachedFile}
use Rattle.record_changes.specs.Identifiers.{renumbered}
use Rattle.tree_format.specs.Children.{uint_leaf, set_in}
use Rattle.output_model.specs.Document.{Front, lasting_if}
use Rattle.requests.specs.declared.merge.MergeWords.{MergeWords}
use Rattle.merge_inputs.specs.Input.{InputRead}
use Rattle.merge_plan.specs.Plan.{Source}
use Rattle.merge_plan.specs.Records.{info_of, tracks_of_output}

-- the inputs of a merge of `sources` as they are read, without their contents. Definitions on a merge's plan use them. Used by `attachments_of`,
-- `front_of` and others.
abbrev pub reads_of : List Source → List InputRead
reads_of sources = map (λ (s : Source). s.1) sources

-- ---- attached files

-- the FileUIDs in the output of the attached files of all inputs `reads`, in their order: their own, or another if one occurs again. `merge` gives
-- them when it plans the Attachments.
abbrev pub file_uids : List InputRead → List ℕ
file_uids reads = renumbered (map (λ (a : AttachedFile). a.uid) (flat_map (λ (i : InputRead). i.attachments) reads))

-- the attached files of the source `s`, each with its data. `attachments_of` uses them.
abbrev pub files_in : Source → List (AttachedFile × List ℕ)
files_in s = map (λ (a : AttachedFile). (a, octets_from s.0 a.at a.len)) s.1.attachments

-- the AttachedFile of an output for an attached file `f.0` of an input with the data `f.1`. Its FileUID is `uid`. `attached_from` uses it.
abbrev pub attached : ℕ → AttachedFile × List ℕ → Node
attached uid f = with_data f.1 (set_in (uint_leaf FILE_UID uid) f.0.entry)

-- the AttachedFiles of an output for attached files of inputs, given with their data. Their FileUIDs are `uids`. `attachments_of` uses them.
abbrev pub attached_from : List ℕ → List (AttachedFile × List ℕ) → List Node
attached_from [] files = []
attached_from (uid ∷ uids) [] = []
attached_from (uid ∷ uids) (f ∷ files) = attached uid f ∷ attached_from uids files

-- the AttachedFiles of the output of a merge of `sources`, source after source. The plan, and the laws on a repeated merge, use them. Used by
-- `front_of`, `AreRecordsOf` and others.
abbrev pub attachments_of : List Source → List Node
attachments_of sources = attached_from (file_uids (reads_of sources)) (flat_map files_in sources)

-- the number of bytes of the data of all attached files of the inputs `reads`. A bound on what a merge reads contains it. Used by `AreRecordsOf`,
-- `IsPlanOf` and others.
abbrev pub attached_length : List InputRead → ℕ
attached_length reads = sum_by (λ (i : InputRead). sum_by (λ (a : AttachedFile). a.len) i.attachments) reads

-- ---- Elements before the first Cluster

-- the Elements before the first Cluster of an unsplit output of the merge `words` of `sources`, without SegmentUUIDs. With `--duration`, Info has a
-- Duration, of an end that isn't known yet. `IsPlanOf` uses it.
abbrev pub front_of : MergeWords → List Source → Front
front_of words sources = record {
  webm = words.webm;
  lasting = lasting_if words.duration;
  info = info_of words (reads_of sources);
  tracks = tracks_of_output words.order (reads_of sources);
  attachments = attachments_of sources;
}
