-- The difference that a Duration makes to an output: RFC 9559, sections 5.1.2 (Info Element) and 5.1.5 (Cues Element).
use Rattle.std.specs.Prelude.{◌≡◌, ◌≤◌, ℕ, ◌+◌, ◌-◌, Bool, true, false, List, ◌++◌, length, map, Option, Some}
use Rattle.tree_format.specs.Node.{Node, IsMaster}
use Rattle.tree_format.specs.NormalForm.{content}
use Rattle.output_model.specs.Element.{octets_of}
use Rattle.output_model.specs.declared.TheConstants.{DURATION_LEN}
use Rattle.output_model.specs.declared.heads.ClusterLimits.{ClusterLimits}
use Rattle.output_model.specs.declared.places.CuePoint.{CuePoint}
use Rattle.output_model.specs.declared.rule.CueRule.{CueRule}
use Rattle.output_model.specs.OutputBlock.{OutputBlock}
use Rattle.output_model.specs.Duration.{durations_of, end_of_blocks, duration_element}
use Rattle.output_model.specs.Document.{Front, Document, tree_element, children_after_duration, children_before_duration, info_element, lasting_if, clusters_at}
use Rattle.output_model.specs.Cued.{document_of}

-- ---- Info

-- the number of bytes that a Duration of the tick `end` adds to the Element of the Info `info`. All later Elements and cue points move by it, as
-- `DiffersOnlyInInfo` requires.
abbrev pub added_by : Node → ℕ → ℕ
added_by info end = length (octets_of (info_element info (Some end))) - length (octets_of (tree_element info))

-- With a Duration of `end` ticks, the content of the Info `info` has 11 more bytes at the place of the Duration. They are the Duration, or a Void if
-- `end` is 0. The Element is 11 bytes longer, or 12, since its size may take one more byte. `DiffersOnlyInInfo` requires it.
pub record HasInserted (info : Node) (end : ℕ) : Type 0 where
  pub without : content info ≡ children_before_duration info ++ children_after_duration info
  pub inserted : (info_element info (Some end)).body ≡ children_before_duration info ++ (octets_of (duration_element end) ++ children_after_duration info)
  pub len : length (octets_of (duration_element end)) ≡ DURATION_LEN
  pub least : DURATION_LEN ≤ added_by info end
  pub most : added_by info end ≤ DURATION_LEN + 1

-- ---- the output

-- the cue point `p` with its Cluster `k` bytes later in the Segment, as a Duration moves it. Used by `DiffersOnlyInInfo`.
abbrev pub later_by : ℕ → CuePoint → CuePoint
later_by k p = record p { cluster = p.cluster + k }

-- The document `lasting` of an output is the document `without` with a Duration of `end` ticks, as `DurationChangesOnlyInfo` requires. The Clusters
-- are the same. They begin later by the bytes that Info has gained, and so do the Clusters of the cue points.
pub record DiffersOnlyInInfo (end : ℕ) (without lasting : Document) : Type 0 where
  pub front : lasting.front ≡ record without.front { lasting = Some end }
  pub info : HasInserted without.front.info end
  pub clusters : lasting.clusters ≡ without.clusters
  pub begin : clusters_at lasting.front ≡ clusters_at without.front + added_by without.front.info end
  pub cues : lasting.cues ≡ map (later_by (added_by without.front.info end)) without.cues
  pub chapters : lasting.chapters ≡ without.chapters
  pub tags : lasting.tags ≡ without.tags

-- the output of the blocks `blocks` with the Chapters `chapters` and the Tags `tags`, and with a Duration only if `duration` is true. `limits`,
-- `rules` and `f` are the limits of its Clusters, its rules for cue points, and the part before its Clusters. The law `a_duration_changes_only_info`
-- compares the two.
abbrev pub document_lasting : Bool → ClusterLimits → List CueRule → Front → Option Node → Option Node → List OutputBlock → Document
document_lasting duration limits rules f chapters tags blocks =
    document_of limits rules (record f { lasting = lasting_if duration }) chapters tags blocks

-- An output with a Duration is the output of the same blocks without it, except for Info, which must be a master, and for positions. The Duration is
-- the end of the blocks in ticks. `limits`, `rules`, `f`, `chapters` and `tags` are as in `document_lasting`. It is the law
-- `a_duration_changes_only_info`.
abbrev pub DurationChangesOnlyInfo : Type 0
DurationChangesOnlyInfo =
    (limits : ClusterLimits) (rules : List CueRule) (f : Front) (chapters tags : Option Node) (blocks : List OutputBlock) → IsMaster f.info
    → DiffersOnlyInInfo (end_of_blocks (durations_of limits.scale f.tracks) blocks)
    (document_lasting false limits rules f chapters tags blocks) (document_lasting true limits rules f chapters tags blocks)
