-- The outputs of a merge can be read again, with the records besides tracks and blocks: RFC 9559, sections 5.1.6 (Attachments Element), 5.1.7
-- (Chapters Element) and 5.1.8 (Tags Element).
use Rattle.std.specs.Prelude.{◌≡◌, ℕ, List, IfSome, IfOk, Result}
use Rattle.std.specs.List.{All}
use Rattle.mkv_schema.specs.declared.ids.TheConstants.{CHAPTERS, TAGS}
use Rattle.tree_format.specs.Node.{Node}
use Rattle.output_model.specs.Attached.{with_data}
use Rattle.output_model.specs.Sound.{IsAttachment, IsRecord}
use Rattle.requests.specs.declared.merge.MergeWords.{MergeWords}
use Rattle.remux_plan.specs.Parts.{PlannedOutput}
use Rattle.remuxer.specs.Output.{IsShort}
use Rattle.merge_plan.specs.Front.{attachments_of, reads_of}
use Rattle.merge_plan.specs.Identifiers.{Have64Bits, identifiers_of}
use Rattle.merge_plan.specs.Plan.{Source}
use Rattle.merge_plan.specs.Records.{chapters_of, tags_of}
use Rattle.mkv_lines.specs.declared.status.Status.{Status}
use Rattle.mkv_lines.specs.declared.status.CommandEnd.{CommandEnd}
use Rattle.mkv_merge.specs.Merge.{outputs_of}
use Rattle.mkv_merge.specs.declared.refusal.Refusal.{Refusal}

-- `n` is an AttachedFile that was read, with the bytes `octets` as its data. A part of `HaveRecords`, in the promise that the outputs of `merge` can
-- be read again.
pub record IsFilled (n : Node) : Type 0 where
  pub entry : Node
  pub octets : List ℕ
  pub is : n ≡ with_data octets entry
  pub attachment : IsAttachment entry

-- The attached files of the merge `words` of `sources`, and its Chapters and Tags if any, can be written and read again; the identifiers have 64 bits.
-- A condition of the laws on the outputs of `merge`.
pub record HaveRecords (words : MergeWords) (sources : List Source) : Type 0 where
  pub attachments : All IsFilled (attachments_of sources)
  pub chapters : IfSome (chapters_of (reads_of sources)) (IsRecord CHAPTERS)
  pub tags : IfSome (tags_of words.order (reads_of sources)) (IsRecord TAGS)
  pub numbers : Have64Bits (identifiers_of words.order (reads_of sources))

-- None of the outputs of `sources` is longer than a file may be. A part of `CanBeReadAgain`, in the promise that the outputs of `merge` can be read
-- again. `words` are the options of the merge.
abbrev pub AreShort : MergeWords → List Source → Type 0
AreShort words sources = All (λ (o : PlannedOutput). IsShort o.document) (outputs_of words sources)

-- The outputs of the merge `words` of `sources` can be read again: their records are valid, and they aren't longer than files may be. Used by
-- `EndsReadable`.
pub record CanBeReadAgain (words : MergeWords) (sources : List Source) : Type 0 where
  pub records : HaveRecords words sources
  pub short : AreShort words sources

-- The outputs of the merge `words` can be read again, if it ended with a status and wasn't refused. `found` has its sources or its refusal. The
-- contract of `merge_of` states it. `result` is what the call returned.
abbrev pub EndsReadable : MergeWords → Result (List Source) Refusal → Result Status CommandEnd → Type 0
EndsReadable words found result = IfOk result (λ _. IfOk found (CanBeReadAgain words))
