-- The one output of a merge that isn't split: RFC 9559, section 5.1 (Segment Element). The limits that its records keep are this project's.
use Rattle.std.specs.Prelude.{◌≡◌, List, [], ◌∷◌, None}
use Rattle.output_model.specs.Cued.{document_of}
use Rattle.output_model.specs.Document.{Document}
use Rattle.requests.specs.declared.merge.MergeWords.{MergeWords}
use Rattle.merge_plan.specs.Front.{front_of, reads_of}
use Rattle.merge_plan.specs.Plan.{Source, limits_of, rules_given}
use Rattle.merge_plan.specs.Records.{chapters_of, tags_of}
use Rattle.merge_plan.specs.Refusal.{plan_refusal}
use Rattle.mkv_merge.specs.Merge.{blocks_of, outputs_of}
use Rattle.remerge_laws.specs.AsRead.{as_read}
use Rattle.remerge_laws.specs.Limits.{RecordsAreSmall}

-- the document of the merge `words` of `sources` that isn't split and whose output gets no identifier. It has all blocks, with the unchanged Elements
-- around them. Used by the laws on an output that is merged by itself.
abbrev pub whole_document : MergeWords → List Source → Document
whole_document words sources =
    document_of (limits_of words) (rules_given words.order (reads_of sources)) (front_of words sources) (chapters_of (reads_of sources))
    (tags_of words.order (reads_of sources)) (blocks_of words sources)

-- A merge `words` of `sources` without `--split` and `--segment-uid` has one output, with all blocks and the document `whole_document`. The law
-- `whole_merges_have_one_document` states it.
abbrev pub WholeMergesHaveOneDocument : Type 0
WholeMergesHaveOneDocument =
    (words : MergeWords) (sources : List Source) → words.split ≡ None → words.uuids ≡ []
    → outputs_of words sources ≡ record { name = words.output; blocks = blocks_of words sources; document = whole_document words sources } ∷ []

-- If the plan of the merge `words` of `sources` isn't refused, the records of `whole_document`, as a reader finds them, keep a reader's limits.
abbrev pub WholeMergesHaveSmallRecords : Type 0
WholeMergesHaveSmallRecords =
    (words : MergeWords) (sources : List Source) → plan_refusal words (reads_of sources) ≡ None → RecordsAreSmall (as_read (whole_document words sources))
