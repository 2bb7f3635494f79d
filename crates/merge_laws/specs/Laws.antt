-- Laws: the outputs of a merge can be read, and hold the merge.
use Rattle.std.specs.Prelude.{◌≡◌, ◌≤◌, ℕ, false, true, List, [], ◌∷◌, Option, None, Ok, length, map, flat_map, All}
use Rattle.mkv_io.specs.declared.outside.TheConstants.{LONGEST_FILE}
use Rattle.output_model.specs.Document.{layout}
use Rattle.output_model.specs.OutputBlock.{OutputBlock}
use Rattle.output_model.specs.Sound.{IsSoundBlock, IsSoundDocument}
use Rattle.remux_plan.specs.Parts.{PlannedOutput}
use Rattle.requests.specs.declared.merge.MergeWords.{MergeWords}
use Rattle.requests.specs.Sound.{IsSoundMerge}
use Rattle.merge_model.specs.Links.{Given, given_blocks}
use Rattle.merge_plan.specs.Plan.{Source, lanes_given, lanes_ordered, lanes_taken}
use Rattle.mkv_merge.specs.Merge.{blocks_of, outputs_of, sources_of}
use Rattle.mkv_merge.specs.Records.{HaveRecords}
use Rattle.merge_laws.specs.Merge.{HoldsOutput, lanes_selected}
use Rattle.requests.specs.Texts.{AreTexts}
use Rattle.merge_laws.specs.Sources.{AreSources, HoldsOctets}

-- If all files `world` consist of bytes, the sources that the merge `words` reads do, and their tracks can be written. The command line must keep its
-- limits, and its texts must be UTF-8. It is the law `sources_are_read`.
abbrev pub SourcesAreRead : Type 0
SourcesAreRead =
    (world : List ℕ → Option (List ℕ)) (words : MergeWords) (sources : List Source) → HoldsOctets world → IsSoundMerge words → AreTexts words
    → sources_of world words ≡ Ok sources → AreSources words sources

-- The blocks of the selected tracks of `sources` can be written by the merge `words`. Its command line must keep its limits, and nothing may refuse
-- the merge. It is the law `selected_blocks_are_sound`.
abbrev pub SelectedBlocksAreSound : Type 0
SelectedBlocksAreSound =
    (words : MergeWords) (sources : List Source) → IsSoundMerge words → AreSources words sources → All (All IsSoundBlock) (lanes_selected words sources)

-- The document of each output of the merge `words` can be written and read again, if its layout has at most 2^48 bytes. The records of `sources` must
-- be valid. It is the law `merged_documents_are_sound`.
abbrev pub MergedDocumentsAreSound : Type 0
MergedDocumentsAreSound =
    (words : MergeWords) (sources : List Source) → IsSoundMerge words → AreTexts words → AreSources words sources → HaveRecords words sources
    → All (λ (o : PlannedOutput). length (layout o.document) ≤ LONGEST_FILE → IsSoundDocument o.document) (outputs_of words sources)

-- The bytes of each output's document hold the output of the merge `words`, if they are at most 2^48. The records of `sources` must be valid. It is
-- the law `layouts_hold_outputs`.
abbrev pub LayoutsHoldOutputs : Type 0
LayoutsHoldOutputs =
    (words : MergeWords) (sources : List Source) → IsSoundMerge words → AreTexts words → AreSources words sources → HaveRecords words sources
    → All (λ (o : PlannedOutput). length (layout o.document) ≤ LONGEST_FILE → HoldsOutput words sources o (layout o.document)) (outputs_of words sources)

-- the name of the planned output `o`, and its blocks in order. The law that a merge without `--split` has one output compares only this pair, and so
-- does a law of `generate`.
abbrev pub name_and_blocks : PlannedOutput → List ℕ × List OutputBlock
name_and_blocks o = (o.name, o.blocks)

-- The merge `words` of `sources` without `--split` has one output. It has the output's name on the command line, and its blocks are the merged list
-- of all output tracks. It is the law `whole_merges_are_one`.
abbrev pub WholeMergesAreOne : Type 0
WholeMergesAreOne =
    (words : MergeWords) (sources : List Source) → words.split ≡ None
    → map name_and_blocks (outputs_of words sources) ≡ (words.output, blocks_of words sources) ∷ []

-- Damage in the link `g` of an output track, the blocks of one of its inputs, doesn't end the reading of the links after it. It is the condition of
-- the law `undamaged_lanes_stay`.
abbrev pub NeverStops : Given → Type 0
NeverStops g = g.stops ≡ false

-- If damage ends the reading of no link of an output track, `--append-damaged` changes no link. The merge is `words`, its inputs are `sources`. It is
-- the law `undamaged_lanes_stay`.
abbrev pub UndamagedLanesStay : Type 0
UndamagedLanesStay =
    (words : MergeWords) (sources : List Source) → All (All NeverStops) (lanes_given sources)
    → lanes_taken words sources ≡ lanes_ordered words.order sources

-- If the merge `words` has `--append-damaged`, all blocks of all links of each output track are selected, with ticks of `words.scale` nanoseconds.
-- `sources` are its inputs. It is the law `damaged_lanes_go_on`.
abbrev pub DamagedLanesGoOn : Type 0
DamagedLanesGoOn =
    (words : MergeWords) (sources : List Source) → words.append_damaged ≡ true
    → lanes_selected words sources ≡ map (λ (gs : List Given). flat_map (given_blocks words.scale) gs) (lanes_ordered words.order sources)
