-- Laws on `--track-order`, the order of an output's tracks. They are this project's.
use Rattle.std.specs.Prelude.{◌≡◌, ℕ, List, [], Option, Ok, length, take}
use Rattle.std.specs.List.{zip}
use Rattle.std.specs.List.Sorted.{IsPermutation}
use Rattle.output_model.specs.OutputBlock.{OutputBlock}
use Rattle.requests.specs.declared.merge.MergeWords.{MergeWords}
use Rattle.merge_inputs.specs.declared.taken.TakenTrack.{TakenTrack}
use Rattle.merge_plan.specs.Front.{reads_of}
use Rattle.merge_plan.specs.Plan.{Source}
use Rattle.merge_plan.specs.Records.{keys_from, tracks_ordered}
use Rattle.mkv_merge.specs.Merge.{merge_verdict, sources_of}
use Rattle.merge_laws.specs.Merge.{lanes_selected}

-- the merge `words` without `--track-order`. The laws on the option compare both.
abbrev pub unordered : MergeWords → MergeWords
unordered words = record words { order = [] }

-- the output tracks of the merge `words` of `sources`, in the order of the output: each as the track that begins it, with its blocks. Used by
-- `OrdersKeepTracks`.
abbrev pub tracks_with_blocks : MergeWords → List Source → List (TakenTrack × List OutputBlock)
tracks_with_blocks words sources = zip (tracks_ordered words.order (reads_of sources)) (lanes_selected words sources)

-- The merge `words` of `sources` has the output tracks that it has without `--track-order`, each once and with the same blocks, in another order. It
-- is the law `orders_keep_tracks`.
abbrev pub OrdersKeepTracks : Type 0
OrdersKeepTracks =
    (words : MergeWords) (sources : List Source) → IsPermutation (tracks_with_blocks (unordered words) sources) (tracks_with_blocks words sources)

-- `--track-order` of the merge `words` of `sources` names the output tracks in the order that they have without it: all, or some from the first on.
-- It is the condition of the law `own_orders_change_nothing`.
abbrev pub NamesTheFirst : MergeWords → List Source → Type 0
NamesTheFirst words sources = take (length words.order) (keys_from 0 (reads_of sources)) ≡ words.order

-- If `--track-order` of the merge `words` names the output tracks in their order without it, from the first on, it changes nothing: the status, the
-- messages and the outputs are the same. `sources` are the inputs if the files are `world`. It is the law `own_orders_change_nothing`.
abbrev pub OwnOrdersChangeNothing : Type 0
OwnOrdersChangeNothing =
    (world : List ℕ → Option (List ℕ)) (words : MergeWords) (sources : List Source) → sources_of world words ≡ Ok sources
    → NamesTheFirst words sources → merge_verdict world words ≡ merge_verdict world (unordered words)
