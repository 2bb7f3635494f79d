-- The first attached files follow the inputs.
use Rattle.std.proofs.Common.{◌≡◌, ◌++◌, map, take}
use Rattle.std.specs.List.{All}
use Rattle.mkv_io.specs.Sources.{live_files}
use Rattle.input_files.specs.Inputs.{sizes_of}
use Rattle.merge_inputs.specs.Input.{IsInput, read_in}
use Rattle.merge_inputs.specs.declared.input.Input.{Input}
use Rattle.merge_plan.specs.TakenTracks.{HasPlace}
use Rattle.mkv_merge.specs.Attached.{attached_reads}
use Rattle.mkv_merge.proofs.preparing.with_attached.Given as goal

abbrev pub invariant-loop-k : goal.invariant-loop-k
invariant-loop-k g l = record {
  exact : map read_in l.list ≡ map read_in l.fn.inputs ++ attached_reads l.words.webm l.words.attached (sizes_of (live_files g.R.Reads l.src) (take l.k l.attached));
  of : map (λ (i : Input). i.file) l.list ≡ map (λ (i : Input). i.file) l.fn.inputs ++ take l.k l.attached;
  good : All (IsInput (live_files g.R.Reads l.src)) l.fn.inputs → All (IsInput (live_files g.R.Reads l.src)) l.list;
  places : All HasPlace l.fn.inputs → All HasPlace l.list;
}
