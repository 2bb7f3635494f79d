-- The children of the previous inputs' Chapters are in one.
use Rattle.std.proofs.Common.{◌≡◌, take}
use Rattle.mkv_schema.specs.declared.ids.TheConstants.{CHAPTERS}
use Rattle.output_model.specs.Sound.{IsRecord}
use Rattle.output_records.specs.Chapters.{joined_chapters}
use Rattle.output_records.proofs.chapters.joined_chapters.Given as goal

abbrev pub invariant-loop-input : goal.invariant-loop-input
invariant-loop-input l = record {
  exact : l.joined ≡ joined_chapters (take l.input-index l.inputs);
  own : IsRecord CHAPTERS l.joined;
}
