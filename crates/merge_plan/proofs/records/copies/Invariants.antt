-- The copies are the files that were passed.
use Rattle.std.proofs.Common.{◌≡◌, take}
use Rattle.merge_plan.proofs.records.copies.Given as goal

abbrev pub invariant-loop-file : goal.invariant-loop-file
invariant-loop-file l = l.copies ≡ take l.file-index l.files
