-- All records are the records that were made and the records of the rest; each was read.
use Rattle.std.proofs.Common.{◌≡◌, ◌++◌, drop, map}
use Rattle.std.specs.List.{All}
use Rattle.output_records.specs.Inputs.{IsInput}
use Rattle.merge_plan.specs.Records.{kept_in, lanes_with, records_from}
use Rattle.merge_plan.proofs.records.records_of.Given as goal

abbrev pub invariant-loop-number : goal.invariant-loop-number
invariant-loop-number l = record {
  all : l.records ++ records_from (lanes_with l.order l.keys l.numbers) l.owner l.number (map kept_in (drop l.number l.inputs)) ≡ records_from (lanes_with l.order l.keys l.numbers) 0 0 (map kept_in l.inputs);
  read : All IsInput l.records;
}
