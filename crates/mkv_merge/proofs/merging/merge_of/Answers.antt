use Rattle.mkv_merge.specs.Merge.{sources_of}
use Rattle.mkv_merge.specs.Bound.{most_read}
use Rattle.mkv_merge.proofs.MergingLemmas.{refusal-told}
use Rattle.mkv_merge.proofs.WritingLemmas.{readable-none}
use Rattle.mkv_merge.proofs.merging.merge_of.Goals as goal

-- The merge ended with its result.
pub returns-in-Ok-clause-verdict : goal.returns-in-Ok-clause-verdict
returns-in-Ok-clause-verdict g c = λ world told. (c.in-Ok.ensures.merges world told).verdict

pub returns-in-Ok-clause-readable : goal.returns-in-Ok-clause-readable
returns-in-Ok-clause-readable g c = λ world told. (c.in-Ok.ensures.merges world told).readable

pub returns-in-Ok-clause-octets : goal.returns-in-Ok-clause-octets
returns-in-Ok-clause-octets g c = λ world told. (c.in-Ok.ensures.merges world told).octets

-- The refusal is printed.
pub returns-in-Err-Refused-clause-verdict : goal.returns-in-Err-Refused-clause-verdict
returns-in-Err-Refused-clause-verdict g c = λ world told.
    let words = c.args.words.now in
    refusal-told g.F.Reads g.F.Files g.P.Report c.args.files.now c.merge_named.new.files c.args.report.now c.merge_named.new.report c.refuse.new.report words (sources_of world words) (most_read world words) c.in-Err-Refused.why c.refuse.result
    (rw c.in-Err-Refused.field-0-is at (c.in-Err-Refused.ensures.merges world told)) c.refuse.ensures.verdict

pub returns-in-Err-Refused-clause-readable : goal.returns-in-Err-Refused-clause-readable
returns-in-Err-Refused-clause-readable g c = λ world told.
    let merges = rw c.in-Err-Refused.field-0-is at (c.in-Err-Refused.ensures.merges world told) in
    readable-none c.args.words.now (sources_of world c.args.words.now) c.in-Err-Refused.why c.refuse.result merges.verdict.0

pub returns-in-Err-Refused-clause-octets : goal.returns-in-Err-Refused-clause-octets
returns-in-Err-Refused-clause-octets g c = λ world told. (c.in-Err-Refused.ensures.merges world told).octets

-- The merge was stopped.
pub returns-in-Err-Stopped-clause-verdict : goal.returns-in-Err-Stopped-clause-verdict
returns-in-Err-Stopped-clause-verdict g c = λ world told. (rw c.in-Err-Stopped.field-0-is at (c.in-Err-Stopped.ensures.merges world told)).verdict

pub returns-in-Err-Stopped-clause-octets : goal.returns-in-Err-Stopped-clause-octets
returns-in-Err-Stopped-clause-octets g c = λ world told. (c.in-Err-Stopped.ensures.merges world told).octets
