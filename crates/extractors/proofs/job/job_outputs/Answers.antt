use Rattle.extractors.proofs.JobLemmas.{fit-ready}
use Rattle.extractors.proofs.job.job_outputs.Goals as goal

-- Each output can be written.
pub returns-in-Some-clause-ready : goal.returns-in-Some-clause-ready
returns-in-Some-clause-ready c =
    fit-ready c.in-Some.form c.targets_of.result.now c.args.tracks.now c.requires.read c.outputs_for.result c.outputs_for.ensures
