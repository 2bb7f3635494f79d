use Rattle.extractors.proofs.StreamLemmas.{adts-output, annex_b-output, pgs-output}
use Rattle.extractors.proofs.laws.outputs_hold_the_good_frames.Goals as goal

pub returns : goal.returns
returns c = record { adts = adts-output; annex_b = annex_b-output; pgs = pgs-output }
