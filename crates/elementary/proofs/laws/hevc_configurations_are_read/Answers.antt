use Rattle.elementary.proofs.HevcLemmas.{hevc-read, hevc-spelled}
use Rattle.elementary.proofs.laws.hevc_configurations_are_read.Goals as goal

pub returns : goal.returns
returns c = λ octets avc are. (hevc-spelled octets avc are, hevc-read octets avc)
