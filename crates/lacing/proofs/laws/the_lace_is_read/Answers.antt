use Rattle.lacing.proofs.LaceLemmas.{lace_in-found, lace_in-finds}
use Rattle.lacing.proofs.laws.the_lace_is_read.Goals as goal

pub returns : goal.returns
returns c = λ kind count octets sizes head are. (λ is. lace_in-found kind count octets sizes head are is, λ finds. lace_in-finds kind count octets sizes head finds)
