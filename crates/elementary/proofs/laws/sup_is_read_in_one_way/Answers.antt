use Rattle.std.proofs.Common.{◌∙◌, sym}
use Rattle.elementary.proofs.SupLemmas.{sup-one_way, sup-holds}
use Rattle.elementary.proofs.laws.sup_is_read_in_one_way.Goals as goal

pub returns : goal.returns
returns c = record {
  one_way = λ octets a b is_a is_b. sup-one_way a b is_a.each is_b.each (sym is_a.join ∙ is_b.join);
  holds = sup-holds;
}
