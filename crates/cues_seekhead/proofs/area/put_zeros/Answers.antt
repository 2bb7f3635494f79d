use Rattle.std.proofs.Common.{◌++◌, ap, ◌∙◌}
use Rattle.std.proofs.lemmas.List.{take-replicate}
use Rattle.cues_seekhead.proofs.area.put_zeros.Goals as goal

pub returns : goal.returns
returns c = record { ok = c.in_ok-append.ensures.ok ∙ ap (λ w. c.args.out.now ++ w) (take-replicate c.args.count 256 0 c.requires) }
