use Rattle.std.proofs.Common.{◌∙◌, ap, arith}
use Rattle.std.proofs.lemmas.List.{take_rest}
use Rattle.sidecar_edit.specs.Fields.{first_in}
use Rattle.sidecar_edit.specs.Gate.{are_zeros}
use Rattle.sidecar_edit.proofs.ReadingLemmas.{padded_rest}
use Rattle.sidecar_edit.proofs.head.is_padded.Goals as goal

pub returns : goal.returns
returns c =
    c.are_zeros.ensures ∙ ap are_zeros (take_rest (first_in c.args.head.now) c.min-old_len.result)
    ∙ padded_rest c.args.head.now c.min-old_len.result c.if-head-ne2.false c.if-head-lt-HEAD.false
    (let old = c.number_at.ensures in let least = c.min-old_len.ensures in omega (arith, old, least))
