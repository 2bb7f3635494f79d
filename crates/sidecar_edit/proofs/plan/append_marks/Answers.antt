use Rattle.std.proofs.Common.{◌≡◌, ◌++◌, ◌-◌, ◌∙◌, ap, length}
use Rattle.byteorder.specs.Endian.{big_bytes}
use Rattle.sidecar_edit.specs.declared.place.TheConstants.{KEPT}
use Rattle.sidecar_edit.specs.Fields.{zeros}
use Rattle.sidecar_edit.proofs.PlanLemmas.{more}
use Rattle.sidecar_edit.proofs.plan.append_marks.Goals as goal

pub returns : goal.returns
returns c =
    let was = c.args.octets.now in
    let old_len = big_bytes 8 c.args.old_len in
    let rest = zeros (KEPT - length c.args.first.now) in
    let one : c.append.new.self ≡ was ++ old_len = c.in_ok-append.ensures.ok ∙ ap (λ bytes. was ++ bytes) c.to_be_bytes.ensures in
    let two : c.append-2.new.self ≡ c.append.new.self ++ c.args.first.now = c.in_ok-append-2.ensures.ok in
    let three : c.append-3.new.self ≡ c.append-2.new.self ++ rest = c.in_ok-append-3.ensures.ok ∙ ap (λ bytes. c.append-2.new.self ++ bytes) c.zeros_behind.ensures in
    more c.append-2.new.self c.append-3.new.self was (old_len ++ c.args.first.now) rest (more c.append.new.self c.append-2.new.self was old_len c.args.first.now one two) three
