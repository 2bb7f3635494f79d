use Rattle.std.proofs.Common.{◌≡◌, ◌++◌, ◌∙◌, ap}
use Rattle.byteorder.specs.Endian.{big_bytes}
use Rattle.sidecar_edit.specs.Fields.{magic}
use Rattle.sidecar_edit.proofs.PlanLemmas.{more}
use Rattle.sidecar_edit.proofs.plan.append_front.Goals as goal

pub returns : goal.returns
returns c =
    let was = c.args.octets.now in
    let total = big_bytes 8 c.args.total in
    let new_len = big_bytes 8 c.args.new_len in
    let one : c.append.new.self ≡ was ++ magic = c.in_ok-append.ensures.ok in
    let two : c.append-2.new.self ≡ c.append.new.self ++ total = c.in_ok-append-2.ensures.ok ∙ ap (λ bytes. c.append.new.self ++ bytes) c.to_be_bytes.ensures in
    let three : c.append-3.new.self ≡ c.append-2.new.self ++ new_len = c.in_ok-append-3.ensures.ok ∙ ap (λ bytes. c.append-2.new.self ++ bytes) c.to_be_bytes-2.ensures in
    more c.append-3.new.self c.append-4.new.self was (magic ++ total ++ new_len) _
    (more c.append-2.new.self c.append-3.new.self was (magic ++ total) new_len (more c.append.new.self c.append-2.new.self was magic total one two) three)
    c.in_ok-append-4.ensures.ok
