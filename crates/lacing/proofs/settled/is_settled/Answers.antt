-- Each kind has its own test.
use Rattle.std.proofs.Common.{◌≡◌, ◌-◌, true, None, sym, ap, ◌∙◌}
use Rattle.lacing.specs.Reading.{is_frame_count, sizes_in, with_last}
use Rattle.lacing.specs.Settled.{has_head_within, with_zeros}
use Rattle.lacing.proofs.SettledLemmas.{is_settled-uncounted, is_settled-none, is_settled-fixed, is_settled-spelled}
use Rattle.lacing.proofs.settled.is_settled.Goals as goal

pub returns-then-not-is_frame_count : goal.returns-then-not-is_frame_count
returns-then-not-is_frame_count c = sym (is_settled-uncounted c.args.kind c.args.count c.args.front.now c.args.len (sym c.if-not-is_frame_count.ensures))

pub returns-in-None : goal.returns-in-None
returns-in-None c =
    let counted : is_frame_count c.args.count ≡ true = sym c.if-not-is_frame_count.ensures in
    rw c.in-None.is (sym (is_settled-none c.args.count c.args.front.now c.args.len counted))

pub returns-in-Fixed : goal.returns-in-Fixed
returns-in-Fixed c =
    let counted : is_frame_count c.args.count ≡ true = sym c.if-not-is_frame_count.ensures in
    rw (c.in-Fixed.is, c.from.ensures) (sym (is_settled-fixed c.args.count c.args.front.now c.args.len counted c.requires.inside))

pub returns-in-Xiph : goal.returns-in-Xiph
returns-in-Xiph c =
    let counted : is_frame_count c.args.count ≡ true = sym c.if-not-is_frame_count.ensures in
    c.settles_sizes.ensures ∙ ap (λ n. has_head_within c.args.front.now (with_last c.args.len (sizes_in c.args.kind (n - 1) None (with_zeros c.args.front.now c.args.len)))) c.from-in-Xiph.ensures
    ∙ sym (is_settled-spelled c.args.kind c.args.count c.args.front.now c.args.len c.in-Xiph.is counted c.requires.inside)
