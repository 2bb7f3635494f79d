use Rattle.std.proofs.Common.{Bool, ◌∷◌, refl, sym, ap, subst, ◌∙◌}
use Rattle.std.proofs.lemmas.Result.{err_from_is_err_and}
use Rattle.cluster_writer.specs.Gathered.{Gathered}
use Rattle.cluster_writer.specs.Lent.{block_of}
use Rattle.cluster_writer.proofs.BufferLemmas.{joins-held}
use Rattle.remuxer.specs.Stands.{Stands, counted_with}
use Rattle.remuxer.proofs.StandsLemmas.{stands-cued, stands-drafted, stands-kept, stands-room}
use Rattle.remuxer.proofs.run.add_block.Goals as goal

pub returns-in_err-reserve-clause-adds : goal.returns-in_err-reserve-clause-adds
returns-in_err-reserve-clause-adds g c =
    let p = err_from_is_err_and c.from_residual.result c.from_residual.ensures.1 in
    rw p.1 (λ before name rules d n left stands. stands-drafted g.F.Reads g.F.Files before name rules d c.args.files.now c.args.out.now c.args.buffer.now n (block_of c.args.block.now ∷ left) stands)

pub returns-in_err-make_room-clause-adds : goal.returns-in_err-make_room-clause-adds
returns-in_err-make_room-clause-adds g c =
    let p = err_from_is_err_and c.from_residual-in_err-make_room.result c.from_residual-in_err-make_room.ensures.1 in
    let b = block_of c.args.block.now in
    rw p.1 (λ before name rules d n left stands.
    c.in_err-make_room.ensures.makes before name rules d n left
    (stands-room g.F.Reads g.F.Files before name rules d c.args.files.now c.args.out.now c.args.buffer.now c.reserve.new.self n (b ∷ left) c.reserve.ensures.holds (ap (λ (x : Gathered). x.limits) c.reserve.ensures.same) stands))

-- There is no memory for the point.
pub returns-in_err-cue-clause-adds : goal.returns-in_err-cue-clause-adds
returns-in_err-cue-clause-adds g c =
    let p = err_from_is_err_and c.from_residual-in_err-cue.result c.from_residual-in_err-cue.ensures.1 in
    let b = block_of c.args.block.now in
    rw p.1 (λ before name rules d n left stands.
    stands-drafted g.F.Reads g.F.Files before name rules d c.make_room.new.files c.make_room.new.out c.make_room.new.buffer n (b ∷ left)
    (c.in_ok-make_room.ensures.makes before name rules d n left
    (stands-room g.F.Reads g.F.Files before name rules d c.args.files.now c.args.out.now c.args.buffer.now c.reserve.new.self n (b ∷ left) c.reserve.ensures.holds (ap (λ (x : Gathered). x.limits) c.reserve.ensures.same) stands)))

-- The block is in the buffer, and its point is kept.
pub returns-in_ok-cue-clause-adds : goal.returns-in_ok-cue-clause-adds
returns-in_ok-cue-clause-adds g c = λ before name rules d n left cued stands.
    let b = block_of c.args.block.now in
    let buffer = c.make_room.new.buffer in
    let roomy = c.in_ok-make_room.ensures.makes before name rules d n left
    (stands-room g.F.Reads g.F.Files before name rules d c.args.files.now c.args.out.now c.args.buffer.now c.reserve.new.self n (b ∷ left) c.reserve.ensures.holds (ap (λ (x : Gathered). x.limits) c.reserve.ensures.same) stands) in
    let fits = sym (joins-held buffer roomy.cluster b c.args.block.now.tick c.lengths-lengths.result.whole roomy.holds refl (sym c.lengths-lengths.ensures.whole)) ∙ c.in_ok-make_room.ensures.room.joins in
    let empties = c.is_empty-begins.ensures in
    let P : Bool → Type 0 = λ t. Stands g.F.Reads g.F.Files before name rules d c.make_room.new.files c.cue.new.self c.put_measured-relative.new.self (counted_with c.is_empty-begins.result t n) left in
    subst P (sym c.if-cued.true)
    (stands-cued g.F.Reads g.F.Files before name rules d c.make_room.new.files c.make_room.new.out buffer c.put_measured-relative.new.self b n left c.is_empty-begins.result c.cue.new.self c.put_measured-relative.result roomy empties fits
    c.put_measured-relative.ensures.holds c.put_measured-relative.ensures.added.limits (sym cued ∙ c.if-cued.true) c.put_measured-relative.ensures.place
    c.in_ok-cue.ensures.ok (λ most. (c.in_ok-cue.ensures.full most).1))

-- The block is in the buffer.
pub returns-else-cued-clause-adds : goal.returns-else-cued-clause-adds
returns-else-cued-clause-adds g c = λ before name rules d n left cued stands.
    let b = block_of c.args.block.now in
    let buffer = c.make_room.new.buffer in
    let roomy = c.in_ok-make_room.ensures.makes before name rules d n left
    (stands-room g.F.Reads g.F.Files before name rules d c.args.files.now c.args.out.now c.args.buffer.now c.reserve.new.self n (b ∷ left) c.reserve.ensures.holds (ap (λ (x : Gathered). x.limits) c.reserve.ensures.same) stands) in
    let fits = sym (joins-held buffer roomy.cluster b c.args.block.now.tick c.lengths-lengths.result.whole roomy.holds refl (sym c.lengths-lengths.ensures.whole)) ∙ c.in_ok-make_room.ensures.room.joins in
    let empties = c.is_empty-begins.ensures in
    let P : Bool → Type 0 = λ t. Stands g.F.Reads g.F.Files before name rules d c.make_room.new.files c.make_room.new.out c.put_measured-relative.new.self (counted_with c.is_empty-begins.result t n) left in
    subst P (sym c.if-cued.false)
    (stands-kept g.F.Reads g.F.Files before name rules d c.make_room.new.files c.make_room.new.out buffer c.put_measured-relative.new.self b n left c.is_empty-begins.result roomy empties fits
    c.put_measured-relative.ensures.holds c.put_measured-relative.ensures.added.limits (sym cued ∙ c.if-cued.false))
