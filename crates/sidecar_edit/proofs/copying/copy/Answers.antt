use Rattle.std.proofs.Common.{◌≡◌, ◌+◌, ◌∙◌, subst, sym, arith, length, take, drop, ℕ, length-append, length-drop}
use Rattle.std.proofs.lemmas.List.{length-take-le}
use Rattle.mkv_disk.specs.Pair.{Pair}
use Rattle.mkv_disk.proofs.MomentsLemmas.{followed}
use Rattle.sidecar_edit.proofs.CopiesLemmas.{Copied, copied-more, piece_image}
use Rattle.sidecar_edit.proofs.copying.copy.Goals as goal

pub returns-in_err-copy_piece-clause-any_moment : goal.returns-in_err-copy_piece-clause-any_moment
returns-in_err-copy_piece-clause-any_moment g c = λ told.
    let old = g.D.Disk.pair c.args.disk.now in let mid = g.D.Disk.pair c.loop-done.disk in let n = c.loop-done.done in
    let size = g.met.D.Reads.told_size (g.D.Reads.standing c.args.disk.now) 1 old.sidecar.reads (g.met.D.Disk.contents c.args.disk.now told).1 in
    let room = c.loop-done.invariant.room in let least = c.min-step.ensures in let range = c.requires.range in let below = c.loop-done-test.true in
    let part : length (take c.min-step.result c.loop-done.buffer) ≡ c.min-step.result = length-take-le c.min-step.result c.loop-done.buffer (omega arith) in
    followed _ _ _ _ _ _ _ (λ m s image. piece_image c.args.from c.args.place.at old n (length (take c.min-step.result c.loop-done.buffer)) mid (c.requires.inside told) (omega arith) (c.loop-done.invariant.copied told)
    c.args.place.len m s (omega arith) (omega arith) image) (c.loop-done.invariant.moments told) (c.copy_piece.ensures.any_moment told)

pub loop-done-preserved : goal.loop-done-preserved
loop-done-preserved g c =
    let old = g.D.Disk.pair c.args.disk.now in let mid = g.D.Disk.pair c.loop-done.disk in let n = c.loop-done.done in
    let room = c.loop-done.invariant.room in let least = c.min-step.ensures in let range = c.requires.range in let below = c.loop-done-test.true in
    let part : length (take c.min-step.result c.loop-done.buffer) ≡ c.min-step.result = length-take-le c.min-step.result c.loop-done.buffer (omega arith) in
    let was = c.loop-done.invariant in let now = c.copy_piece.ensures in
    record {
      room = let same = c.copy_piece.auto.part in let left = length-drop c.min-step.result c.loop-done.buffer in length-append c.copy_piece.new.part (drop c.min-step.result c.loop-done.buffer) ∙ omega arith;
      within = omega arith;
      copied = λ told.
          let size = g.met.D.Reads.told_size (g.D.Reads.standing c.args.disk.now) 1 old.sidecar.reads (g.met.D.Disk.contents c.args.disk.now told).1 in
          let more = copied-more c.args.from c.args.place.at old n (length (take c.min-step.result c.loop-done.buffer)) mid (c.requires.inside told) (omega arith) (was.copied told) in
          subst (λ (k : ℕ). Copied c.args.from c.args.place.at old (n + k) (g.D.Disk.pair c.copy_piece.new.disk)) part
          (subst (λ (q : Pair). Copied c.args.from c.args.place.at old (n + length (take c.min-step.result c.loop-done.buffer)) q) (sym (c.in_ok-copy_piece.ensures.ok told)) more);
      moments = λ told.
          let size = g.met.D.Reads.told_size (g.D.Reads.standing c.args.disk.now) 1 old.sidecar.reads (g.met.D.Disk.contents c.args.disk.now told).1 in
          followed _ _ _ _ _ _ _ (λ m s image. piece_image c.args.from c.args.place.at old n (length (take c.min-step.result c.loop-done.buffer)) mid (c.requires.inside told) (omega arith) (was.copied told)
          c.args.place.len m s (omega arith) (omega arith) image) (was.moments told) (now.any_moment told);
      only = record {
        live = λ file. now.only.live file ∙ was.only.live file;
        opened = now.only.opened ∙ was.only.opened;
        least = let more = now.only.least in let before = was.only.least in omega arith;
        most = let more = now.only.most in let before = was.only.most in omega arith;
      };
      beside = now.beside ∙ was.beside;
      faults = record { reading = c.in_ok-copy_piece.ensures.cause.reading ∙ was.faults.reading; writing = c.in_ok-copy_piece.ensures.cause.writing ∙ was.faults.writing };
    }
