use Rattle.std.proofs.Common.{◌≡◌, ◌∙◌, ap, sym, subst, length, List, ℕ}
use Rattle.mkv_disk.specs.Image.{written_at}
use Rattle.mkv_disk.specs.Moments.{LeavesOnly}
use Rattle.mkv_disk.specs.Pair.{Pair, IsPairImage, on}
use Rattle.mkv_disk.proofs.MomentsLemmas.{after_same}
use Rattle.mkv_io.specs.Contents.{octets_from}
use Rattle.sidecar_edit.specs.Copies.{with_copy}
use Rattle.sidecar_edit.proofs.copying.copy_piece.Goals as goal

-- A read leaves the pair, and the contents that a crash may leave.
pub returns-clause-any_moment : goal.returns-clause-any_moment
returns-clause-any_moment g c = λ told.
    let old = c.args.disk.now in let mid = c.read_at.new.self in
    let stands = c.in_ok-read_at.ensures.standing in let laws = g.met.D.Disk in
    let part = c.in_ok-read_at.ensures.ok (g.D.Disk.pair old).sidecar.reads (laws.contents old told).1 in
    let same : on 0 (written_at c.args.at c.read_at.new.into) (g.D.Disk.pair mid) ≡ with_copy (g.D.Disk.pair old) c.args.from c.args.at (length c.args.part.now)
    = ap (λ (b : List ℕ). on 0 (written_at c.args.at b) (g.D.Disk.pair mid)) part
    ∙ ap (λ (p : Pair). on 0 (written_at c.args.at (octets_from (g.D.Disk.pair old).sidecar.reads c.args.from (length c.args.part.now))) p) (laws.pair_stands mid old stands) in
    after_same _ _ old mid c.write_at.new.self _ (laws.moment_stands mid old stands) (λ t m s. laws.left_stands mid old t m s stands) (λ t m s. laws.left_stands old mid t m s (sym stands))
    (subst (λ (p : Pair). LeavesOnly g.D.Disk.moment g.D.Disk.left_since mid c.write_at.new.self (IsPairImage p)) same (c.write_at.ensures.any_moment told))
