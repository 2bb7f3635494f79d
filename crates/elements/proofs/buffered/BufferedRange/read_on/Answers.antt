use Rattle.std.proofs.Common.{◌≤◌, ◌-◌, length, arith}
use Rattle.elements.proofs.HeldLemmas.{held-behind, put-length}
use Rattle.elements.proofs.buffered.BufferedRange.read_on.Goals as goal

-- The bytes that were read follow the bytes that were held.
pub returns-clause-holds : goal.returns-clause-holds
returns-clause-holds g c =
    let buf = c.args.buffer.now in
    let held = c.args.self.now in
    let sub = c.read_ahead.new.buffer in
    let count = c.in_ok-count.count in
    let more = c.args.wanted - held.len in
    let within = c.requires.holds.fits in
    let few : count ≤ length sub = omega (arith, c.in_ok-count.ensures.count, c.read_ahead.auto.buffer) in
    record {
      fits = put-length buf sub held.len more count within few;
      told = λ bytes told. held-behind bytes buf sub held.at held.len more count within few (c.requires.holds.told bytes told) (c.in_ok-count.ensures.ok bytes told);
    }
