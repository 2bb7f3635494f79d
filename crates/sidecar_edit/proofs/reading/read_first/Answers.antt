use Rattle.std.proofs.Common.{◌≡◌, ◌∙◌, min, ap, take, drop, length, arith}
use Rattle.std.proofs.lemmas.List.{length-take-le, take_at, take_min}
use Rattle.sidecar_edit.proofs.reading.read_first.Goals as goal

-- The number of bytes that are read is the number that there are.
pub returns-clause-ok : goal.returns-clause-ok
returns-clause-ok g c = λ bytes told.
    let n = length c.args.first.now in
    let size = g.met.R.Reads.told_size (g.R.Reads.standing c.args.src.now) c.args.file.n bytes told in
    let exact = c.size.ensures.exact in let least = c.min-count.ensures in
    let count : c.min-count.result ≡ min n (length bytes) = omega (arith, size, exact, least) in
    let room : length (take c.min-count.result c.args.first.now) ≡ c.min-count.result = length-take-le c.min-count.result c.args.first.now (omega (arith, count)) in
    let into : c.read_at.new.into ≡ take c.min-count.result bytes = c.in_ok-read_at.ensures.ok bytes told ∙ ap (λ k. take k bytes) room in
    let filled : length c.read_at.new.into ≡ c.min-count.result = ap length into ∙ length-take-le c.min-count.result bytes (omega (arith, count)) in
    take_at c.read_at.new.into (drop c.min-count.result c.args.first.now) c.min-count.result filled
    ∙ into ∙ ap (λ k. take k bytes) count ∙ take_min n bytes
