-- Marker and data take at most eight bits for each byte.
use Rattle.std.proofs.Common.{ℕ, suc, ◌+◌, ◌*◌, ◌^◌, ◌≤◌, ◌++◌, ◌∙◌, ap, arith}
use Rattle.std.proofs.Math.Nat.{pow-suc}
use Rattle.std.proofs.Math.Pow.{pow_mono}
use Rattle.byteorder.specs.Endian.{big_bytes}
use Rattle.ebml_numbers.specs.Number.{size_at}
use Rattle.ebml_numbers.proofs.WidthLemmas.{pow256}
use Rattle.ebml_numbers.proofs.NumberLemmas.{size_at-octets}
use Rattle.ebml_numbers.proofs.writing.put_size.Goals as goal

pub big_endian-requires-clause-fits : goal.big_endian-requires-clause-fits
big_endian-requires-clause-fits c =
    let w = c.args.width in
    let twice = pow-suc 2 (7 * w) in
    let room : 2 ^ suc (7 * w) ≤ 2 ^ (8 * w) = pow_mono (omega arith) in
    omega (arith, pow256 w)

pub returns-clause-read : goal.returns-clause-read
returns-clause-read c = λ rest.
    let marked = ap (λ (x : ℕ). big_bytes c.args.width (x + c.args.value)) c.marker.ensures in
    ap (λ o. size_at (o ++ rest)) (c.big_endian.ensures.octets ∙ marked)
    ∙ size_at-octets c.args.value c.args.width rest c.requires.some c.requires.most c.requires.fits
