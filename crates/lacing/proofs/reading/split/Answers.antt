-- Sizes that were read are a lace, and if none are read, there is no lace.
use Rattle.std.proofs.Common.{◌≡◌, true, ◌∙◌, ap, sym, arith}
use Rattle.ebml_numbers.specs.Number.{AreOctets}
use Rattle.lacing.specs.Reading.{frame_sizes_in, is_frame_count}
use Rattle.lacing.proofs.LaceLemmas.{lace_in-frames, lace_in-uncounted, lace_in-found, lace_in-none}
use Rattle.lacing.proofs.reading.split.Goals as goal

pub returns-then-not-is_frame_count-clause-read : goal.returns-then-not-is_frame_count-clause-read
returns-then-not-is_frame_count-clause-read c =
    (lace_in-uncounted c.args.kind c.args.count c.args.bytes.now (sym c.if-not-is_frame_count.ensures), c.clear.ensures.items)

pub returns-in-Some-clause-read : goal.returns-in-Some-clause-read
returns-in-Some-clause-read c =
    let counted : is_frame_count c.args.count ≡ true = sym c.if-not-is_frame_count.ensures in
    lace_in-frames c.args.kind c.args.count c.args.bytes.now counted
    ∙ ap (λ n. frame_sizes_in c.args.kind n c.args.bytes.now) (sym c.from-count.ensures) ∙ c.in-Some.ensures.read

pub returns-in-Some-clause-found : goal.returns-in-Some-clause-found
returns-in-Some-clause-found c =
    let octets : AreOctets c.args.bytes.now = λ i. omega (arith, c.type_inv.bytes i) in
    lace_in-found c.args.kind c.args.count c.args.bytes.now c.frames.new.sizes.items c.in-Some.head octets (returns-in-Some-clause-read c)

pub returns-in-None-clause-read : goal.returns-in-None-clause-read
returns-in-None-clause-read c =
    let counted : is_frame_count c.args.count ≡ true = sym c.if-not-is_frame_count.ensures in (
      lace_in-frames c.args.kind c.args.count c.args.bytes.now counted
          ∙ ap (λ n. frame_sizes_in c.args.kind n c.args.bytes.now) (sym c.from-count.ensures) ∙ c.in-None.ensures.read,
      c.clear-in-None.ensures.items,
    )

pub returns-in-None-clause-bad : goal.returns-in-None-clause-bad
returns-in-None-clause-bad c = λ _. lace_in-none c.args.kind c.args.count c.args.bytes.now (returns-in-None-clause-read c).0
