use Rattle.std.proofs.Common.{sym, subst, arith}
use Rattle.std.proofs.lemmas.List.{length-take-le}
use Rattle.elements.specs.Held.{held_in}
use Rattle.elements.specs.Window.{ReadAhead, Holds}
use Rattle.elements.proofs.HeldLemmas.{kept-held, kept-less, read_on-goes}
use Rattle.elements.proofs.buffered.BufferedRange.hold.Goals as goal

-- The kept bytes are in the file, and are fewer than requested.
pub read_on-requires-clause-inside : goal.read_on-requires-clause-inside
read_on-requires-clause-inside g c = omega (arith, c.move_to.ensures.place, c.move_to.ensures.within, c.size.ensures.exact, c.requires.range)

pub read_on-requires-clause-more : goal.read_on-requires-clause-more
read_on-requires-clause-more g c =
    let less = kept-less (held_in c.args.self.now c.args.buffer.now) c.args.at c.args.len c.move_to.new.self.len (λ range. cc (c.has.ensures.1 range, c.if-has.false)) c.move_to.ensures.held in
    let enough = c.wanted_at-wanted.ensures.least c.requires.few in
    omega (arith, less, enough)

pub read_on-requires-clause-holds : goal.read_on-requires-clause-holds
read_on-requires-clause-holds g c = record {
  fits = c.move_to.ensures.fits;
  told = λ bytes told.
      subst (λ (w : ReadAhead). Holds bytes w) (sym c.move_to.ensures.keeps) (kept-held bytes (held_in c.args.self.now c.args.buffer.now) c.size.result c.args.at (c.requires.holds.told bytes told));
}

-- The move of the window pays for the bytes that were read.
pub returns-clause-goes : goal.returns-clause-goes
returns-clause-goes g c =
    let held = c.read_on.new.self in
    read_on-goes g.R.Reads c.args.file c.args.at c.args.len c.wanted_at-wanted.result c.size.result c.move_to.new.self.at c.move_to.new.self.len held.len
    (held_in c.args.self.now c.args.buffer.now) (held_in held c.read_on.new.buffer) c.args.src.now c.read_on.new.src c.read_on.result
    c.requires.range c.size.ensures.exact c.move_to.ensures.place c.move_to.ensures.count (length-take-le held.len c.read_on.new.buffer c.read_on.ensures.holds.fits)
    c.read_on.ensures.ok c.read_on.ensures.octets
