use Rattle.std.proofs.Common.{◌≡◌, length, ◌∙◌, sym, ap}
use Rattle.elements.specs.Parent.{setting_of}
use Rattle.elements.specs.Held.{held_in}
use Rattle.elements.proofs.WindowLemmas.{element_at-held}
use Rattle.elements.proofs.buffered.BufferedRange.element.Goals as goal

-- The held bytes of the file are enough for a header.
pub returns-clause-ok : goal.returns-clause-ok
returns-clause-ok g c = λ bytes told.
    let total : c.size-total.result ≡ length bytes =
    c.size-total.ensures.exact ∙ ap (λ s. (g.R.Reads.files s).size c.args.file.n) c.hold.ensures.same.standing
    ∙ sym (g.met.R.Reads.told_size (g.R.Reads.standing c.args.src.now) c.args.file.n bytes told) in
    c.read_header.ensures.exact
    ∙ element_at-held (setting_of c.args.parent) bytes (held_in c.hold.new.self c.hold.new.buffer) c.octets_at-octets.result.now c.size-total.result c.args.at c.args.end c.header_room-len.result
    (c.hold.ensures.holds.told bytes told) c.in_ok-hold.ensures.looks.range c.octets_at-octets.ensures total c.requires.place c.header_room-len.ensures
