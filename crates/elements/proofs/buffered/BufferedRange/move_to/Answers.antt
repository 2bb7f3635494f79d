use Rattle.std.proofs.Common.{ℕ, ◌+◌, ◌-◌, nat_lt, ◌||◌, List, length, take, drop, ◌∙◌, ap}
use Rattle.elements.specs.Window.{ReadAhead}
use Rattle.elements.proofs.HeldLemmas.{last-kept}
use Rattle.elements.proofs.buffered.BufferedRange.move_to.Goals as goal

-- The bytes that were held from the offset on are at the start of the buffer.
pub returns-clause-keeps : goal.returns-clause-keeps
returns-clause-keeps c =
    let buf = c.args.buffer.now in
    let held = c.args.self.now in
    let kept = c.kept_at-kept.result in
    let rest = drop (0 + (held.len - (held.len - kept))) buf in
    let same = ap (take kept) c.copy_within.ensures.after
    ∙ last-kept (nat_lt c.args.at held.at || nat_lt c.args.total (held.at + length (take held.len buf))) buf rest held.len kept (c.args.at - held.at) c.requires.fits c.kept_at-kept.ensures.exact in
    let as_held : List ℕ → ReadAhead = λ o. record { at = c.args.at; octets = o } in
    ap as_held same
