use Rattle.std.proofs.Common.{◌∙◌}
use Rattle.elements.proofs.WindowLemmas.{octets_from-held}
use Rattle.elements.proofs.window.Window.fill.Goals as goal

-- The held bytes of a body are the file's.
pub returns-then-has-clause-ok : goal.returns-then-has-clause-ok
returns-then-has-clause-ok g c = λ bytes told.
    c.copy_from_slice.ensures.after ∙ c.octets_at.ensures
    ∙ octets_from-held bytes c.args.self.now c.args.at _ (c.requires.holds bytes told) (c.has.ensures.0 c.if-has.true)
