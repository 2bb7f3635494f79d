use Rattle.std.proofs.Common.{◌≡◌, ℕ, List, take, ◌∙◌, ap}
use Rattle.elements.specs.Held.{held_in}
use Rattle.elements.specs.Window.{ReadAhead, front_from}
use Rattle.elements.proofs.HeldLemmas.{front-held}
use Rattle.elements.proofs.window.Window.front_at.Goals as goal

-- The held bytes are the file's.
pub returns-clause-held : goal.returns-clause-held
returns-clause-held c = λ bytes holds.
    let exact : c.front_at.result.now ≡ take c.args.most (front_from c.args.self.now c.args.at) =
    c.front_at.ensures.exact
    ∙ ap (λ (o : List ℕ). take c.args.most (front_from (held_in c.self.inside.held o) c.args.at)) c.deref.ensures.value
    ∙ ap (λ (w : ReadAhead). take c.args.most (front_from w c.args.at)) c.self.view_is in
    front-held bytes c.args.self.now c.args.at c.args.most _ exact holds
