use Rattle.element_reader.proofs.LevelOneLemmas.{left-behind}
use Rattle.element_reader.proofs.level_one.LevelOne.next.Goals as goal

-- The Element is the first of the Elements that were left.
pub returns-in-Element-clause-ok : goal.returns-in-Element-clause-ok
returns-in-Element-clause-ok g c = λ bytes told.
    let now = rw (← c.self.view_is) at told in
    let steps = rw c.in-Element.is at (c.in-Ok.ensures.ok bytes now) in
    rw (← c.self.view_is, c.unwrap_or-self-inside.ensures)
    (left-behind bytes c.self.inside.size c.self.inside.at c.self.inside.end c.in-Element.header c.in-Element.next steps)
