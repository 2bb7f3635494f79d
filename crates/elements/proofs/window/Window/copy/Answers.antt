use Rattle.std.proofs.Common.{◌≡◌, length, drop, ◌∙◌}
use Rattle.std.proofs.lemmas.List.{length-take-le, take_at}
use Rattle.elements.proofs.WindowLemmas.{octets_from-held}
use Rattle.elements.proofs.window.Window.copy.Goals as goal

-- The held bytes are the file's.
pub returns-clause-copies : goal.returns-clause-copies
returns-clause-copies c = λ bytes holds.
    let long : length c.copy_from_slice.new.self ≡ c.args.len =
    c.copy_from_slice.ensures.len ∙ length-take-le c.args.len c.args.into.now c.requires.room in
    take_at c.copy_from_slice.new.self (drop c.args.len c.args.into.now) c.args.len long
    ∙ c.copy_from_slice.ensures.after ∙ c.octets_at.ensures
    ∙ octets_from-held bytes c.args.self.now c.args.at c.args.len holds c.requires.range
