use Rattle.std.proofs.Common.{◌∙◌, sym, ap, flat_map}
use Rattle.std.proofs.Output.{has_written_of_eq}
use Rattle.std.proofs.lemmas.List.{map-id}
use Rattle.std.proofs.lemmas.Iterator.{YieldsList-from_chars}
use Rattle.std.proofs.lemmas.Iterator.Consumers.{YieldsList-end}
use Rattle.mkv_lines.specs.Shown.{shown_char}
use Rattle.mkv_lines.proofs.shown_text.write_shown.Goals as goal

-- All characters are written.
pub returns : goal.returns
returns g c = λ plain ok.
    let t = YieldsList-end (YieldsList-from_chars c.args.text.now c.utf8.text cc) c.loop-c.yielded _ c.loop-c.yielded_by _ _ c.in-None.is c.next.ensures.steps in
    has_written_of_eq _ _ _ _ _ (ap (flat_map shown_char) (sym (map-id c.loop-c.yielded) ∙ t.0)) (c.loop-c.invariant plain)
