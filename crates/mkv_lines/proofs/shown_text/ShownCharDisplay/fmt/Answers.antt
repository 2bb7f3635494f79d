use Rattle.std.proofs.Common.{◌<◌, ◌≤◌, ◌∙◌, ap, arith}
use Rattle.std.proofs.Output.{has_written_of_eq}
use Rattle.mkv_lines.specs.Shown.{shown_char}
use Rattle.mkv_lines.proofs.ShownLemmas.{shown_char-two}
use Rattle.mkv_lines.proofs.shown_text.ShownCharDisplay.fmt.Goals as goal

-- These are the bytes of a control character from U+0080 on.
pub returns-in-128-to-159-clause-writes : goal.returns-in-128-to-159-clause-writes
returns-in-128-to-159-clause-writes g c = λ plain ok.
    let low : 0x80 ≤ c.from.result = omega arith in
    let high : c.from.result < 0xA0 = omega arith in
    has_written_of_eq _ _ _ _ _ (shown_char-two c.from.result low high ∙ ap shown_char c.from.ensures) (c.write.ensures.writes plain ok)
