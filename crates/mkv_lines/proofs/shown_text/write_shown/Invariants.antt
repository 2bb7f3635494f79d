use Rattle.std.proofs.Common.{flat_map}
use Rattle.std.specs.Fmt.{HasWritten, IsPlainFormatter}
use Rattle.mkv_lines.specs.Shown.{shown_char}
use Rattle.mkv_lines.proofs.shown_text.write_shown.Given as goal

-- The characters that were passed have been written in their form.
abbrev pub invariant-loop-c : goal.invariant-loop-c
invariant-loop-c g l =
    IsPlainFormatter l.initial.f → HasWritten g.W.Write.write_str_gives l.initial.f (flat_map shown_char l.yielded) l.f
