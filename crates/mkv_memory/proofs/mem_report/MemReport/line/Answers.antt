use Rattle.std.proofs.Common.{sym, ◌∙◌, ap, Some, arith}
use Rattle.std.proofs.lemmas.Grind.{common_steps}
use Rattle.std.specs.String.{string_bytes}
use Rattle.mkv_memory.proofs.CutsLemmas.{line-at, line-past}
use Rattle.mkv_memory.proofs.mem_report.MemReport.line.Goals as goal

pub returns-then-k-len : goal.returns-then-k-len
returns-then-k-len c = sym (line-past (string_bytes c.args.self.now.text) c.args.self.now.cuts.items c.args.k c.args.self.now.end.0 (omega arith))

pub returns : goal.returns
returns c = ap Some (grind (arith, common_steps)) ∙ sym (line-at (string_bytes c.args.self.now.text) c.args.self.now.cuts.items c.args.k (omega arith))
