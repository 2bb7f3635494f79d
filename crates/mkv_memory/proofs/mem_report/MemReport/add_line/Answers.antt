use Rattle.std.proofs.Common.{◌≡◌, ◌+◌, ◌∷◌, ◌++◌, [], length, arith, rules}
use Rattle.std.proofs.lemmas.Grind.{common_steps}
use Rattle.std.specs.String.{string_bytes}
use Rattle.mkv_memory.proofs.CutsLemmas.{IsCut-grown, lines_between-grown}
use Rattle.mkv_memory.proofs.mem_report.MemReport.add_line.Goals as goal

pub invariant_of-self : goal.invariant_of-self
invariant_of-self c =
    let old = c.args.self.now in
    let text : string_bytes c.push_str.new.self ≡ string_bytes old.text ++ c.args.line.now = search rules in
    let cuts : c.push.new.self.items ≡ old.cuts.items ++ (length (string_bytes old.text) + length c.args.line.now) ∷ [] = grind (arith, common_steps) in
    let cut = IsCut-grown (string_bytes old.text) _ old.cuts.items _ c.args.line.now (record { text_is = text; cuts_are = cuts }) c.utf8.line (record { boundaries = old.boundaries; ordered = old.ordered; end = old.end }) in
    record { boundaries = cut.boundaries; ordered = cut.ordered; end = cut.end; room_for_lines = grind (arith, common_steps); room_for_octets = grind (arith, common_steps) }

pub returns : goal.returns
returns c =
    let old = c.args.self.now in
    let text : string_bytes c.push_str.new.self ≡ string_bytes old.text ++ c.args.line.now = search rules in
    let cuts : c.push.new.self.items ≡ old.cuts.items ++ (length (string_bytes old.text) + length c.args.line.now) ∷ [] = grind (arith, common_steps) in
    let lines = lines_between-grown (string_bytes old.text) _ old.cuts.items _ c.args.line.now (record { text_is = text; cuts_are = cuts }) (record { boundaries = old.boundaries; ordered = old.ordered; end = old.end }) in
    grind (arith, common_steps)
