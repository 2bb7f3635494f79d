use Rattle.std.proofs.Common.{ℕ, ◌-◌, ap, ◌∙◌}
use Rattle.crc32.proofs.RegisterLemmas.{complement_twice}
use Rattle.crc32.proofs.checksum.Crc32.update.Goals as goal

pub returns : goal.returns
returns c = λ before value.
    ap (λ (x : ℕ). 4294967295 - x) c.after_bytes.ensures
    ∙ complement_twice c.self.inside.value before c.args.bytes.now (c.self.view_is ∙ value)
