use Rattle.std.proofs.Common.{◌≡◌, List, ℕ, length, sym, ◌∙◌, ap, arith}
use Rattle.std.proofs.lemmas.Grind.{common_steps}
use Rattle.std.proofs.lemmas.List.{take_at}
use Rattle.mkv_io.specs.Contents.{octets_from}
use Rattle.input_files.proofs.reading.read_whole.Goals as goal

all-from : (bytes : List ℕ) → octets_from bytes 0 (length bytes) ≡ bytes
all-from bytes = grind (arith, common_steps)

-- The bytes are the whole file.
pub returns-clause-ok : goal.returns-clause-ok
returns-clause-ok g c = λ bytes told.
    let len : length c.deref_mut.result.now ≡ c.in_ok-octets.octets.len = c.deref_mut.ensures.len in
    let asked : length c.deref_mut.result.now ≡ c.size-size.result = grind (arith, common_steps, c.in_ok-octets.ensures.len, len) in
    let count : length c.read_at.new.into ≡ c.in_ok-octets.octets.len = c.read_at.auto.into ∙ len in
    let size : length bytes ≡ c.size-size.result = g.met.R.Reads.told_size (g.R.Reads.standing c.args.src.now) c.args.file.n bytes told ∙ sym c.size-size.ensures.exact in
    c.from_vec.ensures ∙ take_at c.read_at.new.into _ c.in_ok-octets.octets.len count
    ∙ c.in-Ok.ensures.ok bytes told ∙ ap (octets_from bytes 0) (asked ∙ sym size) ∙ all-from bytes
