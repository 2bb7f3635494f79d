use Rattle.std.proofs.Common.{◌≡◌, length, sym, ◌∙◌, ap, arith}
use Rattle.std.proofs.lemmas.Grind.{common_steps}
use Rattle.std.proofs.lemmas.List.{drop-take, take_at}
use Rattle.mkv_io.specs.Contents.{octets_from}
use Rattle.mkv_schema.specs.Element.{known}
use Rattle.element_reader.proofs.loading.load.Goals as goal

-- The bytes are the body's.
pub returns-clause-ok : goal.returns-clause-ok
returns-clause-ok g c = λ bytes told.
    let h = c.args.header.now in
    let len : length c.deref_mut.result.now ≡ c.in-Ok.body.len = c.deref_mut.ensures.len in
    let asked : length c.deref_mut.result.now ≡ known h.size = grind (arith, common_steps, c.in-Ok.ensures.len, c.known-len.ensures, len) in
    let count : length c.read_at.new.into ≡ c.in-Ok.body.len = c.read_at.auto.into ∙ len in
    c.from_vec.ensures ∙ take_at c.read_at.new.into _ c.in-Ok.body.len count
    ∙ c.in-Ok-read_at.ensures.ok bytes told ∙ ap (octets_from bytes h.body) asked
    ∙ sym (drop-take h.body (known h.size) bytes)
