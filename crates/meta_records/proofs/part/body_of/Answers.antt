-- The bytes that were read are the body.
use Rattle.std.proofs.Common.{◌≡◌, length, sym, ◌∙◌, ap, arith}
use Rattle.std.proofs.lemmas.Grind.{common_steps}
use Rattle.std.proofs.lemmas.List.{drop-take, take_at}
use Rattle.mkv_io.specs.Contents.{octets_from}
use Rattle.mkv_schema.specs.Element.{known}
use Rattle.meta_records.proofs.part.body_of.Goals as goal

pub returns-clause-ok : goal.returns-clause-ok
returns-clause-ok g c = λ bytes told.
    let h = c.args.header.now in
    let len : length c.deref_mut.result.now ≡ c.in_ok-body.body.len = c.deref_mut.ensures.len in
    let asked : length c.deref_mut.result.now ≡ known h.size = grind (arith, common_steps, c.in_ok-body.ensures.len, c.known.ensures, len) in
    let count : length c.read_at.new.into ≡ c.in_ok-body.body.len = c.read_at.auto.into ∙ len in
    c.from_vec.ensures ∙ take_at c.read_at.new.into _ c.in_ok-body.body.len count
    ∙ c.in_ok-read_at.ensures.ok bytes told ∙ ap (octets_from bytes h.body) asked
    ∙ sym (drop-take h.body (known h.size) bytes)
