use Rattle.std.proofs.Common.{◌≤◌, length, drop, ◌∙◌, sym, ap, rules}
use Rattle.std.proofs.lemmas.List.{drop-take, take-append-le, take-take}
use Rattle.mkv_io.specs.Contents.{octets_from}
use Rattle.mkv_schema.specs.Element.{known}
use Rattle.block_reader.proofs.buffer.BlockBuffer.read.Goals as goal

-- The bytes that were read are at the start of the buffer.
pub returns-clause-ok : goal.returns-clause-ok
returns-clause-ok g c = λ bytes told.
    let h = c.args.header.now in
    let len = c.known-len.result in
    let into = c.read_body.new.into in
    let items = c.if-len.self-inside.octets.items in
    let within : len ≤ c.if-len.self-inside.octets.len = search rules in
    let inside : len ≤ length into = search rules in
    take-take len c.if-len.self-inside.octets.len _ within
    ∙ take-append-le len into (drop (length into) items) inside
    ∙ c.in_ok-read_body.ensures.ok bytes told
    ∙ ap (octets_from bytes h.body) c.known-len.ensures
    ∙ sym (drop-take h.body (known h.size) bytes)
