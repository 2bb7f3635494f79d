use Rattle.std.proofs.Common.{◌≡◌, ◌∙◌, ap, rules}
use Rattle.mkv_io.specs.Contents.{octets_from}
use Rattle.ebml_numbers.specs.Number.{uint_of}
use Rattle.mkv_schema.specs.Element.{known}
use Rattle.elements.specs.Window.{HasRange}
use Rattle.elements.proofs.WindowLemmas.{octets_from-held}
use Rattle.cluster_reader.proofs.ChildLemmas.{body_of-read}
use Rattle.cluster_reader.proofs.timestamp.read_timestamp.Goals as goal

-- The bytes that were read are the body.
pub returns-clause-ok : goal.returns-clause-ok
returns-clause-ok g c = λ bytes told.
    let h = c.args.header.now in
    let len : c.from.result ≡ known h.size = search rules in
    let range : HasRange c.hold.new.self h.body c.from.result = search rules in
    c.read_uint.ensures.exact
    ∙ ap uint_of (c.octets_at.ensures ∙ octets_from-held bytes c.hold.new.self h.body c.from.result (c.hold.ensures.holds bytes told) range
    ∙ ap (octets_from bytes h.body) len ∙ body_of-read bytes h)
