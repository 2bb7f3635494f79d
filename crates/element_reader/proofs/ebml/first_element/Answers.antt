use Rattle.std.proofs.Common.{◌≡◌, Err, ℕ, ◌-◌, ◌≤◌, arith, min, nat_eq, List, length, take, drop, sym, ◌∙◌, ap}
use Rattle.std.specs.List.{starts_with}
use Rattle.mkv_io.specs.Contents.{octets_from}
use Rattle.mkv_schema.specs.Element.{at_level_0, element_in, stated_end}
use Rattle.mkv_schema.specs.Outline.{ebml_mark}
use Rattle.mkv_schema.proofs.ElementLemmas.{element_at-front}
use Rattle.elements.proofs.WindowLemmas.{octets_from-held}
use Rattle.ebml_numbers.proofs.NumberLemmas.{IfOk-each}
use Rattle.element_reader.proofs.EbmlLemmas.{begins, ebml_inside, starts_with-front, first_element-begins, first_element-other}
use Rattle.element_reader.proofs.ebml.first_element.Goals as goal

-- The file doesn't begin with the EBML header's ID.
pub returns-then-not-starts_with-clause-ok : goal.returns-then-not-starts_with-clause-ok
returns-then-not-starts_with-clause-ok g c = λ bytes told.
    let total : c.args.total ≡ length bytes = c.requires.whole ∙ sym (g.met.R.Reads.told_size (g.R.Reads.standing c.args.src.now) c.args.file.n bytes told) in
    let len = c.min-len.result in
    let octets = c.octets_at-octets.ensures ∙ ap (octets_from c.hold.new.self.octets (0 - c.hold.new.self.at)) c.from.ensures ∙ octets_from-held bytes c.hold.new.self 0 len (c.hold.ensures.holds bytes told) c.in_ok-hold.ensures.looks.range in
    let test = c.starts_with.ensures.value ∙ ap (λ (o : List ℕ). starts_with nat_eq o ebml_mark) octets ∙ starts_with-front bytes len (c.min-len.ensures ∙ ap (λ n. min n 12) total) in
    ap Err c.damage.ensures ∙ first_element-other bytes c.starts_with.result test c.if-not-starts_with.true

-- The held bytes of the file are enough for a header.
pub returns-clause-ok : goal.returns-clause-ok
returns-clause-ok g c = λ bytes told.
    let total : c.args.total ≡ length bytes = c.requires.whole ∙ sym (g.met.R.Reads.told_size (g.R.Reads.standing c.args.src.now) c.args.file.n bytes told) in
    let len = c.min-len.result in
    let most : len ≡ min (length bytes) 12 = c.min-len.ensures ∙ ap (λ n. min n 12) total in
    let octets = c.octets_at-octets.ensures ∙ ap (octets_from c.hold.new.self.octets (0 - c.hold.new.self.at)) c.from.ensures ∙ octets_from-held bytes c.hold.new.self 0 len (c.hold.ensures.holds bytes told) c.in_ok-hold.ensures.looks.range in
    let test = c.starts_with.ensures.value ∙ ap (λ (o : List ℕ). starts_with nat_eq o ebml_mark) octets ∙ starts_with-front bytes len most in
    first_element-begins bytes c.starts_with.result c.read_header.result test c.if-not-starts_with.false
    (c.read_header.ensures.exact
    ∙ ap (λ o. element_in at_level_0 o c.args.total 0 c.args.total) octets
    ∙ ap (λ n. element_in at_level_0 (take len (drop 0 bytes)) n 0 n) total
    ∙ element_at-front at_level_0 bytes 0 (length bytes) len (omega arith) (omega (arith, most)))

-- The Element ends in the file.
pub returns-clause-inside : goal.returns-clause-inside
returns-clause-inside g c =
    IfOk-each (λ h. stated_end h ≤ c.args.total) c.read_header.result
    (λ h is. ebml_inside c.octets_at-octets.result.now c.args.total h (begins c.octets_at-octets.result.now c.starts_with.result c.starts_with.ensures.value c.if-not-starts_with.false) (sym c.read_header.ensures.exact ∙ is))
