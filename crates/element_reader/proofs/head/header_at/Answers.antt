use Rattle.std.proofs.Common.{◌≡◌, ℕ, ◌-◌, ◌≤◌, min, List, length, sym, ◌∙◌, ap, arith}
use Rattle.std.proofs.lemmas.Grind.{common_steps}
use Rattle.mkv_io.specs.Contents.{octets_from}
use Rattle.mkv_schema.specs.Element.{anywhere, element_in, element_at}
use Rattle.mkv_schema.specs.declared.limits.TheConstants.{MAX_ELEMENT_HEADER_LEN}
use Rattle.mkv_schema.proofs.ElementLemmas.{element_at-front}
use Rattle.element_reader.proofs.head.header_at.Goals as goal

-- The bytes that were read are enough for a header.
read_at_place : (bytes octets : List ℕ) (total at end len n : ℕ) → octets ≡ octets_from bytes at n → n ≡ len → total ≡ length bytes → at ≤ end → len ≡ min (end - at) MAX_ELEMENT_HEADER_LEN → element_in anywhere octets total at end ≡ element_at anywhere bytes at end
read_at_place bytes octets total at end len n read count is place most =
    ap (λ o. element_in anywhere o total at end) (read ∙ ap (octets_from bytes at) count)
    ∙ ap (λ t. element_in anywhere (octets_from bytes at len) t at end) is
    ∙ element_at-front anywhere bytes at end len place most

pub returns-in-Ok-read_header-clause-exact : goal.returns-in-Ok-read_header-clause-exact
returns-in-Ok-read_header-clause-exact g c = λ bytes told.
    let total : c.size-total.result ≡ length bytes =
    c.size-total.ensures.exact ∙ ap (λ s. (g.R.Reads.files s).size c.args.file.n) c.read_at.ensures.standing
    ∙ sym (g.met.R.Reads.told_size (g.R.Reads.standing c.args.src.now) c.args.file.n bytes told) in
    sym (c.in-Ok-read_header.ensures.exact
    ∙ read_at_place bytes c.read_at.new.into c.size-total.result c.args.at c.args.end c.min-len.result _ (c.in-Ok.ensures.ok bytes told) (grind (arith, common_steps)) total c.requires.place c.min-len.ensures)

pub returns-in-Err-clause-exact : goal.returns-in-Err-clause-exact
returns-in-Err-clause-exact g c = λ bytes told.
    let total : c.size-total.result ≡ length bytes =
    c.size-total.ensures.exact ∙ ap (λ s. (g.R.Reads.files s).size c.args.file.n) c.read_at.ensures.standing
    ∙ sym (g.met.R.Reads.told_size (g.R.Reads.standing c.args.src.now) c.args.file.n bytes told) in
    sym (c.in-Err.ensures.exact
    ∙ read_at_place bytes c.read_at.new.into c.size-total.result c.args.at c.args.end c.min-len.result _ (c.in-Ok.ensures.ok bytes told) (grind (arith, common_steps)) total c.requires.place c.min-len.ensures)
