use Rattle.std.proofs.Common.{◌≡◌, ◌+◌, ◌≤◌, length, Option, sym, ◌∙◌, ap, arith}
use Rattle.std.proofs.lemmas.Grind.{common_steps}
use Rattle.std.proofs.lemmas.List.{take_at}
use Rattle.mkv_io.specs.Contents.{octets_from}
use Rattle.mkv_io.specs.declared.damage.Damage.{Damage}
use Rattle.mkv_schema.specs.Element.{known}
use Rattle.mkv_io.specs.Results.{unless}
use Rattle.element_reader.proofs.EbmlLemmas.{ebml_header-none, ebml_header-is, ebml_header-over, IsBody-read}
use Rattle.element_reader.proofs.ebml.ebml_header.Goals as goal

-- There is no Element at the start.
pub returns-in-Err-clause-ok : goal.returns-in-Err-clause-ok
returns-in-Err-clause-ok g c = λ bytes told. ebml_header-none bytes c.in-Err.damage (sym c.in-Err.is ∙ c.in_ok-header.ensures.ok bytes told)

-- Its size refuses it.
pub returns-in-Some-clause-ok : goal.returns-in-Some-clause-ok
returns-in-Some-clause-ok g c = λ bytes told.
    ebml_header-over bytes c.in-Ok.header c.in-Some.damage (sym c.in-Ok.is ∙ c.in_ok-header.ensures.ok bytes told) (sym c.in-Some.is ∙ c.over.ensures)

-- Its causes refuse it.
pub returns-in-Some-header_refusal-clause-ok : goal.returns-in-Some-header_refusal-clause-ok
returns-in-Some-header_refusal-clause-ok g c = λ bytes told.
    let h = c.in-Ok.header in
    let first = sym c.in-Ok.is ∙ c.in_ok-header.ensures.ok bytes told in
    let within : h.body + known h.size ≤ c.args.total = rw c.in-Ok.is at c.in_ok-header.ensures.inside in
    let whole : length bytes ≡ c.args.total = g.met.R.Reads.told_size (g.R.Reads.standing c.args.src.now) c.args.file.n bytes told ∙ sym c.requires.whole in
    let now = ap (λ s. (g.R.Reads.files s).content c.args.file.n) c.first_element.ensures.same.standing ∙ told in
    let len : length c.deref_mut.result.now ≡ c.in_ok-body.body.len = c.deref_mut.ensures.len in
    let asked : length c.deref_mut.result.now ≡ known h.size = grind (arith, common_steps, c.in_ok-body.ensures.len, c.known.ensures, len) in
    let count : length c.fill.new.into ≡ c.in_ok-body.body.len = c.fill.auto.into ∙ len in
    let body = c.deref.ensures.value ∙ take_at c.fill.new.into _ c.in_ok-body.body.len count in
    let read = body ∙ c.in_ok-fill.ensures.ok bytes now ∙ ap (octets_from bytes h.body) asked in
    let is = IsBody-read bytes h.body c.args.total (known h.size) c.deref.result.now whole within (ap length body ∙ c.fill.auto.into ∙ asked) read in
    ap (λ (r : Option Damage). unless r h) (sym c.in-Some-header_refusal.is) ∙ ebml_header-is bytes h c.header_refusal.result first (c.header_refusal.ensures bytes is)

-- Nothing refuses it.
pub returns-clause-ok : goal.returns-clause-ok
returns-clause-ok g c = λ bytes told.
    let h = c.in-Ok.header in
    let first = sym c.in-Ok.is ∙ c.in_ok-header.ensures.ok bytes told in
    let within : h.body + known h.size ≤ c.args.total = rw c.in-Ok.is at c.in_ok-header.ensures.inside in
    let whole : length bytes ≡ c.args.total = g.met.R.Reads.told_size (g.R.Reads.standing c.args.src.now) c.args.file.n bytes told ∙ sym c.requires.whole in
    let now = ap (λ s. (g.R.Reads.files s).content c.args.file.n) c.first_element.ensures.same.standing ∙ told in
    let len : length c.deref_mut.result.now ≡ c.in_ok-body.body.len = c.deref_mut.ensures.len in
    let asked : length c.deref_mut.result.now ≡ known h.size = grind (arith, common_steps, c.in_ok-body.ensures.len, c.known.ensures, len) in
    let count : length c.fill.new.into ≡ c.in_ok-body.body.len = c.fill.auto.into ∙ len in
    let body = c.deref.ensures.value ∙ take_at c.fill.new.into _ c.in_ok-body.body.len count in
    let read = body ∙ c.in_ok-fill.ensures.ok bytes now ∙ ap (octets_from bytes h.body) asked in
    let is = IsBody-read bytes h.body c.args.total (known h.size) c.deref.result.now whole within (ap length body ∙ c.fill.auto.into ∙ asked) read in
    ap (λ (r : Option Damage). unless r h) (sym c.in-None.is) ∙ ebml_header-is bytes h c.header_refusal.result first (c.header_refusal.ensures bytes is)
