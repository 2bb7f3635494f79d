use Rattle.std.proofs.Common.{ℕ, List, Option, sym, subst, ◌∙◌, arith}
use Rattle.std.proofs.lemmas.Result.{err_from_is_err_and}
use Rattle.mkv_io.specs.declared.outside.FileId.{FileId}
use Rattle.output_model.specs.Attached.{octets_told}
use Rattle.cues_seekhead.specs.Appending.{AppendsOnly}
use Rattle.cues_seekhead.proofs.BeginLemmas.{EndsOnly-one, KeepsOthers-unmade, MakesFile-created}
use Rattle.extractors.proofs.WholeLemmas.{WritesFile-closed, WritesFile-unmade}
use Rattle.extractors.proofs.whole.copy_file.Goals as goal

-- The file wasn't created.
pub returns-in_err-file : goal.returns-in_err-file
returns-in_err-file g c =
    let p = err_from_is_err_and c.from_residual.result c.from_residual.ensures.1 in
    rw (p.1, p.2)
    (WritesFile-unmade FileId g.F.Reads g.F.Files c.args.name.now _ c.args.len c.args.files.now c.create.new.self c.in_err-file.field-0.0 c.in_err-file.ensures.refused.names
    (KeepsOthers-unmade g.F.Reads g.F.Files c.args.name.now c.args.files.now c.create.new.self c.create.result (g.met.F.Files.numbered c.args.files.now) c.in_err-file.ensures.refused.live c.create.ensures.stays c.create.ensures.asks)
    c.create.ensures.unread.reading c.create.ensures.unread.octets c.in_err-file.ensures.cause)

-- The other file is still live.
pub copy_data-ended-requires-clause-from : goal.copy_data-ended-requires-clause-from
copy_data-ended-requires-clause-from g c =
    let old = c.args.files.now in
    let ok = c.in_ok-file.ensures.made in
    let made = MakesFile-created g.F.Reads g.F.Files c.args.name.now c.in_ok-file.file old c.create.new.self c.create.result (g.met.F.Files.numbered old) ok.is_new c.create.ensures.stays c.create.ensures.asks in
    (made.others c.args.from.n (c.requires.live, (λ same. c.requires.other (sym same), tt))).alive ∙ c.requires.live

-- The other file has another name.
pub copy_data-ended-requires-clause-apart : goal.copy_data-ended-requires-clause-apart
copy_data-ended-requires-clause-apart g c = λ equal.
    c.requires.other (sym (c.create.ensures.stays.holders c.args.from.n c.requires.live) ∙ equal ∙ c.in_ok-file.ensures.made.is_new.holder)

-- The other file has the same length.
pub copy_data-ended-requires-clause-inside : goal.copy_data-ended-requires-clause-inside
copy_data-ended-requires-clause-inside g c =
    let old = c.args.files.now in
    let ok = c.in_ok-file.ensures.made in
    let made = MakesFile-created g.F.Reads g.F.Files c.args.name.now c.in_ok-file.file old c.create.new.self c.create.result (g.met.F.Files.numbered old) ok.is_new c.create.ensures.stays c.create.ensures.asks in
    omega (arith, c.requires.inside, (made.others c.args.from.n (c.requires.live, (λ same. c.requires.other (sym same), tt))).size c.requires.live)

-- The file was created, written and closed.
pub returns : goal.returns
returns g c =
    let r = g.F.Reads in
    let f = g.F.Files in
    let old = c.args.files.now in
    let new = c.create.new.self in
    let wrote = c.copy_data-ended.new.files in
    let file = c.in_ok-file.file in
    let ok = c.in_ok-file.ensures.made in
    let name = c.args.name.now in
    let made = MakesFile-created r f name file old new c.create.result (g.met.F.Files.numbered old) ok.is_new c.create.ensures.stays c.create.ensures.asks in
    let same = (made.others c.args.from.n (c.requires.live, (λ same. c.requires.other (sym same), tt))).content c.requires.live in
    WritesFile-closed r f file name _ c.args.len old new wrote c.close.new.self c.copy_data-ended.result (g.met.F.Files.numbered old) made
    ok.names c.create.ensures.unread.reading c.in_ok-file.ensures.cause c.create.ensures.unread.octets
    (subst (λ (content : Option (List ℕ)). AppendsOnly r f file (octets_told content c.args.at c.args.len) c.args.len new wrote c.copy_data-ended.result) same c.copy_data-ended.ensures)
    (EndsOnly-one r f wrote c.close.new.self file c.close.ensures.ended c.close.ensures.stays c.close.ensures.unread)
