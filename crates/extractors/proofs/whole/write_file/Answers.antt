use Rattle.std.proofs.lemmas.Result.{err_from_is_err_and}
use Rattle.mkv_io.specs.declared.outside.FileId.{FileId}
use Rattle.cues_seekhead.proofs.BeginLemmas.{EndsOnly-one, KeepsOthers-unmade, MakesFile-created}
use Rattle.extractors.proofs.WholeLemmas.{WritesFile-closed, WritesFile-unmade}
use Rattle.extractors.proofs.whole.write_file.Goals as goal

-- The file wasn't created.
pub returns-in_err-file : goal.returns-in_err-file
returns-in_err-file g c =
    let p = err_from_is_err_and c.from_residual.result c.from_residual.ensures.1 in
    rw (p.1, p.2)
    (WritesFile-unmade FileId g.F.Reads g.F.Files c.args.name.now c.args.octets.now 0 c.args.files.now c.create.new.self c.in_err-file.field-0.0 c.in_err-file.ensures.refused.names
    (KeepsOthers-unmade g.F.Reads g.F.Files c.args.name.now c.args.files.now c.create.new.self c.create.result (g.met.F.Files.numbered c.args.files.now) c.in_err-file.ensures.refused.live c.create.ensures.stays c.create.ensures.asks)
    c.create.ensures.unread.reading c.create.ensures.unread.octets c.in_err-file.ensures.cause)

-- The file was created, written and closed.
pub returns : goal.returns
returns g c =
    let r = g.F.Reads in
    let f = g.F.Files in
    let old = c.args.files.now in
    let made = c.create.new.self in
    let wrote = c.append-ended.new.files in
    let new = c.close.new.self in
    let file = c.in_ok-file.file in
    let ok = c.in_ok-file.ensures.made in
    let name = c.args.name.now in
    WritesFile-closed r f file name c.args.octets.now 0 old made wrote new c.append-ended.result (g.met.F.Files.numbered old)
    (MakesFile-created r f name file old made c.create.result (g.met.F.Files.numbered old) ok.is_new c.create.ensures.stays c.create.ensures.asks)
    ok.names c.create.ensures.unread.reading c.in_ok-file.ensures.cause c.create.ensures.unread.octets c.append-ended.ensures
    (EndsOnly-one r f wrote new file c.close.ensures.ended c.close.ensures.stays c.close.ensures.unread)
