use Rattle.std.proofs.Common.{length, sym, ◌∙◌, arith}
use Rattle.cues_seekhead.proofs.AppendingLemmas.{AppendsOnly-read, AppendsOnly-unread, names-untold, length-octets_told}
use Rattle.cues_seekhead.proofs.copying.copy_chunk.Goals as goal

-- The bytes that were read are the file's, and reading changes no name.
pub returns-in-Ok : goal.returns-in-Ok
returns-in-Ok g c =
    let start = c.args.files.now in
    let read = c.read_at.new.self in
    let standing = c.read_at.ensures.standing in
    let n = length c.args.chunk.now in
    let content = (g.F.Reads.files (g.F.Reads.standing start)).content c.args.from.n in
    AppendsOnly-read g.F.Reads g.F.Files c.args.to content c.read_at.new.into c.args.at n start read c.append.new.files c.append.result
    (record { standing = standing; faults = omega (arith, c.in-Ok.ensures.cause); octets = c.read_at.ensures.octets_least })
    c.in-Ok.ensures.cause c.read_at.ensures.octets_most
    (g.met.F.Files.names_stand read start standing) (g.met.F.Files.holders_stand read start standing) (g.met.F.Files.given_stands read start standing) (g.met.F.Files.writing_stands read start standing) (g.met.F.Files.asked_stands read start standing)
    c.in-Ok.ensures.ok
    (names-untold (g.F.Files.names start) content (g.F.Files.holder start c.args.from.n) (g.met.F.Files.named start c.args.from.n c.requires.from) (g.met.F.Files.there start c.args.from.n c.requires.from))
    (c.read_at.auto.into ∙ sym (length-octets_told content c.args.at n _ (g.met.F.Reads.told_size (g.F.Reads.standing start) c.args.from.n) c.requires.inside))
    c.append.ensures

-- Nothing was read.
pub returns-in-Err : goal.returns-in-Err
returns-in-Err g c =
    let start = c.args.files.now in
    let read = c.read_at.new.self in
    let standing = c.read_at.ensures.standing in
    AppendsOnly-unread g.F.Reads g.F.Files c.args.to _ (length c.args.chunk.now) start read
    (record { standing = standing; faults = c.in-Err.ensures.cause.later; octets = c.read_at.ensures.octets_least })
    c.in-Err.ensures.cause c.read_at.ensures.octets_most
    (g.met.F.Files.names_stand read start standing) (g.met.F.Files.holders_stand read start standing) (g.met.F.Files.given_stands read start standing) (g.met.F.Files.writing_stands read start standing) (g.met.F.Files.asked_stands read start standing)
