use Rattle.std.proofs.Common.{arith}
use Rattle.mkv_generate.proofs.MakingLemmas.{files-left}
use Rattle.mkv_generate.proofs.making.make.Goals as goal

-- The two files are complete.
pub returns-in-Ok-clause-makes : goal.returns-in-Ok-clause-makes
returns-in-Ok-clause-makes g c = λ world told.
    c.make_both.ensures.makes c.args.n (g.F.Files.names c.args.files.now) world told c.requires.apart c.in-Ok.ensures.writes

-- The two files couldn't be written.
pub returns-in-Err-clause-makes : goal.returns-in-Err-clause-makes
returns-in-Err-clause-makes g c = λ world told.
    files-left (g.F.Files.names c.args.files.now) (g.F.Files.names c.write_files.new.files) c.args.n c.args.names.now c.in-Err.ensures.writes

-- ---- bytes read

pub returns-in-Ok-clause-octets : goal.returns-in-Ok-clause-octets
returns-in-Ok-clause-octets g c = λ world told.
    let read = c.make_both.ensures.octets c.args.n (g.F.Files.names c.args.files.now) world told c.requires.apart c.in-Ok.ensures.writes in
    omega (arith, read, c.write_files.ensures.octets)

-- The names that are opened and made.
pub returns-in-Ok-clause-asks : goal.returns-in-Ok-clause-asks
returns-in-Ok-clause-asks g c = λ name besides unasked.
    c.make_both.ensures.asks name besides (c.write_files.ensures.asks name besides unasked)
