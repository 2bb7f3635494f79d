use Rattle.std.proofs.Common.{◌+◌, Result, refl, sym, subst}
use Rattle.mkv_io.specs.Asked.{AsksNone}
use Rattle.mkv_lines.specs.Command.{seen_in}
use Rattle.mkv_lines.proofs.VerdictLemmas.{IsStopped-before}
use Rattle.mkv_args.specs.Words.{command}
use Rattle.mkv_args.specs.declared.command.Command.{Command}
use Rattle.mkv_propedit.specs.Recover.{disk_world}
use Rattle.word_values.specs.Place.{texts}
use Rattle.word_values.specs.declared.usage.Usage.{Usage}
use Rattle.mkv_run.specs.Asked.{IsBesidesAfter}
use Rattle.mkv_run.specs.Run.{ReadsWithinAfter}
use Rattle.mkv_run.specs.Touched.{IsInPlace, reach_in}
use Rattle.mkv_run.proofs.RunLemmas.{reads-nothing, touches-nothing}
use Rattle.mkv_run.proofs.running.carry_out.Goals as goal

-- Memory ran out while the words were read.
pub returns-in-Err-Memory-clause-verdict : goal.returns-in-Err-Memory-clause-verdict
returns-in-Err-Memory-clause-verdict g c = λ v told.
    let still = seen_in g.F.Reads g.F.Files g.R.Report c.args.files.now c.args.report.now in
    IsStopped-before still still v refl refl

pub returns-in-Err-Memory-clause-touches : goal.returns-in-Err-Memory-clause-touches
returns-in-Err-Memory-clause-touches g c =
    touches-nothing g.D.Reads g.D.Disk (reach_in (command (texts c.args.words.now.items))) c.args.files.now c.args.disk.now c.requires (g.met.D.Disk.only_now c.args.disk.now)

-- The command works on the objects of its command line.
pub execute-requires-clause-at_rest : goal.execute-requires-clause-at_rest
execute-requires-clause-at_rest g c = λ place.
    c.requires (subst (λ (asked : Result Command Usage). IsInPlace (reach_in asked)) (sym c.in-Ok.ensures.exact) place)

pub returns-in-Err-Memory-clause-octets : goal.returns-in-Err-Memory-clause-octets
returns-in-Err-Memory-clause-octets g c =
    reads-nothing (g.F.Files.names c.args.files.now) (disk_world g.D.Disk c.args.disk.now) (command (texts c.args.words.now.items)) (g.F.Reads.octets_read c.args.files.now + g.D.Reads.octets_read c.args.disk.now)

-- Refused words read nothing.
pub returns-in-Err-Usage-clause-octets : goal.returns-in-Err-Usage-clause-octets
returns-in-Err-Usage-clause-octets g c =
    reads-nothing (g.F.Files.names c.args.files.now) (disk_world g.D.Disk c.args.disk.now) (command (texts c.args.words.now.items)) (g.F.Reads.octets_read c.args.files.now + g.D.Reads.octets_read c.args.disk.now)

-- A command reads at most its bound.
pub returns-in-Ok-clause-octets : goal.returns-in-Ok-clause-octets
returns-in-Ok-clause-octets g c =
    subst (λ (asked : Result Command Usage). ReadsWithinAfter (g.F.Files.names c.args.files.now) (disk_world g.D.Disk c.args.disk.now) asked
    (g.F.Reads.octets_read c.args.files.now + g.D.Reads.octets_read c.args.disk.now) (g.F.Reads.octets_read c.execute.new.files + g.D.Reads.octets_read c.execute.new.disk)) (sym c.in-Ok.ensures.exact) c.execute.ensures.octets

-- The command line asks for the files of its command.
pub returns-in-Ok-clause-asks : goal.returns-in-Ok-clause-asks
returns-in-Ok-clause-asks g c =
    let f = g.F.Files in
    subst (λ (asked : Result Command Usage). AsksNone (IsBesidesAfter asked) (f.asked c.args.files.now) (f.asked c.execute.new.files)) (sym c.in-Ok.ensures.exact) c.execute.ensures.asks
