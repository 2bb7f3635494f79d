use Rattle.std.proofs.Common.{arith}
use Rattle.std.proofs.lemmas.Result.{err_from_is_err_and}
use Rattle.mkv_io.proofs.WritingLemmas.{WritesOnly-one}
use Rattle.mkv_io.specs.Faults.{is_make_failure}
use Rattle.cues_seekhead.proofs.AppendingLemmas.{PassesSome-refused, cause-make}
use Rattle.cues_seekhead.proofs.copying.append.Goals as goal

-- The bytes are at the end.
pub returns : goal.returns
returns g c =
    let only = WritesOnly-one g.F.Reads g.F.Files c.args.files.now c.append.new.self c.args.file is_make_failure c.append.result
    c.append.ensures.stays c.append.ensures.cause c.append.ensures.unread in
    record {
      appended = c.in_ok-append.ensures.ok.names;
      size = c.in_ok-append.ensures.ok.size;
      kept = only.kept;
      cause = record { reading = c.append.ensures.unread.reading; writing = c.in_ok-append.ensures.cause };
      reads = omega (arith, c.append.ensures.unread.octets);
    }

-- A prefix of the bytes was appended.
pub returns-in_err-append : goal.returns-in_err-append
returns-in_err-append g c =
    let p = err_from_is_err_and c.from_residual.result c.from_residual.ensures.1 in
    let only = WritesOnly-one g.F.Reads g.F.Files c.args.files.now c.append.new.self c.args.file is_make_failure c.append.result
    c.append.ensures.stays c.append.ensures.cause c.append.ensures.unread in
    rw (p.1, p.2) (record {
      appended = PassesSome-refused c.in_err-append.field-0.0 _ _ _ _ c.args.file.n _ c.args.octets.now c.in_err-append.ensures.failed
          (λ is. g.met.F.Files.names_stand c.append.new.self c.args.files.now (c.in_err-append.ensures.memory is));
      size = tt;
      kept = only.kept;
      cause = cause-make (Unit {0}) g.F.Reads g.F.Files c.args.files.now c.append.new.self c.in_err-append.field-0.0 c.append.ensures.unread.reading c.in_err-append.ensures.cause;
      reads = omega (arith, c.append.ensures.unread.octets);
    })
