use Rattle.cues_seekhead.proofs.FinishLemmas.{Finishes-closed, cause-closed}
use Rattle.cues_seekhead.proofs.out.OutFile.finish_with.Goals as goal

pub returns-clause-finishes : goal.returns-clause-finishes
returns-clause-finishes g c = Finishes-closed g.F.Reads g.F.Files c.args.self c.args.end c.args.chapters.now c.args.tags.now c.args.files.now c.write_end-done.new.files c.close.new.self c.write_end-done.result c.close.ensures.stays.names c.write_end-done.ensures.finishes

pub returns-clause-cause : goal.returns-clause-cause
returns-clause-cause g c = cause-closed g.F.Reads g.F.Files c.args.files.now c.write_end-done.new.files c.close.new.self c.write_end-done.result c.close.ensures.unread.reading c.close.ensures.stays.writing c.write_end-done.ensures.cause
