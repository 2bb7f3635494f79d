use Rattle.std.proofs.Common.{[], ◌∷◌, Ok, Err, sym, ◌∙◌, subst, arith}
use Rattle.std.proofs.lemmas.Result.{err_from_is_err_and}
use Rattle.mkv_io.specs.Names.{Names}
use Rattle.mkv_io.specs.Sources.{live_files}
use Rattle.mkv_outputs.specs.Drafts.{AreWrittenInOrder}
use Rattle.mkv_outputs.proofs.DraftsLemmas.{AreWrittenInOrder-none}
use Rattle.cues_seekhead.specs.Draft.{draft_of}
use Rattle.remuxer.proofs.OutputLemmas.{abandoned-keeps, drafted-in_turn, finished-keeps}
use Rattle.remuxer.proofs.ShortLemmas.{HoldsOfFiles}
use Rattle.mkv_generate.specs.Files.{file_of}
use Rattle.mkv_generate.proofs.FileLemmas.{file-begun, file-finished, file-refused, none-read}
use Rattle.mkv_generate.proofs.file.write_file.Given.{Over}
use Rattle.mkv_generate.proofs.file.write_file.Goals as goal

-- The facts about all files
of_files : (g : Over) → HoldsOfFiles g.F.Reads g.F.Files
of_files g = record { short = g.met.F.Reads.short; told_size = λ x. g.met.F.Reads.told_size (g.F.Reads.standing x); named = g.met.F.Files.named }

-- Memory ran out for the Elements before the Clusters, or for a Cluster.
pub returns-in_err-front-clause-writes : goal.returns-in_err-front-clause-writes
returns-in_err-front-clause-writes g c =
    let p = err_from_is_err_and c.from_residual.result c.from_residual.ensures.1 in
    rw p.1 (AreWrittenInOrder-none (g.F.Files.names c.args.files.now) _)

pub returns-in_err-buffer-clause-writes : goal.returns-in_err-buffer-clause-writes
returns-in_err-buffer-clause-writes g c =
    let p = err_from_is_err_and c.from_residual-in_err-buffer.result c.from_residual-in_err-buffer.ensures.1 in
    rw p.1 (AreWrittenInOrder-none (g.F.Files.names c.args.files.now) _)

-- The file couldn't be begun.
pub returns-in_err-out-clause-writes : goal.returns-in_err-out-clause-writes
returns-in_err-out-clause-writes g c =
    let p = err_from_is_err_and c.from_residual-in_err-out.result c.from_residual-in_err-out.ensures.1 in
    rw p.1 (file-refused (live_files g.F.Reads c.args.files.now) c.args.medium c.args.n c.args.name.now c.in_ok-front.front (g.F.Files.names c.args.files.now) (g.F.Files.names c.begin.new.files) c.in_ok-front.ensures c.in_err-out.ensures.err)

-- The file couldn't be finished.
pub returns-in_err-finish_with-in-Ok-clause-writes : goal.returns-in_err-finish_with-in-Ok-clause-writes
returns-in_err-finish_with-in-Ok-clause-writes g c =
    let p = err_from_is_err_and c.from_residual-in_err-finish_with-in-Ok.result c.from_residual-in_err-finish_with-in-Ok.ensures.1 in
    let a = c.args.files.now in
    let b = c.begin.new.files in
    let o = c.in_ok-out.out in
    let buffer = c.in_ok-buffer.buffer in
    let front = c.in_ok-front.front in
    let begun = file-begun g.F.Reads g.F.Files c.args.medium c.args.n c.args.name.now front a b o buffer c.in_ok-front.ensures c.in_ok-out.ensures.ok c.in_ok-out.ensures.cues c.in_ok-buffer.ensures.empty (c.in_ok-buffer.ensures.limits ∙ c.default_limits.ensures) in
    rw p.1 (file-finished g.F.Reads g.F.Files c.args.medium c.args.n c.args.name.now front a b o buffer c.in_ok-front.ensures c.add_all.new.files c.finish_with.new.files c.add_all.new.out (Err c.in_err-finish_with-in-Ok.field-0.0) begun c.in-Ok.ensures.adds (of_files g) c.in_err-finish_with-in-Ok.ensures.finishes c.in_err-finish_with-in-Ok.ensures.ended)

-- The file was finished.
pub returns-in-Ok-clause-writes : goal.returns-in-Ok-clause-writes
returns-in-Ok-clause-writes g c =
    let a = c.args.files.now in
    let b = c.begin.new.files in
    let o = c.in_ok-out.out in
    let buffer = c.in_ok-buffer.buffer in
    let front = c.in_ok-front.front in
    let begun = file-begun g.F.Reads g.F.Files c.args.medium c.args.n c.args.name.now front a b o buffer c.in_ok-front.ensures c.in_ok-out.ensures.ok c.in_ok-out.ensures.cues c.in_ok-buffer.ensures.empty (c.in_ok-buffer.ensures.limits ∙ c.default_limits.ensures) in
    file-finished g.F.Reads g.F.Files c.args.medium c.args.n c.args.name.now front a b o buffer c.in_ok-front.ensures c.add_all.new.files c.finish_with.new.files c.add_all.new.out (Ok c.in_ok-finish_with-in-Ok.field-0) begun c.in-Ok.ensures.adds (of_files g) c.in_ok-finish_with-in-Ok.ensures.finishes c.in_ok-finish_with-in-Ok.ensures.ended

-- The file was given up.
pub returns-clause-writes : goal.returns-clause-writes
returns-clause-writes g c =
    let a = c.args.files.now in
    let b = c.begin.new.files in
    let o = c.in_ok-out.out in
    let buffer = c.in_ok-buffer.buffer in
    let front = c.in_ok-front.front in
    let d = file_of c.args.medium c.args.n in
    let begun = file-begun g.F.Reads g.F.Files c.args.medium c.args.n c.args.name.now front a b o buffer c.in_ok-front.ensures c.in_ok-out.ensures.ok c.in_ok-out.ensures.cues c.in_ok-buffer.ensures.empty (c.in_ok-buffer.ensures.limits ∙ c.default_limits.ensures) in
    subst (λ (names : Names). AreWrittenInOrder (g.F.Files.names a) names (draft_of c.args.name.now d ∷ [])) (sym c.abandon.ensures.names)
    (drafted-in_turn (g.F.Files.names a) (g.F.Files.names c.add_all.new.files) c.args.name.now d (c.in-Err.ensures.adds (g.F.Files.names a) c.args.name.now d begun))

-- ---- the other files

pub returns-in_err-finish_with-in-Ok-clause-kept : goal.returns-in_err-finish_with-in-Ok-clause-kept
returns-in_err-finish_with-in-Ok-clause-kept g c =
    let a = c.args.files.now in
    finished-keeps g.F.Reads g.F.Files a c.begin.new.files c.add_all.new.files c.finish_with.new.files c.args.name.now c.in_ok-out.out.file c.add_all.new.out.file (g.met.F.Files.numbered a) c.in_ok-out.ensures.made c.in-Ok.ensures.only.kept c.in-Ok.ensures.file c.in_err-finish_with-in-Ok.ensures.ended

pub returns-in-Ok-clause-kept : goal.returns-in-Ok-clause-kept
returns-in-Ok-clause-kept g c =
    let a = c.args.files.now in
    finished-keeps g.F.Reads g.F.Files a c.begin.new.files c.add_all.new.files c.finish_with.new.files c.args.name.now c.in_ok-out.out.file c.add_all.new.out.file (g.met.F.Files.numbered a) c.in_ok-out.ensures.made c.in-Ok.ensures.only.kept c.in-Ok.ensures.file c.in_ok-finish_with-in-Ok.ensures.ended

pub returns-clause-kept : goal.returns-clause-kept
returns-clause-kept g c =
    let a = c.args.files.now in
    abandoned-keeps g.F.Reads g.F.Files a c.begin.new.files c.add_all.new.files c.abandon.new.files c.args.name.now c.in_ok-out.out.file c.add_all.new.out.file (g.met.F.Files.numbered a) c.in_ok-out.ensures.made c.in-Err.ensures.only.kept c.in-Err.ensures.file c.abandon.ensures

-- ---- nothing is read

pub returns-in_err-out-clause-octets : goal.returns-in_err-out-clause-octets
returns-in_err-out-clause-octets g c = none-read c.in_ok-front.front.attachments (g.F.Reads.octets_read c.args.files.now) (g.F.Reads.octets_read c.begin.new.files) c.in_ok-front.ensures.attachments c.in_err-out.ensures.reads

pub returns-in_err-finish_with-in-Ok-clause-octets : goal.returns-in_err-finish_with-in-Ok-clause-octets
returns-in_err-finish_with-in-Ok-clause-octets g c =
    let begun = none-read c.in_ok-front.front.attachments (g.F.Reads.octets_read c.args.files.now) (g.F.Reads.octets_read c.begin.new.files) c.in_ok-front.ensures.attachments c.in_ok-out.ensures.reads in
    let ends = c.in_err-finish_with-in-Ok.ensures.ended in
    omega (arith, begun, c.in-Ok.ensures.only.octets, ends.written.octets, ends.ended.octets)

pub returns-in-Ok-clause-octets : goal.returns-in-Ok-clause-octets
returns-in-Ok-clause-octets g c =
    let begun = none-read c.in_ok-front.front.attachments (g.F.Reads.octets_read c.args.files.now) (g.F.Reads.octets_read c.begin.new.files) c.in_ok-front.ensures.attachments c.in_ok-out.ensures.reads in
    let ends = c.in_ok-finish_with-in-Ok.ensures.ended in
    omega (arith, begun, c.in-Ok.ensures.only.octets, ends.written.octets, ends.ended.octets)

pub returns-clause-octets : goal.returns-clause-octets
returns-clause-octets g c =
    let begun = none-read c.in_ok-front.front.attachments (g.F.Reads.octets_read c.args.files.now) (g.F.Reads.octets_read c.begin.new.files) c.in_ok-front.ensures.attachments c.in_ok-out.ensures.reads in
    omega (arith, begun, c.in-Err.ensures.only.octets, c.abandon.ensures.octets)
