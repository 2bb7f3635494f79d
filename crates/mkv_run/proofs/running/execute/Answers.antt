use Rattle.std.proofs.Common.{◌+◌, ◌≤◌, List, [], ℕ, length, Option, Ok, sym, subst, refl}
use Rattle.mkv_io.specs.Asked.{AsksOnly}
use Rattle.mkv_io.specs.Told.{IfVisible}
use Rattle.sidecar_edit.specs.Name.{with_sidecar}
use Rattle.extractors.specs.Job.{names_for}
use Rattle.mkv_disk.specs.Calls.{OfReads}
use Rattle.mkv_lines.specs.Code.{status_of}
use Rattle.mkv_lines.specs.Command.{seen_in}
use Rattle.mkv_lines.specs.Verdict.{Reaches, SaysVerdict}
use Rattle.mkv_lines.proofs.VerdictLemmas.{Reaches-lines}
use Rattle.mkv_args.specs.Sound.{IsSound}
use Rattle.mkv_args.specs.declared.command.Command.{Command}
use Rattle.mkv_info.specs.Bound.{most_to_tell}
use Rattle.mkv_info.specs.declared.info.Form.TheVariants.{Lines, Json}
use Rattle.mkv_extract.specs.Bound.{most_to_extract}
use Rattle.mkv_merge.specs.Bound.{most_read}
use Rattle.mkv_propedit.specs.Bound.{most_to_edit, most_to_recover}
use Rattle.mkv_propedit.specs.Recover.{disk_world, recover_verdict}
use Rattle.mkv_propedit.proofs.RecoverLemmas.{recover-outputs, verdict-told}
use Rattle.mkv_propedit.specs.Left.{IsEditOf, writes_of_edits}
use Rattle.mkv_propedit.specs.Propedit.{propedit_verdict}
use Rattle.mkv_propedit.specs.Reindex.{most_to_reindex, reindex_verdict, writes_of_index}
use Rattle.mkv_propedit.proofs.ReindexLemmas.{index-told_on, reindex-outputs}
use Rattle.mkv_propedit.proofs.PropeditLemmas.{edit-told, propedit-outputs}
use Rattle.mkv_generate.specs.Asked.{AsksToGenerate}
use Rattle.mkv_generate.specs.Bound.{most_to_generate}
use Rattle.mkv_generate.specs.Generate.{names_of}
use Rattle.mkv_run.specs.Asked.{AsksToObey}
use Rattle.mkv_run.specs.Run.{ReadsWithin, verdict_of}
use Rattle.mkv_run.specs.Touched.{IsInPlace, Touches, reach_of}
use Rattle.mkv_run.proofs.RunLemmas.{disk-alone, files-alone, job-done, media-told, reads-nothing}
use Rattle.mkv_run.proofs.running.execute.Goals as goal

pub returns-in-Recover-clause-verdict : goal.returns-in-Recover-clause-verdict
returns-in-Recover-clause-verdict g c =
    let d = g.D.Disk in let a = c.args.disk.now in let file = c.in-Recover.file in let result = c.recover_of.result in
    let old = seen_in g.F.Reads g.F.Files g.R.Report c.args.files.now c.args.report.now in
    let new = seen_in g.F.Reads g.F.Files g.R.Report c.args.files.now c.recover_of.new.report in
    let M = (d.pair a).media.reads in let S = (d.pair a).sidecar.reads in
    let says = subst (λ (name : List ℕ). OfReads d a (λ m s. SaysVerdict old.lines new.lines result (recover_verdict (d.is_there a name) name m s))) c.as_str-in-Recover.ensures.same c.recover_of.ensures.verdict in
    let reaches = verdict-told d a file (λ v. Reaches old new result v)
    (λ told. Reaches-lines old new result (recover_verdict (d.is_there a file) file M S) (says told) (recover-outputs (d.is_there a file) file M S) refl) in
    subst (λ (asked : Command). IfVisible (verdict_of (g.F.Files.names c.args.files.now) (disk_world d a) asked) (λ v. Reaches old new result v)) (sym c.in-Recover.is) reaches

pub returns-in-Reindex-clause-verdict : goal.returns-in-Reindex-clause-verdict
returns-in-Reindex-clause-verdict g c =
    let d = g.D.Disk in let a = c.args.disk.now in let file = c.in-Reindex.file in let result = c.reindex_of.result in
    let old = seen_in g.F.Reads g.F.Files g.R.Report c.args.files.now c.args.report.now in
    let new = seen_in g.F.Reads g.F.Files g.R.Report c.args.files.now c.reindex_of.new.report in
    let M = (d.pair a).media.reads in let S = (d.pair a).sidecar.reads in
    let says = subst (λ (name : List ℕ). OfReads d a (λ m s. SaysVerdict old.lines new.lines result (reindex_verdict (d.is_there a name) name m s))) c.as_str-in-Reindex.ensures.same c.reindex_of.ensures.verdict in
    let reaches = index-told_on d a file (λ v. Reaches old new result v)
    (λ told. Reaches-lines old new result (reindex_verdict (d.is_there a file) file M S) (says told) (reindex-outputs (d.is_there a file) file M S) refl) in
    subst (λ (asked : Command). IfVisible (verdict_of (g.F.Files.names c.args.files.now) (disk_world d a) asked) (λ v. Reaches old new result v)) (sym c.in-Reindex.is) reaches

pub returns-in-Propedit-clause-verdict : goal.returns-in-Propedit-clause-verdict
returns-in-Propedit-clause-verdict g c =
    let d = g.D.Disk in let a = c.args.disk.now in let file = c.in-Propedit.file in let edits = c.in-Propedit.edits in let result = c.propedit_of.result in
    let old = seen_in g.F.Reads g.F.Files g.R.Report c.args.files.now c.args.report.now in
    let new = seen_in g.F.Reads g.F.Files g.R.Report c.args.files.now c.propedit_of.new.report in
    let M = (d.pair a).media.reads in let S = (d.pair a).sidecar.reads in
    let says = subst (λ (name : List ℕ). OfReads d a (λ m s. SaysVerdict old.lines new.lines result (propedit_verdict (d.is_there a name) name edits m s))) c.as_str-in-Propedit.ensures.same c.propedit_of.ensures.verdict in
    let v = propedit_verdict (d.is_there a file) file edits M S in
    let reaches = edit-told d a file edits (λ v. Reaches old new result v)
    (λ told. Reaches-lines old new result v (says told) (propedit-outputs (d.is_there a file) file edits M S) refl) in
    subst (λ (asked : Command). IfVisible (verdict_of (g.F.Files.names c.args.files.now) (disk_world d a) asked) (λ v. Reaches old new result v)) (sym c.in-Propedit.is) reaches

-- ---- bytes that are read

pub returns-in-Help-clause-octets : goal.returns-in-Help-clause-octets
returns-in-Help-clause-octets g c =
    reads-nothing (g.F.Files.names c.args.files.now) (disk_world g.D.Disk c.args.disk.now) (Ok c.args.command.now) (g.F.Reads.octets_read c.args.files.now + g.D.Reads.octets_read c.args.disk.now)

pub returns-in-Explain-clause-octets : goal.returns-in-Explain-clause-octets
returns-in-Explain-clause-octets g c =
    reads-nothing (g.F.Files.names c.args.files.now) (disk_world g.D.Disk c.args.disk.now) (Ok c.args.command.now) (g.F.Reads.octets_read c.args.files.now + g.D.Reads.octets_read c.args.disk.now)

pub returns-in-Version-clause-octets : goal.returns-in-Version-clause-octets
returns-in-Version-clause-octets g c =
    reads-nothing (g.F.Files.names c.args.files.now) (disk_world g.D.Disk c.args.disk.now) (Ok c.args.command.now) (g.F.Reads.octets_read c.args.files.now + g.D.Reads.octets_read c.args.disk.now)

pub returns-in-Info-clause-octets : goal.returns-in-Info-clause-octets
returns-in-Info-clause-octets g c =
    let disk = g.D.Reads.octets_read c.args.disk.now in let before = g.F.Reads.octets_read c.args.files.now in let now = g.F.Reads.octets_read c.info_of.new.files in
    let most = λ (world : List ℕ → Option (List ℕ)) (name : List ℕ). now ≤ before + most_to_tell Lines world name in
    subst (λ (asked : Command). ReadsWithin (g.F.Files.names c.args.files.now) (disk_world g.D.Disk c.args.disk.now) asked (before + disk) (now + disk)) (sym c.in-Info.is)
    (λ world told. files-alone before now (most_to_tell Lines world c.in-Info.file) disk (subst (most world) c.as_str.ensures.same (c.info_of.ensures.octets world told)))

pub returns-in-Identify-clause-octets : goal.returns-in-Identify-clause-octets
returns-in-Identify-clause-octets g c =
    let disk = g.D.Reads.octets_read c.args.disk.now in let before = g.F.Reads.octets_read c.args.files.now in let now = g.F.Reads.octets_read c.info_of-in-Identify.new.files in
    let most = λ (world : List ℕ → Option (List ℕ)) (name : List ℕ). now ≤ before + most_to_tell Json world name in
    subst (λ (asked : Command). ReadsWithin (g.F.Files.names c.args.files.now) (disk_world g.D.Disk c.args.disk.now) asked (before + disk) (now + disk)) (sym c.in-Identify.is)
    (λ world told. files-alone before now (most_to_tell Json world c.in-Identify.file) disk (subst (most world) c.as_str-in-Identify.ensures.same (c.info_of-in-Identify.ensures.octets world told)))

pub returns-in-Extract-clause-octets : goal.returns-in-Extract-clause-octets
returns-in-Extract-clause-octets g c =
    let disk = g.D.Reads.octets_read c.args.disk.now in let before = g.F.Reads.octets_read c.args.files.now in let now = g.F.Reads.octets_read c.extract_of.new.files in
    let most = λ (world : List ℕ → Option (List ℕ)) (name : List ℕ). now ≤ before + most_to_extract world name c.in-Extract.job in
    subst (λ (asked : Command). ReadsWithin (g.F.Files.names c.args.files.now) (disk_world g.D.Disk c.args.disk.now) asked (before + disk) (now + disk)) (sym c.in-Extract.is)
    (λ world told. files-alone before now (most_to_extract world c.in-Extract.file c.in-Extract.job) disk (subst (most world) c.as_str-in-Extract.ensures.same (c.extract_of.ensures.octets world told)))

pub returns-in-Generate-clause-octets : goal.returns-in-Generate-clause-octets
returns-in-Generate-clause-octets g c =
    let disk = g.D.Reads.octets_read c.args.disk.now in let before = g.F.Reads.octets_read c.args.files.now in let now = g.F.Reads.octets_read c.generate_of.new.files in
    let most = λ (prefix : List ℕ). now ≤ before + most_to_generate c.in-Generate.n prefix in
    subst (λ (asked : Command). ReadsWithin (g.F.Files.names c.args.files.now) (disk_world g.D.Disk c.args.disk.now) asked (before + disk) (now + disk)) (sym c.in-Generate.is)
    (λ world told. files-alone before now (most_to_generate c.in-Generate.n c.in-Generate.prefix) disk (subst most c.as_str-in-Generate.ensures.same (c.generate_of.ensures.octets world told)))

pub returns-in-Recover-clause-octets : goal.returns-in-Recover-clause-octets
returns-in-Recover-clause-octets g c =
    let files = g.F.Reads.octets_read c.args.files.now in let before = g.D.Reads.octets_read c.args.disk.now in let now = g.D.Reads.octets_read c.recover_of.new.disk in
    subst (λ (asked : Command). ReadsWithin (g.F.Files.names c.args.files.now) (disk_world g.D.Disk c.args.disk.now) asked (files + before) (files + now)) (sym c.in-Recover.is)
    (disk-alone before now most_to_recover files c.recover_of.ensures.octets)

pub returns-in-Propedit-clause-octets : goal.returns-in-Propedit-clause-octets
returns-in-Propedit-clause-octets g c =
    let d = g.D.Disk in let a = c.args.disk.now in
    let files = g.F.Reads.octets_read c.args.files.now in
    let within = media-told d a (λ (M : List ℕ). files + g.D.Reads.octets_read c.propedit_of.new.disk ≤ files + g.D.Reads.octets_read a + most_to_edit (length M))
    (λ told. disk-alone (g.D.Reads.octets_read a) (g.D.Reads.octets_read c.propedit_of.new.disk) (most_to_edit (length (d.pair a).media.reads)) files (c.propedit_of.ensures.octets told)) in
    subst (λ (asked : Command). ReadsWithin (g.F.Files.names c.args.files.now) (disk_world d a) asked (files + g.D.Reads.octets_read a) (files + g.D.Reads.octets_read c.propedit_of.new.disk)) (sym c.in-Propedit.is) within

pub returns-in-Reindex-clause-octets : goal.returns-in-Reindex-clause-octets
returns-in-Reindex-clause-octets g c =
    let d = g.D.Disk in let a = c.args.disk.now in
    let files = g.F.Reads.octets_read c.args.files.now in
    let within = media-told d a (λ (M : List ℕ). files + g.D.Reads.octets_read c.reindex_of.new.disk ≤ files + g.D.Reads.octets_read a + most_to_reindex (length M))
    (λ told. disk-alone (g.D.Reads.octets_read a) (g.D.Reads.octets_read c.reindex_of.new.disk) (most_to_reindex (length (d.pair a).media.reads)) files (c.reindex_of.ensures.octets told)) in
    subst (λ (asked : Command). ReadsWithin (g.F.Files.names c.args.files.now) (disk_world d a) asked (files + g.D.Reads.octets_read a) (files + g.D.Reads.octets_read c.reindex_of.new.disk)) (sym c.in-Reindex.is) within

pub returns-in-Merge-clause-octets : goal.returns-in-Merge-clause-octets
returns-in-Merge-clause-octets g c =
    let disk = g.D.Reads.octets_read c.args.disk.now in let before = g.F.Reads.octets_read c.args.files.now in let now = g.F.Reads.octets_read c.merge_of.new.files in
    subst (λ (asked : Command). ReadsWithin (g.F.Files.names c.args.files.now) (disk_world g.D.Disk c.args.disk.now) asked (before + disk) (now + disk)) (sym c.in-Merge.is)
    (λ world told. files-alone before now (most_read world c.in-Merge.words) disk (c.merge_of.ensures.octets world told))

-- ---- objects that are changed

-- An edit leaves its file and the journal as its definition gives them.
pub returns-in-Propedit-clause-touches : goal.returns-in-Propedit-clause-touches
returns-in-Propedit-clause-touches g c =
    let d = g.D.Disk in let a = c.args.disk.now in let b = c.propedit_of.new.disk in let s = status_of c.propedit_of.result in let edits = c.in-Propedit.edits in
    let is = subst (λ (name : List ℕ). IsEditOf g.D.Reads d name (writes_of_edits edits) a b s) c.as_str-in-Propedit.ensures.same c.propedit_of.ensures.edit in
    subst (λ (asked : Command). Touches g.D.Reads d (reach_of asked) c.args.files.now c.args.files.now a b s) (sym c.in-Propedit.is)
    (refl, is)

-- A new index keeps the rest of the file.
pub returns-in-Reindex-clause-touches : goal.returns-in-Reindex-clause-touches
returns-in-Reindex-clause-touches g c =
    let d = g.D.Disk in let a = c.args.disk.now in let b = c.reindex_of.new.disk in let s = status_of c.reindex_of.result in
    let is = subst (λ (name : List ℕ). IsEditOf g.D.Reads d name writes_of_index a b s) c.as_str-in-Reindex.ensures.same c.reindex_of.ensures.edit in
    subst (λ (asked : Command). Touches g.D.Reads d (reach_of asked) c.args.files.now c.args.files.now a b s) (sym c.in-Reindex.is)
    (refl, is)

-- A command in place recovers, edits or indexes its file.
pub recover_of-requires : goal.recover_of-requires
recover_of-requires g c = c.requires.at_rest (subst (λ (asked : Command). IsInPlace (reach_of asked)) (sym c.in-Recover.is) tt)

pub reindex_of-requires : goal.reindex_of-requires
reindex_of-requires g c = c.requires.at_rest (subst (λ (asked : Command). IsInPlace (reach_of asked)) (sym c.in-Reindex.is) tt)

pub propedit_of-requires : goal.propedit_of-requires
propedit_of-requires g c = c.requires.at_rest (subst (λ (asked : Command). IsInPlace (reach_of asked)) (sym c.in-Propedit.is) tt)

-- The job can be done.
pub extract_of-requires : goal.extract_of-requires
extract_of-requires g c = record { job = job-done c.in-Extract.job (subst IsSound c.in-Extract.is c.requires.sound) }

-- ---- names that are opened and made

pub returns-in-Info-clause-asks : goal.returns-in-Info-clause-asks
returns-in-Info-clause-asks g c =
    let f = g.F.Files in let a = c.args.files.now in let b = c.info_of.new.files in
    subst (λ (asked : Command). AsksToObey f a b asked) (sym c.in-Info.is)
    (subst (λ (name : List ℕ). AsksOnly (with_sidecar name) [] (f.asked a) (f.asked b)) c.as_str.ensures.same c.info_of.ensures.asks)

pub returns-in-Identify-clause-asks : goal.returns-in-Identify-clause-asks
returns-in-Identify-clause-asks g c =
    let f = g.F.Files in let a = c.args.files.now in let b = c.info_of-in-Identify.new.files in
    subst (λ (asked : Command). AsksToObey f a b asked) (sym c.in-Identify.is)
    (subst (λ (name : List ℕ). AsksOnly (with_sidecar name) [] (f.asked a) (f.asked b)) c.as_str-in-Identify.ensures.same c.info_of-in-Identify.ensures.asks)

pub returns-in-Extract-clause-asks : goal.returns-in-Extract-clause-asks
returns-in-Extract-clause-asks g c =
    let f = g.F.Files in let a = c.args.files.now in let b = c.extract_of.new.files in
    subst (λ (asked : Command). AsksToObey f a b asked) (sym c.in-Extract.is)
    (subst (λ (name : List ℕ). AsksOnly (with_sidecar name) (names_for c.in-Extract.job) (f.asked a) (f.asked b)) c.as_str-in-Extract.ensures.same c.extract_of.ensures.asks)

pub returns-in-Merge-clause-asks : goal.returns-in-Merge-clause-asks
returns-in-Merge-clause-asks g c =
    let f = g.F.Files in let a = c.args.files.now in let b = c.merge_of.new.files in
    subst (λ (asked : Command). AsksToObey f a b asked) (sym c.in-Merge.is)
    (c.merge_of.ensures.asks)

pub returns-in-Generate-clause-asks : goal.returns-in-Generate-clause-asks
returns-in-Generate-clause-asks g c =
    let f = g.F.Files in let a = c.args.files.now in let b = c.generate_of.new.files in
    subst (λ (asked : Command). AsksToObey f a b asked) (sym c.in-Generate.is)
    (subst (λ (prefix : List ℕ). AsksToGenerate (names_of prefix) (f.asked a) (f.asked b)) c.as_str-in-Generate.ensures.same c.generate_of.ensures.asks)
