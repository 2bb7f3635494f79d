use Rattle.std.proofs.Common.{◌≡◌, ◌≤◌, [], ◌∷◌, ◌∙◌, Option, Ok, Err, refl, sym, ap, subst, arith}
use Rattle.std.proofs.lemmas.Result.{err_from_is_err_and}
use Rattle.mkv_io.specs.Names.{Names}
use Rattle.mkv_io.specs.Sources.{live_files}
use Rattle.mkv_io.specs.declared.remux_end.RemuxEnd.{RemuxEnd}
use Rattle.mkv_outputs.specs.Drafts.{AreWrittenInOrder}
use Rattle.tree_format.specs.Node.{Node}
use Rattle.output_model.specs.Document.{Document}
use Rattle.output_model.specs.declared.durations.Durations.{Durations}
use Rattle.cues_seekhead.specs.Draft.{draft_of}
use Rattle.time_merge.specs.Merge.{IsTold, left}
use Rattle.remux_plan.specs.Parts.{document_with}
use Rattle.remuxer.specs.Output.{data_of}
use Rattle.remuxer.specs.Places.{part_in}
use Rattle.remuxer.specs.Stands.{Stands}
use Rattle.remuxer.specs.Taking.{GoesOn}
use Rattle.remuxer.specs.declared.writer.BlockWriter.{BlockWriter}
use Rattle.remuxer.proofs.OutputLemmas.{abandoned-keeps, begun-can, begun-goes, begun-in_turn, begun-left, begun-stands, begun-told, drafted-in_turn, durations-scale, ending-goes, ending-left, filled-counts, filled-finishes, finished-keeps, goes-refused, goes-whole, none_counted}
use Rattle.remuxer.proofs.ShortLemmas.{HoldsOfFiles}
use Rattle.remuxer.proofs.output.write_output.Given.{Over}
use Rattle.remuxer.proofs.output.write_output.Goals as goal
use Rattle.remuxer.proofs.output.write_output.Goals.{After-fill, Start}

-- Facts about all files.
of_files : (g : Over) → HoldsOfFiles g.F.Reads g.F.Files
of_files g = record { short = g.met.F.Reads.short; told_size = λ x. g.met.F.Reads.told_size (g.F.Reads.standing x); named = g.met.F.Files.named }

-- the document of the part
abbrev its : (g : Over) (c : Start g) → Document
its g c = document_with (live_files g.F.Reads c.args.files.now) c.args.spec.now (part_in (live_files g.F.Reads c.args.files.now) c.args.blocks.now)

-- The output couldn't be begun.
pub returns-in_err-out-clause-writes : goal.returns-in_err-out-clause-writes
returns-in_err-out-clause-writes g c = λ told.
    let p = err_from_is_err_and c.from_residual-in_err-out.result c.from_residual-in_err-out.ensures.1 in
    rw p.1 (begun-in_turn (g.F.Files.names c.args.files.now) (g.F.Files.names c.begin.new.files) c.args.name.now (its g (goal.at.returns-in_err-out-clause-writes g c).Start) _ _ refl c.in_err-out.ensures.err)

pub fill-requires : goal.fill-requires
fill-requires g c =
    record {
      can = begun-can g.F.Reads g.F.Files c.args.files.now c.begin.new.files c.args.name.now c.in_ok-out.out.file c.args.blocks.now c.in_ok-out.ensures.made c.requires.gives c.requires.apart
          (record { out = c.in_ok-out.out; buffer = c.in_ok-buffer.buffer; blocks = 0; counts = none_counted; durations = c.in_ok-durations.durations; end = 0 }) refl c.in_ok-out.ensures.ok.is_open
          (let same = ap (λ (d : Durations). d.scale) c.in_ok-durations.ensures ∙ durations-scale c.args.spec.now.limits.scale c.args.spec.now.front in
          let some = c.requires.gives.scale_some in
          omega (arith, same, some, c.requires.scale));
      begun = c.requires.begun;
      scale = c.requires.scale;
      chapters = c.requires.records.chapters;
    }

-- ---- it was begun, and filled or not

abbrev writer : (g : Over) (c : After-fill g) → BlockWriter
writer g c = record { out = c.in_ok-out.out; buffer = c.in_ok-buffer.buffer; blocks = 0; counts = none_counted; durations = c.in_ok-durations.durations; end = 0 }

same-left : (g : Over) (c : After-fill g) → left (live_files g.F.Reads c.begin.new.files) c.args.blocks.now.merge ≡ left (live_files g.F.Reads c.args.files.now) c.args.blocks.now.merge
same-left g c = begun-left g.F.Reads g.F.Files c.args.files.now c.begin.new.files c.args.name.now c.in_ok-out.out.file c.args.blocks.now c.in_ok-out.ensures.made c.requires.gives c.requires.apart

told-then : (g : Over) (c : After-fill g) → IsTold (live_files g.F.Reads c.args.files.now) c.args.blocks.now.merge → IsTold (live_files g.F.Reads c.begin.new.files) c.args.blocks.now.merge
told-then g c = begun-told g.F.Reads g.F.Files c.args.files.now c.begin.new.files c.args.name.now c.in_ok-out.out.file c.args.blocks.now c.in_ok-out.ensures.made c.requires.gives c.requires.apart

goes-first : (g : Over) (c : After-fill g) → GoesOn g.F.Reads (data_of c.args.spec.now) c.args.files.now c.begin.new.files c.args.blocks.now c.args.blocks.now
goes-first g c =
    begun-goes g.F.Reads g.F.Files c.args.files.now c.begin.new.files c.args.name.now c.in_ok-out.out.file c.args.blocks.now c.in_ok-out.ensures.made c.requires.gives c.requires.apart (data_of c.args.spec.now) c.in_ok-out.ensures.reads

stands : (g : Over) (c : After-fill g)
    → Stands g.F.Reads g.F.Files (g.F.Files.names c.args.files.now) c.args.name.now c.args.spec.now.rules (its g (goal.at.After-fill g c).Start) c.begin.new.files c.in_ok-out.out c.in_ok-buffer.buffer none_counted (part_in (live_files g.F.Reads c.begin.new.files) c.args.blocks.now).blocks
stands g c =
    begun-stands g.F.Reads g.F.Files c.args.spec.now c.args.name.now c.args.files.now c.begin.new.files c.args.blocks.now (same-left g c) c.in_ok-out.out c.in_ok-buffer.buffer c.in_ok-out.ensures.ok c.in_ok-out.ensures.cues c.in_ok-buffer.ensures.empty c.in_ok-buffer.ensures.limits

-- The output couldn't be finished.
pub returns-in_err-finish_with-in-Ok-clause-writes : goal.returns-in_err-finish_with-in-Ok-clause-writes
returns-in_err-finish_with-in-Ok-clause-writes g c = λ told.
    let end = err_from_is_err_and c.from_residual-in_err-finish_with-in-Ok.result c.from_residual-in_err-finish_with-in-Ok.ensures.1 in
    let after = (goal.at.returns-in_err-finish_with-in-Ok-clause-writes g c).After-fill in
    rw end.1 (filled-finishes g.F.Reads g.F.Files c.args.spec.now c.args.name.now c.args.files.now c.begin.new.files c.args.blocks.now (same-left g after) c.fill.new.files c.finish_with.new.files (writer g after) c.fill.new.writer c.fill.new.blocks c.in-Ok.part
    (c.in-Ok.ensures.fills (told-then g after told)) (stands g after) c.chapters_in-chapters.result.now (Err c.in_err-finish_with-in-Ok.field-0.0) c.in_ok-durations.ensures refl c.chapters_in-chapters.ensures (of_files g) c.in_err-finish_with-in-Ok.ensures.finishes c.in_err-finish_with-in-Ok.ensures.ended)

pub returns-in_err-finish_with-in-Ok-clause-kept : goal.returns-in_err-finish_with-in-Ok-clause-kept
returns-in_err-finish_with-in-Ok-clause-kept g c =
    let a = c.args.files.now in
    finished-keeps g.F.Reads g.F.Files a c.begin.new.files c.fill.new.files c.finish_with.new.files c.args.name.now c.in_ok-out.out.file c.fill.new.writer.out.file (g.met.F.Files.numbered a) c.in_ok-out.ensures.made c.in-Ok.ensures.writes.kept c.in-Ok.ensures.writes.file c.in_err-finish_with-in-Ok.ensures.ended

pub returns-in_err-finish_with-in-Ok-clause-goes : goal.returns-in_err-finish_with-in-Ok-clause-goes
returns-in_err-finish_with-in-Ok-clause-goes g c =
    let end = err_from_is_err_and c.from_residual-in_err-finish_with-in-Ok.result c.from_residual-in_err-finish_with-in-Ok.ensures.1 in
    let goes = goes-first g (goal.at.returns-in_err-finish_with-in-Ok-clause-goes g c).After-fill in
    let ends = c.in_err-finish_with-in-Ok.ensures.ended in
    let same : g.F.Reads.octets_read c.finish_with.new.files ≤ g.F.Reads.octets_read c.fill.new.files = omega (arith, ends.ended.octets, ends.written.octets) in
    rw end.1 (goes-refused {E = RemuxEnd} g.F.Reads (data_of c.args.spec.now) c.args.files.now c.begin.new.files c.fill.new.files c.finish_with.new.files c.args.blocks.now c.fill.new.blocks (Ok c.in-Ok.part) goes c.in-Ok.ensures.goes same)

-- The output was finished.
pub returns-in-Ok-clause-writes : goal.returns-in-Ok-clause-writes
returns-in-Ok-clause-writes g c = λ told.
    let after = (goal.at.returns-in-Ok-clause-writes g c).After-fill in
    filled-finishes g.F.Reads g.F.Files c.args.spec.now c.args.name.now c.args.files.now c.begin.new.files c.args.blocks.now (same-left g after) c.fill.new.files c.finish_with.new.files (writer g after) c.fill.new.writer c.fill.new.blocks c.in-Ok.part
    (c.in-Ok.ensures.fills (told-then g after told)) (stands g after) c.chapters_in-chapters.result.now (Ok c.in_ok-finish_with-in-Ok.field-0) c.in_ok-durations.ensures refl c.chapters_in-chapters.ensures (of_files g) c.in_ok-finish_with-in-Ok.ensures.finishes c.in_ok-finish_with-in-Ok.ensures.ended

pub returns-in-Ok-clause-finds : goal.returns-in-Ok-clause-finds
returns-in-Ok-clause-finds g c =
    let after = (goal.at.returns-in-Ok-clause-finds g c).After-fill in
    let a = c.args.files.now in
    let b = c.begin.new.files in
    let e = c.finish_with.new.files in
    let p = c.args.blocks.now in
    let name = c.args.name.now in
    let done = c.in-Ok.ensures in
    let later = ending-left g.F.Reads g.F.Files a b c.fill.new.files e name c.in_ok-out.out.file c.fill.new.writer.out.file (g.met.F.Files.numbered a) c.in_ok-out.ensures.made done.writes.kept done.writes.file p c.fill.new.blocks c.requires.gives c.requires.apart done.goes c.in_ok-finish_with-in-Ok.ensures.ended in
    record {
      told = λ told. filled-counts g.F.Reads g.F.Files c.args.spec.now name a b p (same-left g after) c.fill.new.files e (writer g after) c.fill.new.writer c.fill.new.blocks c.in-Ok.part (done.fills (told-then g after told)) (stands g after) refl later;
      over = done.over;
    }

pub returns-in-Ok-clause-goes : goal.returns-in-Ok-clause-goes
returns-in-Ok-clause-goes g c =
    let a = c.args.files.now in
    let p = c.args.blocks.now in
    let done = c.in-Ok.ensures in
    let last = ending-goes g.F.Reads g.F.Files a c.begin.new.files c.fill.new.files c.finish_with.new.files c.args.name.now c.in_ok-out.out.file c.fill.new.writer.out.file (g.met.F.Files.numbered a) c.in_ok-out.ensures.made done.writes.kept done.writes.file p c.fill.new.blocks c.requires.gives c.requires.apart done.goes c.in_ok-finish_with-in-Ok.ensures.ended in
    goes-whole g.F.Reads (data_of c.args.spec.now) a c.begin.new.files c.fill.new.files c.finish_with.new.files p c.fill.new.blocks (goes-first g (goal.at.returns-in-Ok-clause-goes g c).After-fill) done.goes last

pub returns-in-Ok-clause-kept : goal.returns-in-Ok-clause-kept
returns-in-Ok-clause-kept g c =
    let a = c.args.files.now in
    finished-keeps g.F.Reads g.F.Files a c.begin.new.files c.fill.new.files c.finish_with.new.files c.args.name.now c.in_ok-out.out.file c.fill.new.writer.out.file (g.met.F.Files.numbered a) c.in_ok-out.ensures.made c.in-Ok.ensures.writes.kept c.in-Ok.ensures.writes.file c.in_ok-finish_with-in-Ok.ensures.ended

-- The output was abandoned.
pub returns-clause-writes : goal.returns-clause-writes
returns-clause-writes g c = λ told.
    let after = (goal.at.returns-clause-writes g c).After-fill in
    let a = c.args.files.now in
    let d = its g (goal.at.returns-clause-writes g c).Start in
    subst (λ (names : Names). AreWrittenInOrder (g.F.Files.names a) names (draft_of c.args.name.now d ∷ [])) (sym c.abandon.ensures.names)
    (drafted-in_turn (g.F.Files.names a) (g.F.Files.names c.fill.new.files) c.args.name.now d (c.in-Err.ensures.fills (told-then g after told) (g.F.Files.names a) c.args.name.now d (stands g after)))

pub returns-clause-kept : goal.returns-clause-kept
returns-clause-kept g c =
    let a = c.args.files.now in
    abandoned-keeps g.F.Reads g.F.Files a c.begin.new.files c.fill.new.files c.abandon.new.files c.args.name.now c.in_ok-out.out.file c.fill.new.writer.out.file (g.met.F.Files.numbered a) c.in_ok-out.ensures.made c.in-Err.ensures.writes.kept c.in-Err.ensures.writes.file c.abandon.ensures

pub returns-clause-goes : goal.returns-clause-goes
returns-clause-goes g c =
    let same : g.F.Reads.octets_read c.abandon.new.files ≤ g.F.Reads.octets_read c.fill.new.files = omega (arith, c.abandon.ensures.octets) in
    goes-refused {T = Option Node} g.F.Reads (data_of c.args.spec.now) c.args.files.now c.begin.new.files c.fill.new.files c.abandon.new.files c.args.blocks.now c.fill.new.blocks (Err c.in-Err.end) (goes-first g (goal.at.returns-clause-goes g c).After-fill) c.in-Err.ensures.goes same
