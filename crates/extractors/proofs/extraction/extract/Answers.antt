use Rattle.std.proofs.Common.{◌≡◌, ℕ, List, length, IfOk, sym, ◌∙◌, ap, subst}
use Rattle.mkv_io.specs.declared.outside.FileId.{FileId}
use Rattle.mkv_io.specs.Names.{AreOthers}
use Rattle.block_format.specs.Elements.{with_limits}
use Rattle.block_format.specs.Events.{Event, blocks_of, events_of}
use Rattle.cluster_reader.specs.Reading.{left_of}
use Rattle.extractors.specs.BadFrames.{told_of}
use Rattle.extractors.specs.Content.{names_in, outputs_of}
use Rattle.extractors.specs.declared.extracted.Extracted.{Extracted}
use Rattle.extractors.specs.Source.{events_in}
use Rattle.extractors.specs.Whole.{AreWritten}
use Rattle.extractors.proofs.extraction.extract.Goals as goal

-- No output has the name of the source.
pub write_tracks-requires-clause-other : goal.write_tracks-requires-clause-other
write_tracks-requires-clause-other g c =
    subst (λ (f : FileId). AreOthers (g.F.Files.holder c.args.files.now f.n) (names_in c.args.list.now)) (sym c.in_ok-cursor.ensures.begins.file) c.requires.other

-- The outputs have all blocks.
pub returns-clause-writes : goal.returns-clause-writes
returns-clause-writes g c = λ bytes told.
    let here = ap (λ (f : FileId). (g.F.Reads.files (g.F.Reads.standing c.args.files.now)).content f.n) c.in_ok-cursor.ensures.begins.file ∙ told in
    let total : c.args.source.now.outline.total ≡ length bytes = c.requires.source.whole ∙ sym (g.met.F.Reads.told_size (g.F.Reads.standing c.args.files.now) c.args.source.now.file.n bytes told) in
    let events : left_of bytes c.in_ok-cursor.cursor ≡ events_in c.args.source.now bytes =
    c.in_ok-cursor.ensures.left bytes total ∙ ap (λ (scale : ℕ). events_of (with_limits scale) bytes c.args.source.now.outline.segment) c.scale_of.ensures.value in
    subst (λ (es : List Event). AreWritten (g.F.Files.names c.args.files.now) (g.F.Files.names c.write_tracks.new.files) (outputs_of c.args.list.now (blocks_of es)) c.write_tracks.result) events
    (c.write_tracks.ensures.writes bytes here)

-- The report is the file's.
pub returns-clause-tells : goal.returns-clause-tells
returns-clause-tells g c = λ bytes told.
    let here = ap (λ (f : FileId). (g.F.Reads.files (g.F.Reads.standing c.args.files.now)).content f.n) c.in_ok-cursor.ensures.begins.file ∙ told in
    let total : c.args.source.now.outline.total ≡ length bytes = c.requires.source.whole ∙ sym (g.met.F.Reads.told_size (g.F.Reads.standing c.args.files.now) c.args.source.now.file.n bytes told) in
    let events : left_of bytes c.in_ok-cursor.cursor ≡ events_in c.args.source.now bytes =
    c.in_ok-cursor.ensures.left bytes total ∙ ap (λ (scale : ℕ). events_of (with_limits scale) bytes c.args.source.now.outline.segment) c.scale_of.ensures.value in
    subst (λ (es : List Event). IfOk c.write_tracks.result (λ (extracted : Extracted). extracted ≡ told_of c.args.list.now es)) events (c.write_tracks.ensures.tells bytes here)
