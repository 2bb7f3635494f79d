use Rattle.std.proofs.Common.{◌≡◌, ℕ, List, [], ◌++◌, unwrap_or, sym, ◌∙◌, ap, subst, rules, w64, SFits}
use Rattle.std.proofs.lemmas.Int.{to_z-of_z}
use Rattle.elementary.specs.Pgs.{segment_header}
use Rattle.mkv_outputs.specs.Outputs.{with_more}
use Rattle.mkv_outputs.specs.Sinks.{Gives}
use Rattle.extractors.specs.Content.{whole, written_of}
use Rattle.extractors.specs.Walks.{frame_of, segmented}
use Rattle.extractors.specs.declared.frame_form.FrameForm.{FrameForm}
use Rattle.extractors.proofs.FramesLemmas.{Gives-err, HasPart-none}
use Rattle.extractors.proofs.frames.give_frame.Goals as goal

-- Memory for the frame ran out, and nothing was written.
pub returns-in_err-whole-in-AnnexB-clause-gives : goal.returns-in_err-whole-in-AnnexB-clause-gives
returns-in_err-whole-in-AnnexB-clause-gives g c =
    Gives-err g.F.Files c.args.files.now c.args.files.now c.args.outputs.now c.args.outputs.now c.args.k _ c.from_residual-in_err-whole-in-AnnexB.result c.from_residual-in_err-whole-in-AnnexB.ensures.0
    (HasPart-none g.F.Files c.args.files.now c.args.outputs.now c.args.k _)

pub returns-in_err-whole-in-Pgs-clause-gives : goal.returns-in_err-whole-in-Pgs-clause-gives
returns-in_err-whole-in-Pgs-clause-gives g c =
    Gives-err g.F.Files c.args.files.now c.args.files.now c.args.outputs.now c.args.outputs.now c.args.k _ c.from_residual-in_err-whole-in-Pgs.result c.from_residual-in_err-whole-in-Pgs.ensures.0
    (HasPart-none g.F.Files c.args.files.now c.args.outputs.now c.args.k _)

-- The segments of a PGS frame are its written form.
pub returns-in-Pgs-clause-gives : goal.returns-in-Pgs-clause-gives
returns-in-Pgs-clause-gives g c =
    let f = frame_of c.args.frame in
    let fits : SFits w64 c.args.frame.time = search rules in
    let header : c.segment_header.result ≡ segment_header f.time = c.segment_header.ensures ∙ ap segment_header (to_z-of_z w64 c.args.frame.time fits) in
    subst (λ (octets : List ℕ). Gives g.F.Files c.args.files.now c.give_segments.new.files c.args.outputs.now c.give_segments.new.outputs (with_more c.args.k octets) c.give_segments.result)
    (ap (λ (header : List ℕ). segmented header c.in_ok-whole-in-Pgs.whole.now) header
    ∙ ap (segmented (segment_header f.time)) (c.in_ok-whole-in-Pgs.ensures ∙ ap (λ (prefix : List ℕ). prefix ++ f.octets) c.as_slice-prefix.ensures)
    ∙ ap (λ (kind : FrameForm). unwrap_or (written_of kind c.args.frame.number f (whole c.args.output.now.prefix f)) []) (sym c.in-Pgs.is))
    c.give_segments.ensures.gives
