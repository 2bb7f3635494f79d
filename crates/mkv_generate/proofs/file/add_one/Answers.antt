use Rattle.std.proofs.Common.{Bool, ◌∙◌, ap, ap₂}
use Rattle.std.proofs.lemmas.Result.{err_from_is_err_and}
use Rattle.merge_model.specs.Merged.{in_lane}
use Rattle.output_model.specs.OutputBlock.{OutputBlock}
use Rattle.output_model.specs.Cued.{is_cue_by}
use Rattle.output_model.specs.declared.rule.CueRule.{CueRule}
use Rattle.cluster_writer.specs.Lent.{block_of}
use Rattle.mkv_generate.proofs.FileLemmas.{one-added, one-refused}
use Rattle.mkv_generate.proofs.file.add_one.Goals as goal

-- The block couldn't be added.
pub returns-in_err-add_block-clause-adds : goal.returns-in_err-add_block-clause-adds
returns-in_err-add_block-clause-adds g c =
    let p = err_from_is_err_and c.from_residual.result c.from_residual.ensures.1 in
    let same = c.lent.ensures.block ∙ ap (in_lane 1) c.block-block.ensures.is in
    rw p.1 (one-refused g.F.Reads g.F.Files c.args.medium c.args.i c.args.files.now c.add_block.new.files c.args.out.now c.add_block.new.out c.args.buffer.now c.add_block.new.buffer (block_of c.lent.result) c.takes-cued.result same (Unit {0}) c.in_err-add_block.field-0.0 c.in_err-add_block.ensures.adds)

-- The block was added.
pub returns-clause-adds : goal.returns-clause-adds
returns-clause-adds g c =
    let same = c.lent.ensures.block ∙ ap (in_lane 1) c.block-block.ensures.is in
    let key = c.is_key.ensures ∙ ap (λ (b : OutputBlock). b.key) c.block-block.ensures.is in
    let cue = c.takes-cued.ensures ∙ ap₂ (λ (rule : CueRule) (k : Bool). is_cue_by rule k) c.rule_of.ensures key in
    one-added g.F.Reads g.F.Files c.args.medium c.args.i c.args.files.now c.add_block.new.files c.args.out.now c.add_block.new.out c.args.buffer.now c.add_block.new.buffer (block_of c.lent.result) c.takes-cued.result same (tt {0}) c.in_ok-add_block.field-0 cue c.in_ok-add_block.ensures.adds
