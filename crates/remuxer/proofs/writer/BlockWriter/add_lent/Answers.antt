use Rattle.std.proofs.Common.{◌≡◌, ℕ, ◌+◌, ◌-◌, Bool, ap, ap₂, ◌∙◌, arith}
use Rattle.std.proofs.lemmas.Result.{err_from_is_err_and}
use Rattle.std.specs.List.{slice_get}
use Rattle.std.specs.Option.{unwrap_or}
use Rattle.output_model.specs.OutputBlock.{OutputBlock}
use Rattle.splitter.specs.Sections.{in_part}
use Rattle.cluster_writer.specs.Lent.{block_of}
use Rattle.output_model.specs.Cued.{is_cue_by}
use Rattle.output_model.specs.declared.rule.CueRule.TheVariants as cue_rule
use Rattle.remuxer.specs.Places.{block_lent}
use Rattle.remuxer.specs.declared.writer.BlockWriter.{BlockWriter}
use Rattle.remuxer.proofs.TakingLemmas.{refused-lent, takes-lent}
use Rattle.remuxer.proofs.writer.BlockWriter.add_lent.Goals as goal

pub returns-in_err-begins-clause-takes : goal.returns-in_err-begins-clause-takes
returns-in_err-begins-clause-takes g c =
    let end = err_from_is_err_and c.from_residual.result c.from_residual.ensures.1 in
    let block = c.lent_by-block.ensures.block in
    let w' : BlockWriter = record c.args.self.now { out = c.add_block.new.out; buffer = c.add_block.new.buffer } in
    rw end.1 (refused-lent (Unit {0}) g.F.Reads g.F.Files c.args.rules.now (block_of c.lent_by-block.result) (in_part c.args.start (block_lent c.args.k c.args.lane.now)) c.is_cued-cued.result c.args.files.now c.add_block.new.files c.args.self.now w' c.in_err-begins.field-0.0 block c.in_err-begins.ensures.adds)

pub returns-clause-takes : goal.returns-clause-takes
returns-clause-takes g c =
    let block = c.lent_by-block.ensures.block in
    let place : c.args.k ≡ c.args.k + 1 - 1 = omega arith in
    let cued = c.is_cued-cued.ensures ∙ ap₂ (λ (n : ℕ) (key : Bool). is_cue_by (unwrap_or (slice_get c.args.rules.now n) cue_rule.Never) key) place (ap (λ (b : OutputBlock). b.key) block) in
    let w' : BlockWriter = record c.args.self.now { out = c.add_block.new.out; buffer = c.add_block.new.buffer; counts = c.add.new.self } in
    takes-lent {T = Unit {0}} g.F.Reads g.F.Files c.args.rules.now (block_of c.lent_by-block.result) (in_part c.args.start (block_lent c.args.k c.args.lane.now)) c.is_cued-cued.result c.in_ok-begins.begins c.args.files.now c.add_block.new.files c.args.self.now w' tt block cued c.add.ensures c.in_ok-begins.ensures.adds

pub returns-clause-held : goal.returns-clause-held
returns-clause-held g c = λ small. c.in_ok-begins.ensures.most
