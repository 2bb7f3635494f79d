-- Each input's children are appended.
use Rattle.std.proofs.Common.{[], sym, ap, ◌∙◌, arith}
use Rattle.mkv_schema.specs.declared.ids.TheConstants.{CHAPTERS}
use Rattle.tree_format.specs.Node.{master, nodes_of}
use Rattle.output_records.specs.Chapters.{chapters_in}
use Rattle.output_records.proofs.RecordLemmas.{chapters-master, built-record, grown-in}
use Rattle.output_records.proofs.ListLemmas.{flat-next}
use Rattle.output_records.proofs.chapters.joined_chapters.Goals as goal

pub empty-requires : goal.empty-requires
empty-requires c = chapters-master

pub loop-input-init : goal.loop-input-init
loop-input-init c = record { exact = (c.in_ok-joined.ensures 31).is; own = built-record CHAPTERS 0 31 [] _ (c.in_ok-joined.ensures 31) (omega arith) }

pub loop-input-preserved : goal.loop-input-preserved
loop-input-preserved c = record {
  exact = grown-in CHAPTERS _ _ _ _ c.loop-input.invariant.exact c.in_ok-push_chapters.ensures.exact ∙ ap (λ l. master CHAPTERS 0 (nodes_of l)) (sym (flat-next c.args.inputs.now _ _ c.loop-input-test.true c.input-item.is chapters_in));
  own = c.in_ok-push_chapters.ensures.own;
}
