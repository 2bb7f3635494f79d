-- Each file has the next number.
use Rattle.std.proofs.Common.{◌<◌, length, sym, subst, ◌∙◌, arith}
use Rattle.std.specs.Prelude.{All}
use Rattle.std.proofs.lemmas.List.Elements.{All-push}
use Rattle.output_records.specs.Inputs.{IsAttached}
use Rattle.output_records.proofs.ListLemmas.{uids-none, next-few, files-next}
use Rattle.output_records.proofs.attachments.attachments_of.Goals as goal

pub loop-input-init : goal.loop-input-init
loop-input-init c = record { exact = c.new-written.ensures ∙ sym (uids-none c.args.numbers.now); sound = subst (All IsAttached) (sym c.new-written.ensures) (λ k d inside. absurd (omega arith)) }

pub offset_bounds-numbers-len : goal.offset_bounds-numbers-len
offset_bounds-numbers-len c =
    let inside : c.len.result < length c.args.numbers.now = next-few _ _ _ _ _ _ _ c.loop-input-test.true c.input-item.is c.as_slice-file-items.ensures c.loop-file-test.true c.requires.enough c.loop-file.invariant.exact _ c.len.ensures in
    omega arith

pub bounds-numbers-len : goal.bounds-numbers-len
bounds-numbers-len c = next-few _ _ _ _ _ _ _ c.loop-input-test.true c.input-item.is c.as_slice-file-items.ensures c.loop-file-test.true c.requires.enough c.loop-file.invariant.exact _ c.len.ensures

pub loop-file-preserved : goal.loop-file-preserved
loop-file-preserved c = record {
  exact = files-next _ _ _ _ _ _ _ c.loop-input-test.true c.input-item.is c.as_slice-file-items.ensures c.loop-file-test.true c.requires.enough c.loop-file.invariant.exact _ _ _ _ c.len.ensures c.file-item.is c.in_ok-push.ensures.ok c.in_ok-with_uid.ensures.exact;
  sound = subst (All IsAttached) (sym c.in_ok-push.ensures.ok) (All-push IsAttached c.loop-file.written c.in_ok-with_uid.field-0 c.loop-file.invariant.sound c.in_ok-with_uid.ensures.sound);
}
