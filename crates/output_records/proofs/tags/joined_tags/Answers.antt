-- Each input's Tags are appended.
use Rattle.std.proofs.Common.{◌≡◌, [], ◌∷◌, ◌++◌, ◌+◌, List, sym, ap, ◌∙◌, arith, append_assoc, drop}
use Rattle.mkv_schema.specs.declared.ids.TheConstants.{TAGS}
use Rattle.tree_format.specs.Node.{Node}
use Rattle.output_records.specs.declared.inputs.InputRecords.{InputRecords}
use Rattle.output_records.specs.declared.uids.Uids.{Uids}
use Rattle.output_records.specs.Tags.{all_uids, tags_in, tags_from, uids_of}
use Rattle.output_records.proofs.RecordLemmas.{tags-master, built-record, grown-in}
use Rattle.output_records.proofs.ListLemmas.{drop-next}
use Rattle.output_records.proofs.UidLemmas.{behind-is}
use Rattle.output_records.proofs.tags.joined_tags.Goals as goal

pub empty-requires : goal.empty-requires
empty-requires c = tags-master

pub loop-input-init : goal.loop-input-init
loop-input-init c = record {
  written = [];
  exact = (c.in_ok-joined.ensures 31).is;
  all =
      ap (λ e. tags_from (all_uids e c.as_slice-chapters.result.now c.as_slice-attachments.result.now) c.args.inputs.now) c.as_slice-editions.ensures
      ∙ ap (λ h. tags_from (all_uids c.args.numbers.now.editions h c.as_slice-attachments.result.now) c.args.inputs.now) c.as_slice-chapters.ensures
      ∙ ap (λ a. tags_from (all_uids c.args.numbers.now.editions c.args.numbers.now.chapters a) c.args.inputs.now) c.as_slice-attachments.ensures;
  own = built-record TAGS 0 31 [] _ (c.in_ok-joined.ensures 31) (omega arith);
}

pub loop-input-preserved : goal.loop-input-preserved
loop-input-preserved c =
    let input : InputRecords = c.input-item.result in
    let left : Uids = all_uids c.loop-input.editions.now c.loop-input.chapters.now c.loop-input.attachments.now in
    let rest : List InputRecords = drop (c.loop-input.input-index + 1) c.args.inputs.now in
    let before : List Node = c.loop-input.invariant.written in
    let next : drop c.loop-input.input-index c.args.inputs.now ≡ input ∷ rest = drop-next c.args.inputs.now c.loop-input.input-index input c.loop-input-test.true c.input-item.is in
    let behind_it =
    behind-is c.in_ok-uids.uids (uids_of input) c.loop-input.editions.now c.loop-input.chapters.now c.loop-input.attachments.now _ _ _ _ _ _ c.in_ok-uids.ensures c.len.ensures c.len-in-loop-input.ensures c.len-in-loop-input-2.ensures
    c.behind-editions.ensures c.behind-chapters.ensures c.behind-attachments.ensures in
    record {
      written = before ++ tags_in input left;
      exact = grown-in TAGS _ _ _ _ c.loop-input.invariant.exact (c.in_ok-push_tags.ensures.exact left c.in_ok-map.ensures);
      all =
          append_assoc before (tags_in input left) (tags_from (all_uids c.behind-editions.result.now c.behind-chapters.result.now c.behind-attachments.result.now) rest)
          ∙ ap (λ l. before ++ l) (ap (λ n. tags_in input left ++ tags_from n rest) behind_it ∙ ap (tags_from left) (sym next))
          ∙ c.loop-input.invariant.all;
      own = c.in_ok-push_tags.ensures.own;
    }
