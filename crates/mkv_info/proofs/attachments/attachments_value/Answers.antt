use Rattle.std.proofs.Common.{◌+◌, ◌∷◌, [], sym, ◌∙◌, ap, arith}
use Rattle.serde_json.proofs.Views.{view-Array}
use Rattle.meta_records.specs.Attached.{in_file}
use Rattle.mkv_info.specs.Attachments.{attachment_value}
use Rattle.mkv_info.specs.Json.{array_of}
use Rattle.mkv_info.proofs.JsonLemmas.{numbered-all, numbered-map, shown-next}
use Rattle.mkv_info.proofs.attachments.attachments_value.Goals as goal

-- One more item was passed.
pub loop-index-preserved : goal.loop-index-preserved
loop-index-preserved c =
    shown-next (λ id a. attachment_value id (in_file a)) (c.loop-index.index + 1) c.loop-index.index c.args.attachments.now c.index-attachments-index.result c.loop-index.values.items c.push.new.self.items _ _
    c.loop-index-test.true c.index-attachments-index.is c.in_ok-push.ensures.items c.in_ok-attachment_value.ensures c.loop-index.invariant

-- All items were passed.
pub returns : goal.returns
returns c =
    view-Array c.loop-index.values
    ∙ ap array_of (numbered-all (λ id a. attachment_value id (in_file a) ∷ []) (c.loop-index.index + 1) c.loop-index.index c.args.attachments.now _ _ (omega arith) c.loop-index.invariant
    ∙ sym (numbered-map (λ id a. attachment_value id a ∷ []) in_file 1 c.args.attachments.now))
