use Rattle.mkv_outputs.proofs.FilesLemmas.{OnOk-map}
use Rattle.remuxer.proofs.planned.StartedLanes.add.Goals as goal

pub returns : goal.returns
returns c =
    OnOk-map c.push-4.result
    (λ inputs. record {
      lane = c.in_ok-start.field-0;
      started = record { starts = c.in_ok-start.ensures.starts; begins = c.in_ok-start.ensures.begins };
      lanes = c.in_ok-push.ensures.ok;
      rules = c.in_ok-push-2.ensures.ok;
      drives = c.in_ok-push-3.ensures.ok;
      inputs = inputs;
    })
    c.push-4.ensures.ok
