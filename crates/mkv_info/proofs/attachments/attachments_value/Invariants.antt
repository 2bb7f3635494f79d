-- All values are the values made and the values of the rest.
use Rattle.std.proofs.Common.{◌≡◌, ◌+◌, ◌++◌, ◌∷◌, [], drop, map}
use Rattle.serde_json.specs.View.{view}
use Rattle.meta_records.specs.Attached.{in_file}
use Rattle.mkv_info.specs.Attachments.{attachment_value}
use Rattle.mkv_info.specs.Json.{numbered}
use Rattle.mkv_info.proofs.attachments.attachments_value.Given as goal

abbrev pub invariant-loop-index : goal.invariant-loop-index
invariant-loop-index l =
    map view l.values.items ++ numbered (λ id a. attachment_value id (in_file a) ∷ []) (l.index + 1) (drop l.index l.attachments)
    ≡ numbered (λ id a. attachment_value id (in_file a) ∷ []) 1 l.attachments
