use Rattle.std.proofs.Common.{◌≡◌, List, Result, sym, ◌∙◌, ap}
use Rattle.std.proofs.lemmas.Result.{IfOk-weaker}
use Rattle.mkv_io.specs.Results.{and_then}
use Rattle.mkv_io.specs.declared.damage.Damage.{Damage}
use Rattle.track_records.specs.declared.track.Track.{Track}
use Rattle.meta_records.proofs.RecordsLemmas.{held}
use Rattle.mkv_info.specs.Tracks.{tracks_in}
use Rattle.mkv_info.proofs.tracks.tracks_of.Goals as goal

-- A Tracks is read whole.
pub first_tree-requires-clause-held : goal.first_tree-requires-clause-held
first_tree-requires-clause-held g c = held.tracks

-- Its tracks are the file's.
pub returns-in-Ok-clause-ok : goal.returns-in-Ok-clause-ok
returns-in-Ok-clause-ok g c =
    IfOk-weaker c.tracks_in.result (λ (found : Result (List Track) Damage). found ≡ tracks_in c.in-Ok.tracks) _
    (λ found is bytes told outline. is ∙ sym (ap (λ tree. and_then tree tracks_in) (c.in-Ok.ensures.exact bytes told 0 outline))) c.tracks_in.ensures.ok

-- The Tracks is refused.
pub returns-in-Err-Refused-clause-ok : goal.returns-in-Err-Refused-clause-ok
returns-in-Err-Refused-clause-ok g c = λ bytes told outline.
    rw c.in-Err-Refused.field-0-is
    (sym (ap (λ tree. and_then tree tracks_in) (rw c.in-Err-Refused.field-0-is at (c.in-Err-Refused.ensures.exact bytes told 0 outline))))
