-- Results of the calls that read tracks, against the definitions.
use Rattle.std.specs.Prelude.{◌≡◌, ℕ, List, Result, Ok, Err}
use denote.Ref.{Bor}
use Rattle.mkv_io.specs.declared.damage.Damage.{Damage}
use Rattle.ebml_tree.specs.declared.end.TreeEnd.{TreeEnd}
use Rattle.ebml_tree.specs.Outcome.{Refuses}
use Rattle.track_records.specs.declared.track.Track.{Track}

-- The result has `read`, the tracks or the damage by the definitions, unless memory ran out. The contract of `read_tracks` promises it.
abbrev pub ReadsTracks : Result (List Track) TreeEnd → Result (List Track) Damage → Type 0
ReadsTracks (Ok tracks) read = read ≡ Ok tracks
ReadsTracks (Err end) read = Refuses end read

-- the bytes that the code returned by reference, or the damage, as `usable` returns them
abbrev pub lent : Result (Bor (List ℕ)) Damage → Result (List ℕ) Damage
lent (Ok octets) = Ok octets.now
lent (Err damage) = Err damage
