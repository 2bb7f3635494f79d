-- The bytes that are put back before each frame of a track.
use Rattle.std.proofs.Common.{◌≡◌, ◌≤◌, ℕ, Bool, true, false, cond, List, [], ◌∷◌, length, Option, None, sym, subst, arith}
use Rattle.mkv_io.specs.declared.damage.Damage.{Damage}
use Rattle.mkv_schema.specs.Outline.{first_damage}
use Rattle.file_format.specs.Encoding.{bad_scale, most_stripped, prefix_of, usable_causes}
use Rattle.file_format.proofs.EncodingLemmas.{usable-few}
use Rattle.track_records.specs.declared.track.Track.{Track}
use Rattle.track_records.specs.Usable.{causes_of, prefix_for}

-- Of a track that can be used they keep the limit.
pub prefix-short : (track : Track) (cause : Option Damage) (prefix : List ℕ) → cause ≡ first_damage (causes_of track) → cause ≡ None → prefix ≡ prefix_for track → length prefix ≤ most_stripped
prefix-short track cause prefix found none is = split track.stored found is
  where
    split : (stored : Bool) → cause ≡ first_damage (cond stored (bad_scale track.entry ∷ []) (usable_causes track.entry)) → prefix ≡ cond stored [] (prefix_of track.entry) → length prefix ≤ most_stripped
    split true found is = let P : List ℕ → Type 0 = λ l. length l ≤ most_stripped in subst P (sym is) (omega arith)
    split false found is = usable-few track.entry cause prefix found none is
