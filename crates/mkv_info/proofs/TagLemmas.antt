-- The tags of a track.
use Rattle.std.proofs.Common.{◌≡◌, ◌<◌, ◌≤◌, ℕ, ◌==◌, true, false, if◌then◌else◌, [], ◌∷◌, Option, refl, arith}
use Rattle.std.proofs.lemmas.Bool.Decides.{nat_tests}
use Rattle.tree_format.specs.Node.{Node}
use Rattle.track_records.specs.declared.track.Track as tracks
use Rattle.mkv_info.specs.declared.tags.Scope.TheVariants.{Track}
use Rattle.mkv_info.specs.Tags.{counted_tags, tag_count, track_tags}

-- A track that has tags is in the list.
pub tags-told : (tags : Option Node) (k count : ℕ) (t : tracks.Track) → 0 < count → count ≡ tag_count (Track t.uid) tags → track_tags tags k t ≡ counted_tags count k ∷ []
tags-told tags k count t some is = step (tag_count (Track t.uid) tags) is
  where
    step : (n : ℕ) → count ≡ n → (if n == 0 then [] else counted_tags n k ∷ []) ≡ counted_tags count k ∷ []
    step n same = let not_none : (n == 0) ≡ false = grind (arith, nat_tests) in rw (not_none, same) refl

-- Another track is left out.
pub tags-left_out : (tags : Option Node) (k count : ℕ) (t : tracks.Track) → count ≤ 0 → count ≡ tag_count (Track t.uid) tags → track_tags tags k t ≡ []
tags-left_out tags k count t none is = step (tag_count (Track t.uid) tags) is
  where
    step : (n : ℕ) → count ≡ n → (if n == 0 then [] else counted_tags n k ∷ []) ≡ []
    step n same = let is_none : (n == 0) ≡ true = grind (arith, nat_tests) in rw is_none refl
