-- The lines of tracks.
use Rattle.std.proofs.Common.{◌≡◌, ℕ, ◌+◌, ◌<◌, List, ◌∷◌, length, drop, get_or, sym, ◌∙◌, ap, subst}
use Rattle.std.proofs.lemmas.List.{drop_more}
use Rattle.mkv_lines.specs.Said.{ReportLines, SaysUpTo}
use Rattle.track_records.specs.declared.track.Track.{Track}
use Rattle.mkv_info.specs.Tracks.{shown_track, track_lines}

-- The next track's line is the first of the rest.
pub track_lines-next : (old now : ReportLines) (all : List (List ℕ)) (k : ℕ) (tracks : List Track) (t : Track) → k < length tracks → t ≡ get_or tracks k t → SaysUpTo old now all (track_lines k (drop k tracks)) → SaysUpTo old now all (shown_track k t ∷ track_lines (k + 1) (drop (k + 1) tracks))
track_lines-next old now all k tracks t below is way =
    subst (SaysUpTo old now all) (ap (track_lines k) (drop_more tracks k t below ∙ ap (λ (one : Track). one ∷ drop (k + 1) tracks) (sym is))) way
