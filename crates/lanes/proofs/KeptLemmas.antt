-- An output track is unchanged if its links' files are, whatever was written to other files.
use Rattle.std.proofs.Common.{◌≡◌, ℕ, ◌+◌, ◌-◌, true, List, [], ◌∷◌, ◌++◌, map, take, drop, Option, Some, None, refl, sym, ◌∙◌, ap, ap₂, subst}
use Rattle.std.specs.List.{All, slice_get}
use Rattle.std.specs.Option.{unwrap_or}
use Rattle.std.proofs.lemmas.List.Elements.{All-head, All-tail, All-drop}
use Rattle.mkv_io.specs.LiveFiles.{LiveFiles, IsSameFile}
use Rattle.block_format.specs.Elements.{with_limits}
use Rattle.block_format.specs.Events.{events_of}
use Rattle.cluster_reader.specs.Reading.{Reading, left_of, read_to}
use Rattle.cluster_reader.proofs.ReadingLemmas.{CanRead-kept}
use Rattle.merge_model.specs.Lanes.{lane_blocks, lane_damages}
use Rattle.merge_model.specs.Merged.{ordered_from}
use Rattle.merge_model.specs.FileLinks.{IsOpenLink, IsToldLink, KeepsLink, given_in, octets_in, track_with}
use Rattle.merge_model.specs.declared.link.Link.{Link}
use Rattle.merge_model.specs.declared.link.Link.TheVariants.{Track, Entries}
use Rattle.lanes.specs.Lane.{IsReady, KeepsLane, LaneSeen}
use Rattle.lanes.specs.Laws.{StandsAmong}
use Rattle.lanes.specs.Told.{with_all}
use Rattle.lanes.specs.Walks as walks
use Rattle.lanes.specs.Walks.{IsAt, due_from, file_length, files_length, here_due, here_left, links_from, track_behind, track_due, track_left}
use Rattle.lanes.specs.declared.walk.Walk.{Walk}
use Rattle.lanes.proofs.TrackLemmas.{all-at}

-- ---- one link

octets-kept : (f h : LiveFiles) (n : ℕ) → IsSameFile f h n → f.live n ≡ true → octets_in h n ≡ octets_in f n
octets-kept f h n same live = ap (λ (content : Option (List ℕ)). unwrap_or content []) (same.content live)

open-kept : (f h : LiveFiles) (link : Link) → KeepsLink f h link → IsOpenLink f link → IsOpenLink h link
open-kept f h (Track t) same is = record { live = same.alive ∙ is.live; size = same.size is.live ∙ is.size; scale = is.scale }
open-kept f h (Entries e) same is = tt

told-kept : (f h : LiveFiles) (link : Link) → KeepsLink f h link → IsOpenLink f link → IsToldLink f link → IsToldLink h link
told-kept f h (Track t) same is told = same.content is.live ∙ told ∙ ap Some (sym (octets-kept f h t.file.n same is.live))
told-kept f h (Entries e) same is told = tt

at-kept : (f h : LiveFiles) (c : Option Reading) (link : Option Link) → ((one : Link) → link ≡ Some one → KeepsLink f h one) → IsAt f c link → IsAt h c link
at-kept f h None link same is = tt
at-kept f h (Some c) None same is = is
at-kept f h (Some c) (Some (Entries e)) same is = is
at-kept f h (Some c) (Some (Track t)) same is =
    let here : IsSameFile f h c.file.n = subst (λ file. IsSameFile f h file.n) (sym is.1) (same (Track t) refl) in
    (CanRead-kept f h c here is.0, is.1)

link-kept : (f h : LiveFiles) (link : Link) → KeepsLink f h link → IsOpenLink f link → given_in h link ≡ given_in f link
link-kept f h (Track t) same is = ap (λ (bytes : List ℕ). track_with t (events_of (with_limits t.scale) bytes t.outline.value.segment)) (octets-kept f h t.file.n same is.live)
link-kept f h (Entries e) same is = refl

here-kept : (f h : LiveFiles) (w : Walk) (link : Link) → KeepsLink f h link → IsOpenLink f link → here_left h w link ≡ here_left f w link
here-kept f h w (Entries e) same is = refl
here-kept f h w (Track t) same is = step w.cursor
  where
    step : (c : Option Reading) → track_left h t w.frames w.stopped c ≡ track_left f t w.frames w.stopped c
    step None = link-kept f h (Track t) same is
    step (Some c) = ap (λ (bytes : List ℕ). track_behind t w.frames w.stopped (left_of bytes c)) (octets-kept f h t.file.n same is.live)

length-kept : (f h : LiveFiles) (link : Link) → KeepsLink f h link → IsOpenLink f link → file_length h link ≡ file_length f link
length-kept f h (Track t) same is = same.size is.live
length-kept f h (Entries e) same is = refl

due-kept : (f h : LiveFiles) (w : Walk) (link : Link) → KeepsLink f h link → IsOpenLink f link → here_due h w link ≡ here_due f w link
due-kept f h w (Entries e) same is = refl
due-kept f h w (Track t) same is = step w.cursor
  where
    step : (c : Option Reading) → track_due h t c ≡ track_due f t c
    step None = same.size is.live
    step (Some c) = ap (λ (n : ℕ). n - read_to c) (same.size is.live)

-- ---- all links

links-kept : (f h : LiveFiles) (ls : List Link) → All (KeepsLink f h) ls → All (IsOpenLink f) ls → map (given_in h) ls ≡ map (given_in f) ls
links-kept f h [] keeps files = refl
links-kept f h (l ∷ ls) keeps files =
    ap₂ (λ g gs. g ∷ gs) (link-kept f h l (All-head (KeepsLink f h) l ls keeps) (All-head (IsOpenLink f) l ls files))
    (links-kept f h ls (All-tail (KeepsLink f h) l ls keeps) (All-tail (IsOpenLink f) l ls files))

from-kept : (f h : LiveFiles) (w : Walk) (ls : List Link) → All (KeepsLink f h) ls → All (IsOpenLink f) ls → links_from h w ls ≡ links_from f w ls
from-kept f h w [] keeps files = refl
from-kept f h w (l ∷ ls) keeps files =
    ap₂ (λ g gs. g ∷ gs) (here-kept f h w l (All-head (KeepsLink f h) l ls keeps) (All-head (IsOpenLink f) l ls files))
    (links-kept f h ls (All-tail (KeepsLink f h) l ls keeps) (All-tail (IsOpenLink f) l ls files))

lengths-kept : (f h : LiveFiles) (ls : List Link) → All (KeepsLink f h) ls → All (IsOpenLink f) ls → files_length h ls ≡ files_length f ls
lengths-kept f h [] keeps files = refl
lengths-kept f h (l ∷ ls) keeps files =
    ap₂ (λ (m n : ℕ). m + n) (length-kept f h l (All-head (KeepsLink f h) l ls keeps) (All-head (IsOpenLink f) l ls files))
    (lengths-kept f h ls (All-tail (KeepsLink f h) l ls keeps) (All-tail (IsOpenLink f) l ls files))

due_from-kept : (f h : LiveFiles) (w : Walk) (ls : List Link) → All (KeepsLink f h) ls → All (IsOpenLink f) ls → due_from h w ls ≡ due_from f w ls
due_from-kept f h w [] keeps files = refl
due_from-kept f h w (l ∷ ls) keeps files =
    ap₂ (λ (m n : ℕ). m + n) (due-kept f h w l (All-head (KeepsLink f h) l ls keeps) (All-head (IsOpenLink f) l ls files))
    (lengths-kept f h ls (All-tail (KeepsLink f h) l ls keeps) (All-tail (IsOpenLink f) l ls files))

all-told : (f h : LiveFiles) (ls : List Link) → All (KeepsLink f h) ls → All (IsOpenLink f) ls → All (IsToldLink f) ls → All (IsToldLink h) ls
all-told f h ls keeps files told = λ k d lt. told-kept f h _ (keeps k d lt) (files k d lt) (told k d lt)

-- The output track is unchanged.
pub stands-kept : (old new : LiveFiles) (l : LaneSeen) → KeepsLane old new l → IsReady old l → StandsAmong old new l
stands-kept old new l keeps ready = record {
  ready = record {
    files = λ k d lt. open-kept old new _ (keeps k d lt) (ready.files k d lt);
    here = at-kept old new w.cursor (slice_get l.links w.at) (λ one is. all-at (KeepsLink old new) l.links w.at one keeps is) ready.here;
    told = ready.told;
    stopped = ready.stopped;
    frames = ready.frames;
  };
  told = all-told old new l.links keeps ready.files;
  left = ap (λ gs. ordered_from w.greatest (lane_blocks l.scale gs)) same;
  damages = ap (λ gs. take w.at w.told.items ++ with_all (drop w.at w.told.items) (lane_damages gs)) same;
  due = due_from-kept old new w (drop w.at l.links) keeps_left open_left;
  length = lengths-kept old new l.links keeps ready.files;
}
  where
    w : Walk
    w = l.walk

    keeps_left : All (KeepsLink old new) (drop l.walk.at l.links)
    keeps_left = All-drop (KeepsLink old new) l.walk.at l.links keeps

    open_left : All (IsOpenLink old) (drop l.walk.at l.links)
    open_left = All-drop (IsOpenLink old) l.walk.at l.links ready.files

    same : walks.links_left new l.links l.walk ≡ walks.links_left old l.links l.walk
    same = from-kept old new l.walk (drop l.walk.at l.links) keeps_left open_left
