-- Bounds on the turns and bytes that are left.
use Rattle.std.proofs.Common.{◌≡◌, ℕ, suc, zero, ◌+◌, ◌-◌, ◌<◌, ◌≤◌, Bool, true, false, List, [], ◌∷◌, length, drop, Some, None, refl, ◌∙◌, ap, add-one, arith}
use Rattle.std.proofs.Math.Seq.{drop-length}
use Rattle.std.specs.List.{slice_get}
use Rattle.mkv_io.specs.LiveFiles.{LiveFiles}
use Rattle.merge_model.specs.declared.link.Link.{Link}
use Rattle.merge_model.specs.declared.link.Link.TheVariants.{Track, Entries}
use Rattle.lanes.specs.Walks.{way, way_of, way_all, here_way, track_way, way_from, due, here_due, track_due, due_from, file_length, files_length}
use Rattle.lanes.specs.declared.walk.Walk.{Walk}
use Rattle.lanes.proofs.ListLemmas.{drop-at}
use Rattle.lanes.proofs.WalkLemmas.{HasLeft, behind}

-- ---- turns

way-at : (links : List Link) (w : Walk) (link : Link) → slice_get links w.at ≡ Some link → way links w ≡ here_way w link + way_all (drop (suc w.at) links)
way-at links w link is = ap (way_from w) (drop-at links w.at link is)

way-fresh : (links : List Link) (w : Walk) → w.cursor ≡ None → w.next ≡ 0 → way links w ≡ way_all (drop w.at links)
way-fresh links w cursor next = step (drop w.at links)
  where
    here : (link : Link) → here_way w link ≡ way_of link
    here (Track t) = ap (track_way t) cursor
    here (Entries e) = let same : length e.entries - w.next ≡ length e.entries - 0 = ap (λ (k : ℕ). length e.entries - k) next in omega arith

    step : (ls : List Link) → way_from w ls ≡ way_all ls
    step [] = refl
    step (link ∷ ls) = ap (λ (n : ℕ). n + way_all ls) (here link)

-- A walk that stays at its link keeps the turns of the next links.
pub way-stays : (links : List Link) (link : Link) (old new : Walk) → slice_get links old.at ≡ Some link → new.at ≡ old.at → here_way new link < here_way old link → way links new < way links old
way-stays links link old new is at less =
    let was : way links old ≡ here_way old link + way_all (drop (suc old.at) links) = way-at links old link is in
    let now : way links new ≡ here_way new link + way_all (drop (suc new.at) links) = way-at links new link (ap (slice_get links) at ∙ is) in
    let rest : way_all (drop (suc new.at) links) ≡ way_all (drop (suc old.at) links) = ap (λ (k : ℕ). way_all (drop (suc k) links)) at in
    omega arith

-- A walk that has left its link has only the turns of the next links.
pub way-leaves : (links : List Link) (link : Link) (old new : Walk) → slice_get links old.at ≡ Some link → HasLeft (length links) old new → 1 ≤ here_way old link → way links new < way links old
way-leaves links link old new is has some =
    let was : way links old ≡ here_way old link + way_all (drop (suc old.at) links) = way-at links old link is in
    let fresh : way links new ≡ way_all (drop new.at links) = way-fresh links new has.cursor has.next in
    let at : way_all (drop new.at links) ≡ way_all (drop (behind old.stopped (length links) old.at) links) = ap (λ (k : ℕ). way_all (drop k links)) has.at in
    let most : way_all (drop (behind old.stopped (length links) old.at) links) ≤ way_all (drop (suc old.at) links) = step old.stopped in
    omega arith
  where
    step : (st : Bool) → way_all (drop (behind st (length links) old.at) links) ≤ way_all (drop (suc old.at) links)
    step true = let none : way_all (drop (length links) links) ≡ 0 = ap way_all (drop-length links) in omega arith
    step false = let one : way_all (drop (old.at + 1) links) ≡ way_all (drop (suc old.at) links) = ap (λ (k : ℕ). way_all (drop k links)) (add-one old.at) in omega arith

-- ---- bytes that may still be read

due-at : (f : LiveFiles) (links : List Link) (w : Walk) (link : Link) → slice_get links w.at ≡ Some link → due f links w ≡ here_due f w link + files_length f (drop (suc w.at) links)
due-at f links w link is = ap (due_from f w) (drop-at links w.at link is)

pub due-fresh : (f : LiveFiles) (links : List Link) (w : Walk) → w.cursor ≡ None → due f links w ≡ files_length f (drop w.at links)
due-fresh f links w cursor = step (drop w.at links)
  where
    here : (link : Link) → here_due f w link ≡ file_length f link
    here (Track t) = ap (track_due f t) cursor
    here (Entries e) = refl

    step : (ls : List Link) → due_from f w ls ≡ files_length f ls
    step [] = refl
    step (link ∷ ls) = let h : here_due f w link ≡ file_length f link = here link in omega arith

pub due-stays : (f : LiveFiles) (links : List Link) (link : Link) (old new : Walk) (before now : ℕ) → slice_get links old.at ≡ Some link → new.at ≡ old.at → now + here_due f new link ≤ before + here_due f old link → now + due f links new ≤ before + due f links old
due-stays f links link old new before now is at less =
    let was : due f links old ≡ here_due f old link + files_length f (drop (suc old.at) links) = due-at f links old link is in
    let will : due f links new ≡ here_due f new link + files_length f (drop (suc new.at) links) = due-at f links new link (ap (slice_get links) at ∙ is) in
    let rest : files_length f (drop (suc new.at) links) ≡ files_length f (drop (suc old.at) links) = ap (λ (k : ℕ). files_length f (drop (suc k) links)) at in
    omega arith

pub due-leaves : (f : LiveFiles) (links : List Link) (link : Link) (old new : Walk) (before now : ℕ) → slice_get links old.at ≡ Some link → HasLeft (length links) old new → now ≤ before + here_due f old link → now + due f links new ≤ before + due f links old
due-leaves f links link old new before now is has less =
    let was : due f links old ≡ here_due f old link + files_length f (drop (suc old.at) links) = due-at f links old link is in
    let fresh : due f links new ≡ files_length f (drop new.at links) = due-fresh f links new has.cursor in
    let at : files_length f (drop new.at links) ≡ files_length f (drop (behind old.stopped (length links) old.at) links) = ap (λ (k : ℕ). files_length f (drop k links)) has.at in
    let most : files_length f (drop (behind old.stopped (length links) old.at) links) ≤ files_length f (drop (suc old.at) links) = step old.stopped in
    omega arith
  where
    step : (st : Bool) → files_length f (drop (behind st (length links) old.at) links) ≤ files_length f (drop (suc old.at) links)
    step true = let none : files_length f (drop (length links) links) ≡ 0 = ap (files_length f) (drop-length links) in omega arith
    step false = let one : files_length f (drop (old.at + 1) links) ≡ files_length f (drop (suc old.at) links) = ap (λ (k : ℕ). files_length f (drop k links)) (add-one old.at) in omega arith

-- A link's file is at most as long as all files together.
pub length-at : (f : LiveFiles) (links : List Link) (k : ℕ) (link : Link) → slice_get links k ≡ Some link → file_length f link ≤ files_length f links
length-at f [] k link is = cc
length-at f (l ∷ links) zero link is = let e : l ≡ link = cc in let s : file_length f l ≡ file_length f link = ap (file_length f) e in omega arith
length-at f (l ∷ links) (suc k) link is = let s : file_length f link ≤ files_length f links = length-at f links k link is in omega arith
