-- The effect of a turn at one link on the blocks that are left.
use Rattle.std.proofs.Common.{◌≡◌, ℕ, suc, ◌+◌, max, Bool, true, false, if◌then◌else◌, List, [], ◌∷◌, ◌++◌, length, map, drop, Some, None, refl, sym, ◌∙◌, ap, add-one}
use Rattle.std.specs.List.{slice_get}
use Rattle.std.proofs.Math.Seq.{drop-length}
use Rattle.mkv_io.specs.LiveFiles.{LiveFiles}
use Rattle.output_model.specs.OutputBlock.{Lent, OutputBlock, lent_block}
use Rattle.merge_model.specs.Links.{Given, given_blocks}
use Rattle.merge_model.specs.Lanes.{lane_blocks}
use Rattle.merge_model.specs.Merged.{ordered_from}
use Rattle.lanes.specs.Lent.{lent_ordered}
use Rattle.merge_model.specs.FileLinks.{given_in}
use Rattle.merge_model.specs.declared.link.Link.{Link}
use Rattle.merge_model.specs.declared.link.Link.TheVariants.{Track, Entries}
use Rattle.lanes.specs.Walks.{here_left, links_from, links_left, left, track_left}
use Rattle.lanes.specs.declared.walk.Walk.{Walk}
use Rattle.lanes.proofs.ListLemmas.{drop-at}

-- ---- links that are left

-- the blocks and damaged places of the links after the current one
abbrev pub later : LiveFiles → List Link → ℕ → List Given
later f links at = map (given_in f) (drop (suc at) links)

pub links_left-at : (f : LiveFiles) (links : List Link) (w : Walk) (link : Link) → slice_get links w.at ≡ Some link → links_left f links w ≡ here_left f w link ∷ later f links w.at
links_left-at f links w link is = ap (links_from f w) (drop-at links w.at link is)

-- No link was begun.
pub links_left-fresh : (f : LiveFiles) (links : List Link) (w : Walk) → w.cursor ≡ None → w.next ≡ 0 → links_left f links w ≡ map (given_in f) (drop w.at links)
links_left-fresh f links w cursor next = step (drop w.at links)
  where
    here : (link : Link) → here_left f w link ≡ given_in f link
    here (Track t) = ap (track_left f t w.frames w.stopped) cursor
    here (Entries e) = ap (λ (k : ℕ). here_left f (record w { next = k }) (Entries e)) next

    step : (ls : List Link) → links_from f w ls ≡ map (given_in f) ls
    step [] = refl
    step (link ∷ ls) = ap (λ each. each ∷ map (given_in f) ls) (here link)

-- ---- a turn that stays at its link

-- The rest of the current link was `g`, and is `h` now; the other links are unchanged.
pub record Stays (f : LiveFiles) (links : List Link) (old new : Walk) (g h : Given) : Type 0 where
  pub rest : List Given
  pub was : links_left f links old ≡ g ∷ rest
  pub now : links_left f links new ≡ h ∷ rest
  pub stops : g.stops ≡ h.stops
  pub at : new.at ≡ old.at

-- No block is taken.
pub left-passes : (f : LiveFiles) (scale : ℕ) (links : List Link) (old new : Walk) (g h : Given) → Stays f links old new g h → given_blocks scale g ≡ given_blocks scale h → new.greatest ≡ old.greatest → left f scale links new ≡ left f scale links old
left-passes f scale links old new g h is same greatest =
    ap (λ ls. ordered_from new.greatest (lane_blocks scale ls)) is.now
    ∙ ap (λ (bs : List OutputBlock). ordered_from new.greatest (bs ++ (if h.stops then [] else lane_blocks scale is.rest))) (sym same)
    ∙ ap (λ (st : Bool). ordered_from new.greatest (given_blocks scale g ++ (if st then [] else lane_blocks scale is.rest))) (sym is.stops)
    ∙ ap (λ (m : ℕ). ordered_from m (lane_blocks scale (g ∷ is.rest))) greatest
    ∙ ap (λ ls. ordered_from old.greatest (lane_blocks scale ls)) (sym is.was)

-- A block is taken.
pub left-gives : (f : LiveFiles) (scale : ℕ) (links : List Link) (old new : Walk) (g h : Given) (l : Lent) → Stays f links old new g h → given_blocks scale g ≡ lent_block l ∷ given_blocks scale h → l.head.order ≡ max old.greatest l.head.tick → new.greatest ≡ l.head.order → left f scale links old ≡ lent_ordered l ∷ left f scale links new
left-gives f scale links old new g h l is gives order greatest =
    ap (λ ls. ordered_from old.greatest (lane_blocks scale ls)) is.was
    ∙ ap (λ (bs : List OutputBlock). ordered_from old.greatest (bs ++ (if g.stops then [] else lane_blocks scale is.rest))) gives
    ∙ ap (λ (st : Bool). ordered_from old.greatest (lent_block l ∷ (given_blocks scale h ++ (if st then [] else lane_blocks scale is.rest)))) is.stops
    ∙ ap (λ (m : ℕ). record { order = m; block = lent_block l } ∷ ordered_from m (lane_blocks scale (h ∷ is.rest))) (sym order)
    ∙ ap (λ (m : ℕ). lent_ordered l ∷ ordered_from m (lane_blocks scale (h ∷ is.rest))) (sym greatest)
    ∙ ap (λ ls. lent_ordered l ∷ ordered_from new.greatest (lane_blocks scale ls)) (sym is.now)

-- ---- a turn that leaves its link

-- the number of the link after the current one
abbrev pub behind : Bool → ℕ → ℕ → ℕ
behind stopped count at = if stopped then count else at + 1

-- The walk `new` is at the next link, or after all.
pub record HasLeft (count : ℕ) (old new : Walk) : Type 0 where
  pub at : new.at ≡ behind old.stopped count old.at
  pub cursor : new.cursor ≡ None
  pub next : new.next ≡ 0
  pub frames : new.frames ≡ 0
  pub greatest : new.greatest ≡ old.greatest
  pub told : new.told ≡ old.told

pub has-left : (count : ℕ) (old new : Walk) → new ≡ record old { at = behind old.stopped count old.at; cursor = None; next = 0; frames = 0; stopped = false } → HasLeft count old new
has-left count old new is = record {
  at = ap (λ (w : Walk). w.at) is;
  cursor = ap (λ (w : Walk). w.cursor) is;
  next = ap (λ (w : Walk). w.next) is;
  frames = ap (λ (w : Walk). w.frames) is;
  greatest = ap (λ (w : Walk). w.greatest) is;
  told = ap (λ (w : Walk). w.told) is;
}

pub links_left-behind : (f : LiveFiles) (links : List Link) (old new : Walk) → HasLeft (length links) old new → links_left f links new ≡ (if old.stopped then [] else later f links old.at)
links_left-behind f links old new has =
    links_left-fresh f links new has.cursor has.next
    ∙ ap (λ (k : ℕ). map (given_in f) (drop k links)) has.at
    ∙ step old.stopped
  where
    step : (st : Bool) → map (given_in f) (drop (behind st (length links) old.at) links) ≡ (if st then [] else later f links old.at)
    step true = ap (map (given_in f)) (drop-length links)
    step false = ap (λ (k : ℕ). map (given_in f) (drop k links)) (add-one old.at)

-- Nothing was left of the current link.
pub record Leaves (f : LiveFiles) (links : List Link) (old new : Walk) (g : Given) : Type 0 where
  pub was : links_left f links old ≡ g ∷ later f links old.at
  pub left : HasLeft (length links) old new
  pub stops : g.stops ≡ old.stopped

pub left-leaves : (f : LiveFiles) (scale : ℕ) (links : List Link) (old new : Walk) (g : Given) → Leaves f links old new g → given_blocks scale g ≡ [] → left f scale links new ≡ left f scale links old
left-leaves f scale links old new g is none = sym (
    ap (λ ls. ordered_from old.greatest (lane_blocks scale ls)) is.was
    ∙ ap (λ (bs : List OutputBlock). ordered_from old.greatest (bs ++ (if g.stops then [] else lane_blocks scale (later f links old.at)))) none
    ∙ ap (λ (st : Bool). ordered_from old.greatest (if st then [] else lane_blocks scale (later f links old.at))) is.stops
    ∙ ap (ordered_from old.greatest) (step old.stopped)
    ∙ ap (λ (ls : List Given). ordered_from old.greatest (lane_blocks scale ls)) (sym (links_left-behind f links old new is.left))
    ∙ ap (λ (m : ℕ). ordered_from m (lane_blocks scale (links_left f links new))) (sym is.left.greatest))
  where
    step : (st : Bool) → (if st then [] else lane_blocks scale (later f links old.at)) ≡ lane_blocks scale (if st then [] else later f links old.at)
    step true = refl
    step false = refl
