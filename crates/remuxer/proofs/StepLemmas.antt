-- A step of a merge, the place of its block, and the blocks that are left.
use Rattle.std.proofs.Common.{◌≡◌, ◌≤◌, ◌<◌, ℕ, ◌+◌, ◌-◌, ◌*◌, ◌/◌, ◌^◌, max, Bool, true, false, ◌&&◌, ◌||◌, List, [], ◌∷◌, ◌++◌, All, length, map, Option, Some, None, refl, sym, ◌∙◌, ap, ap₂, subst, zero-add, arith}
use Rattle.std.specs.Prelude.{if◌then◌else◌, is_none, is_some}
use Rattle.std.specs.List.{slice_get}
use Rattle.std.specs.Option.{IfSome, option_map, option_map_or}
use Rattle.std.proofs.lemmas.List.Elements.{All-cons, All-head, All-map, All-nil, All-tail}
use Rattle.std.proofs.lemmas.Option.{get_or_from_slice_get, slice_get_within}
use Rattle.mkv_io.specs.LiveFiles.{LiveFiles}
use Rattle.output_model.specs.OutputBlock.{OutputBlock, lent_block}
use Rattle.output_model.specs.Block.{frame_octets}
use Rattle.merge_model.specs.Merged.{in_lane}
use Rattle.cluster_writer.specs.Lengths.{octets_taken}
use Rattle.cluster_writer.proofs.LengthLemmas.{length-block_element}
use Rattle.output_model.specs.declared.heads.OutHead.{OutHead}
use Rattle.merge_model.specs.declared.link.Link.{Link}
use Rattle.merge_model.specs.declared.link.Link.TheVariants.{Track, Entries}
use Rattle.merge_model.specs.declared.link.TrackLink.{TrackLink}
use Rattle.lanes.specs.declared.place.Placed.{Placed}
use Rattle.lanes.specs.Times.{most_time}
use Rattle.cluster_reader.specs.Reading.{Reading}
use Rattle.lanes.specs.Lane.{LaneSeen, lent}
use Rattle.lanes.specs.Walks.{lent_by, lent_by_track}
use Rattle.lanes.specs.declared.walk.Walk.{Walk}
use Rattle.time_merge.specs.Merge.{GivesOfLane, IsReady, MergeSeen, StepsTo, left}
use Rattle.time_merge.specs.Queues.{KeepsQueues, LaneKept, lane_kept}
use Rattle.time_merge.specs.declared.queue.Queue.{Queue}
use Rattle.time_merge.proofs.QueueLemmas.{count-kept}
use Rattle.splitter.specs.declared.cuts.Place.{Place}
use Rattle.splitter.specs.Split.{keeps}
use Rattle.splitter.specs.Sections.{Part, Split, beyond, may_cut, parts, parts_in, sections_at, within, in_part}
use Rattle.splitter.specs.Steps.{CutsSeen, counted, is_cut, is_kept, place_at, place_of, start_of, stepped}
use Rattle.remuxer.proofs.PlacedLemmas.{PlacesOne, drives_at}
use Rattle.remuxer.specs.declared.placed.Ahead.{Ahead}
use Rattle.remux_plan.specs.declared.TheConstants.{MAX_SCALE}
use Rattle.remuxer.specs.Places.{CanGive, IsAhead, IsFresh, IsLimit, LendsAt, StandsAhead, StandsAt, ahead_at, ahead_of, behind_part, block_lent, first_tick, is_same, is_within, lane_within, lent_ahead, lent_at, part_in, parts_from, parts_left, rest_of_part, split_in, start_in}
use Rattle.remuxer.specs.declared.placed.PlacedBlocks.{PlacedBlocks}
use Rattle.remuxer.proofs.PartLemmas.{behind-cut, beyond-cut, beyond-next, fits-of, no-limit, passed-next, within-cut, within-next}

-- ---- the block of an output track

-- The head of the block is the placed one.
head-by_track : (p : Placed) (t : TrackLink) (c : Option Reading) → (lent_by_track p t c).head ≡ p.head
head-by_track p t None = refl
head-by_track p t (Some c) = refl

lent-head : (w : Walk) (o : Option Link) → (lent_by w o).head ≡ w.placed.head
lent-head w None = refl
lent-head w (Some (Track t)) = head-by_track w.placed t w.cursor
lent-head w (Some (Entries e)) = refl

-- The number of the output track takes one byte.
taken-in_lane : (n : ℕ) (x : OutputBlock) → octets_taken (in_lane n x) ≡ octets_taken x
taken-in_lane n x =
    length-block_element x.tick (in_lane n x) (length (frame_octets x.lace x.frames)) refl ∙ sym (length-block_element x.tick x (length (frame_octets x.lace x.frames)) refl)

-- A fact about all output tracks holds for one.
of-one : (P : Queue → Type 0) (qs : List Queue) (k : ℕ) (q : Queue) → All P qs → slice_get qs k ≡ Some q → P q
of-one P qs k q all here = subst P (get_or_from_slice_get qs k q q here) (all k q (slice_get_within qs k q here))

pub scales-kept : (n : ℕ) (old new : List Queue) → KeepsQueues old new → All (λ (q : Queue). q.lane.scale ≡ n) old → All (λ (q : Queue). q.lane.scale ≡ n) new
scales-kept n old new keeps all =
    from_kept new (subst (All (λ (k : LaneKept). k.scale ≡ n)) (sym keeps) (All-map (λ (k : LaneKept). k.scale ≡ n) lane_kept old all))
  where
    from_kept : (qs : List Queue) → All (λ (k : LaneKept). k.scale ≡ n) (map lane_kept qs) → All (λ (q : Queue). q.lane.scale ≡ n) qs
    from_kept [] each = All-nil (λ (q : Queue). q.lane.scale ≡ n)
    from_kept (q ∷ qs) each =
        All-cons (λ (one : Queue). one.lane.scale ≡ n) q qs (All-head (λ (k : LaneKept). k.scale ≡ n) (lane_kept q) (map lane_kept qs) each)
        (from_kept qs (All-tail (λ (k : LaneKept). k.scale ≡ n) (lane_kept q) (map lane_kept qs) each))

early-time : (tick scale : ℕ) → scale ≤ MAX_SCALE → tick * scale ≤ most_time + scale / 2 → tick * scale < 2 ^ 64
early-time tick scale most le = let half : scale / 2 ≤ scale = grind arith in omega (arith, half, le, most)

-- ---- the place of a block

-- A block that begins a section isn't in the current part.
begins-none : (kept : Bool) (start : ℕ) (a : Ahead) → a.place ≡ place_at kept true start → is_within (Some a) ≡ false
begins-none kept start a place = ap (λ (q : Bool). is_some (if q then Some a.lane else None)) (ap is_same place ∙ either kept)
  where
    either : (k : Bool) → is_same (place_at k true start) ≡ false
    either true = refl
    either false = refl

-- A block in a section that isn't written isn't in the current part.
out-none : (begins : Bool) (start : ℕ) (a : Ahead) → a.place ≡ place_at false begins start → is_within (Some a) ≡ false
out-none begins start a place = ap (λ (p : Place). is_some (if is_same p then Some a.lane else None)) place

-- Other blocks are in the current part.
same-within : (start : ℕ) (a : Ahead) → a.place ≡ place_at true false start → is_within (Some a) ≡ true
same-within start a place = ap (λ (p : Place). is_some (if is_same p then Some a.lane else None)) place

-- If the block ahead is in the current part, its section is written.
pub within-kept : (m : MergeSeen) (c : CutsSeen) (a : Ahead) → IsAhead m c a → is_within (Some a) ≡ true → is_kept c ≡ true
within-kept m c a ahead is = either (is_kept c) ahead.place
  where
    either : (k : Bool) → a.place ≡ place_at k ahead.begins (start_of c) → k ≡ true
    either true place = refl
    either false place = let out = out-none ahead.begins (start_of c) a place in absurd (cc)

-- A block that begins no part continues one, or its section isn't written.
pub passed-kept : (m : MergeSeen) (c : CutsSeen) (a : Ahead) → IsAhead m c a → start_in a.place ≡ None → is_within (Some a) ≡ false → is_kept c ≡ false
passed-kept m c a ahead none isnt = either (is_kept c) ahead.begins ahead.place
  where
    either : (k begins : Bool) → a.place ≡ place_at k begins (start_of c) → k ≡ false
    either true true place = let some : start_in a.place ≡ Some (start_of c) = ap start_in place in absurd (cc)
    either true false place = let same = same-within (start_of c) a place in absurd (cc)
    either false begins place = refl

-- The load of a section that a block begins is only its own.
counts-first : (cut : Bool) (start : Option ℕ) (size : Option ℕ) (load n : ℕ) → (is_none start ≡ true → load ≡ 0) → (cut || is_none start) ≡ true → counted size ((if cut then 0 else load) + n) ≡ counted size n
counts-first true start size load n empty is = ap (counted size) (zero-add n)
counts-first false start size load n empty is = ap (counted size) (ap (λ (k : ℕ). k + n) (empty is) ∙ zero-add n)

-- ---- blocks that are left, by the block ahead

module _ (f : LiveFiles) (b : PlacedBlocks) where
  module _ (is : is_within b.ahead ≡ true) where
    pub rest-within : rest_of_part f b ≡ lent_ahead b ++ within (split_in b) (start_of b.cuts) b.cuts.load (left f b.merge)
    rest-within = ap (λ (q : Bool). if q then lent_ahead b ++ within (split_in b) (start_of b.cuts) b.cuts.load (left f b.merge) else []) is

    pub behind-within : behind_part f b ≡ beyond (split_in b) (start_of b.cuts) b.cuts.load (left f b.merge)
    behind-within = ap (λ (q : Bool). if q then beyond (split_in b) (start_of b.cuts) b.cuts.load (left f b.merge) else ahead_of b.merge b.ahead (left f b.merge)) is

    pub parts-within : parts_left f b ≡ parts_in (split_in b) (sections_at (split_in b) (beyond (split_in b) (start_of b.cuts) b.cuts.load (left f b.merge)))
    parts-within =
        ap (λ (q : Bool). if q then parts_in (split_in b) (sections_at (split_in b) (behind_part f b)) else parts_from (split_in b) (start_of b.cuts) (behind_part f b)) is
        ∙ ap (λ (bs : List OutputBlock). parts_in (split_in b) (sections_at (split_in b) bs)) behind-within

  module _ (isnt : is_within b.ahead ≡ false) where
    pub rest-none : rest_of_part f b ≡ []
    rest-none = ap (λ (q : Bool). if q then lent_ahead b ++ within (split_in b) (start_of b.cuts) b.cuts.load (left f b.merge) else []) isnt

    pub behind-ahead : behind_part f b ≡ ahead_of b.merge b.ahead (left f b.merge)
    behind-ahead = ap (λ (q : Bool). if q then beyond (split_in b) (start_of b.cuts) b.cuts.load (left f b.merge) else ahead_of b.merge b.ahead (left f b.merge)) isnt

    pub parts-ahead : parts_left f b ≡ parts_from (split_in b) (start_of b.cuts) (ahead_of b.merge b.ahead (left f b.merge))
    parts-ahead =
        ap (λ (q : Bool). if q then parts_in (split_in b) (sections_at (split_in b) (behind_part f b)) else parts_from (split_in b) (start_of b.cuts) (behind_part f b)) isnt
        ∙ ap (parts_from (split_in b) (start_of b.cuts)) behind-ahead

-- The blocks left are the same if the merge has the same blocks left.
module _ (f h : LiveFiles) (b : PlacedBlocks) (same : left h b.merge ≡ left f b.merge) where
  pub rest-same : rest_of_part h b ≡ rest_of_part f b
  rest-same = ap (λ (bs : List OutputBlock). if is_within b.ahead then lent_ahead b ++ within (split_in b) (start_of b.cuts) b.cuts.load bs else []) same

  pub behind-same : behind_part h b ≡ behind_part f b
  behind-same = ap (λ (bs : List OutputBlock). if is_within b.ahead then beyond (split_in b) (start_of b.cuts) b.cuts.load bs else ahead_of b.merge b.ahead bs) same

  pub parts-same : parts_left h b ≡ parts_left f b
  parts-same = ap (λ (bs : List OutputBlock). if is_within b.ahead then parts_in (split_in b) (sections_at (split_in b) bs) else parts_from (split_in b) (start_of b.cuts) bs) behind-same

  pub part-same : part_in h b ≡ part_in f b
  part-same = ap₂ (λ (end : Option ℕ) (blocks : List OutputBlock). let x : Part = record { start = start_of b.cuts; end = end; blocks = blocks } in x)
      (ap (λ (bs : List OutputBlock). option_map (max (start_of b.cuts)) (first_tick bs)) behind-same) (ap (map (in_part (start_of b.cuts))) rest-same)

-- ---- one step

-- The queue has the block of the output track.
pub lent-one : (m : MergeSeen) (k : ℕ) (q : Queue) → slice_get m.queues k ≡ Some q → lent_at m k ≡ block_lent k q.lane ∷ []
lent-one m k q here = ap (λ (o : Option Queue). option_map_or (λ (each : Queue). block_lent k each.lane ∷ []) o []) here

-- The queue has this output track.
pub lane-is : (m : MergeSeen) (k : ℕ) (q : Queue) (l : LaneSeen) → slice_get m.queues k ≡ Some q → option_map (λ (each : Queue). each.lane) (slice_get m.queues k) ≡ Some l → q.lane ≡ l
lane-is m k q l here is = let e : Some q.lane ≡ Some l = sym (ap (option_map (λ (each : Queue). each.lane)) here) ∙ is in cc

same-queue : (m : MergeSeen) (k : ℕ) (q p : Queue) → slice_get m.queues k ≡ Some q → slice_get m.queues k ≡ Some p → q ≡ p
same-queue m k q p one other = let e : Some q ≡ Some p = sym one ∙ other in cc

-- The block ahead is in the current part, and is the one of the output track `k`.
pub record LendsAhead (p : PlacedBlocks) (k : ℕ) : Type 0 where
  pub in_it : is_within p.ahead ≡ true
  pub lends : LendsAt p.merge p.cuts.scale k
  pub one : lent_ahead p ≡ block_lent k lends.queue.lane ∷ []

pub lends-ahead : (p : PlacedBlocks) (k : ℕ) → StandsAhead p → lane_within p.ahead ≡ Some k → LendsAhead p k
lends-ahead p k stands found = either p.ahead refl stands
  where
    lane : (a : Ahead) (q : Bool) → (if q then Some a.lane else None) ≡ Some k → a.lane ≡ k
    lane a true is = cc
    lane a false is = absurd (cc)

    either : (o : Option Ahead) → p.ahead ≡ o → StandsAt p.merge p.cuts o → LendsAhead p k
    either None is ended = let none : None ≡ Some k = sym (ap lane_within is) ∙ found in absurd (cc)
    either (Some a) is ahead =
        subst (LendsAhead p) (lane a (is_same a.place) (sym (ap lane_within is) ∙ found))
        (record { in_it = ap (λ (o : Option ℕ). is_some o) found; lends = ahead.lends; one = ap (ahead_at p.merge) is ∙ lent-one p.merge a.lane ahead.lends.queue ahead.lends.here })

-- the blocks with this merge, these cuts and this block ahead
abbrev pub on_to : PlacedBlocks → MergeSeen → CutsSeen → Option Ahead → PlacedBlocks
on_to b m' c' next = record { merge = m'; cuts = c'; drives = b.drives; ahead = next; start = b.start }

-- Blocks can be taken.
gives-on : (f h : LiveFiles) (b b' : PlacedBlocks) → CanGive f b → KeepsQueues b.merge.queues b'.merge.queues → IsReady h b'.merge → b'.drives ≡ b.drives → b'.cuts.scale ≡ b.cuts.scale → start_of b'.cuts * b'.cuts.scale < 2 ^ 64 → (is_none b'.cuts.start ≡ true → b'.cuts.load ≡ 0) → IfSome b'.cuts.size (IsLimit b'.cuts.spec) → CanGive h b'
gives-on f h b b' gives keeps ready drives scale early empty limit = record {
  ready = ready;
  few = omega (arith, count-kept b.merge.queues b'.merge.queues keeps, gives.few);
  drives = ap (λ (ds : List Bool). length ds) drives ∙ gives.drives ∙ sym (count-kept b.merge.queues b'.merge.queues keeps);
  scales = subst (λ (n : ℕ). All (λ (q : Queue). q.lane.scale ≡ n) b'.merge.queues) (sym scale) (scales-kept b.cuts.scale b.merge.queues b'.merge.queues keeps gives.scales);
  scale_some = omega (arith, scale, gives.scale_some);
  scale = omega (arith, scale, gives.scale);
  early = early;
  empty = empty;
  limit = limit;
}

-- The cuts are the same if no block was placed.
pub gives-same : (f h : LiveFiles) (b b' : PlacedBlocks) → CanGive f b → KeepsQueues b.merge.queues b'.merge.queues → IsReady h b'.merge → b'.drives ≡ b.drives → b'.cuts ≡ b.cuts → CanGive h b'
gives-same f h b b' gives keeps ready drives same =
    gives-on f h b b' gives keeps ready drives (ap (λ (c : CutsSeen). c.scale) same) (subst (λ (c : CutsSeen). start_of c * c.scale < 2 ^ 64) (sym same) gives.early)
    (subst (λ (c : CutsSeen). is_none c.start ≡ true → c.load ≡ 0) (sym same) gives.empty) (subst (λ (c : CutsSeen). IfSome c.size (IsLimit c.spec)) (sym same) gives.limit)

module _ (f : LiveFiles) (b : PlacedBlocks) (m' : MergeSeen) (c' : CutsSeen) (a : Ahead) (can : CanGive f b) (lanes : KeepsQueues b.merge.queues m'.queues) (steps : StepsTo b.merge m' a.lane) (places : PlacesOne b.drives steps.queue.lane b.cuts c' a) where
  -- the next block
  abbrev x : OutputBlock
  x = block_lent a.lane steps.queue.lane

  abbrev may : Bool
  may = may_cut (split_in b) x

  -- The block decides whether a cut may be before it.
  may-same : ((lent steps.queue.lane).head.key && drives_at b.drives a.lane) ≡ may
  may-same =
      let place : a.lane ≡ a.lane + 1 - 1 = omega arith in
      ap (λ (k : ℕ). (lent steps.queue.lane).head.key && drives_at b.drives k) place

  step-place : a.place ≡ place_of b.cuts may x.tick
  step-place = places.place ∙ ap (λ (q : Bool). place_of b.cuts q x.tick) may-same

  step-cuts : c' ≡ stepped b.cuts may x.tick (octets_taken x)
  step-cuts =
      places.steps ∙ ap₂ (λ (q : Bool) (n : ℕ). stepped b.cuts q x.tick n) may-same (sym (taken-in_lane (a.lane + 1) (lent_block (lent steps.queue.lane))))

  step-scale : c'.scale ≡ b.cuts.scale
  step-scale = ap (λ (c : CutsSeen). c.scale) step-cuts

  pub step-split : split_in (on_to b m' c' (Some a)) ≡ split_in b
  step-split = ap (λ (c : CutsSeen). split_in (on_to b m' c (Some a))) step-cuts

  -- The time of the next block has 64 bits.
  early-block : x.tick * b.cuts.scale < 2 ^ 64
  early-block =
      let scale : steps.queue.lane.scale ≡ b.cuts.scale = of-one (λ (q : Queue). q.lane.scale ≡ b.cuts.scale) m'.queues a.lane steps.queue (scales-kept b.cuts.scale b.merge.queues m'.queues lanes can.scales) steps.here in
      let head : (lent steps.queue.lane).head ≡ steps.queue.lane.walk.placed.head = lent-head steps.queue.lane.walk (slice_get steps.queue.lane.links steps.queue.lane.walk.at) in
      let most = subst (λ (n : ℕ). steps.queue.lane.walk.placed.head.tick * n ≤ most_time + n / 2) scale steps.lends.ticks.early in
      subst (λ (h : OutHead). h.tick * b.cuts.scale < 2 ^ 64) (sym head) (early-time steps.queue.lane.walk.placed.head.tick b.cuts.scale can.scale most)

  -- The next block is ahead afterwards.
  pub step-ahead : IsAhead m' c' a
  step-ahead = record {
    lends = record { queue = steps.queue; here = steps.here; sound = steps.lends.lent; early = subst (λ (n : ℕ). x.tick * n < 2 ^ 64) (sym step-scale) early-block };
    started = ap (λ (c : CutsSeen). c.start) step-cuts ∙ sym (ap (λ (c : CutsSeen). Some (start_of c)) step-cuts);
    begins = is_cut b.cuts may x.tick || is_none b.cuts.start;
    place = step-place ∙ sym (ap (λ (c : CutsSeen). place_at (is_kept c) (is_cut b.cuts may x.tick || is_none b.cuts.start) (start_of c)) step-cuts);
    counts = λ is.
        ap (λ (c : CutsSeen). c.load) step-cuts ∙ counts-first (is_cut b.cuts may x.tick) b.cuts.start b.cuts.size b.cuts.load (octets_taken x) can.empty is
        ∙ ap (λ (c : CutsSeen). counted c.size (octets_taken x)) (sym step-cuts);
  }

  pub step-gives : (h : LiveFiles) → IsReady h m' → CanGive h (on_to b m' c' (Some a))
  step-gives h ready =
      gives-on f h b (on_to b m' c' (Some a)) can lanes ready refl step-scale (subst (λ (c : CutsSeen). start_of c * c.scale < 2 ^ 64) (sym step-cuts) (either (is_cut b.cuts may x.tick)))
      (λ none. let some : is_none c'.start ≡ false = ap (λ (c : CutsSeen). is_none c.start) step-cuts in absurd (cc)) (subst (λ (c : CutsSeen). IfSome c.size (IsLimit c.spec)) (sym step-cuts) can.limit)
    where
      either : (cut : Bool) → (if cut then x.tick else start_of b.cuts) * b.cuts.scale < 2 ^ 64
      either true = early-block
      either false = can.early

  -- The next block was the first that was left.
  pub step-left : GivesOfLane f b.merge m' a.lane → left f b.merge ≡ x ∷ left f m'
  step-left gives = gives.gives ∙ ap (λ (q : Queue). block_lent a.lane q.lane ∷ left f m') (same-queue m' a.lane gives.queue steps.queue gives.here steps.here)

  -- The place of the next block depends on the cut before it.
  cut-start : (q : Bool) → is_cut b.cuts may x.tick ≡ q → start_of c' ≡ (if q then x.tick else start_of b.cuts)
  cut-start q is = ap start_of step-cuts ∙ ap (λ (cut : Bool). if cut then x.tick else start_of b.cuts) is

  cut-place : (q : Bool) → is_cut b.cuts may x.tick ≡ q → a.place ≡ place_at (keeps b.cuts.spec ((if q then x.tick else start_of b.cuts) * b.cuts.scale)) (q || is_none b.cuts.start) (if q then x.tick else start_of b.cuts)
  cut-place q is =
      step-place ∙ ap (λ (cut : Bool). place_at (keeps b.cuts.spec ((if cut then x.tick else start_of b.cuts) * b.cuts.scale)) (cut || is_none b.cuts.start) (if cut then x.tick else start_of b.cuts)) is

  -- The first block begins a section.
  pub step-first : b.cuts.start ≡ None → is_within (Some a) ≡ false
  step-first fresh = either (is_cut b.cuts may x.tick) refl
    where
      either : (q : Bool) → is_cut b.cuts may x.tick ≡ q → is_within (Some a) ≡ false
      either true is = begins-none (keeps b.cuts.spec (x.tick * b.cuts.scale)) x.tick a (cut-place true is)
      either false is =
          begins-none (keeps b.cuts.spec (start_of b.cuts * b.cuts.scale)) (start_of b.cuts) a
          (cut-place false is ∙ ap (λ (o : Option ℕ). place_at (keeps b.cuts.spec (start_of b.cuts * b.cuts.scale)) (is_none o) (start_of b.cuts)) fresh)

  module _ (h : LiveFiles) (bs : List OutputBlock) (same : left h m' ≡ bs) where
    abbrev b' : PlacedBlocks
    b' = on_to b m' c' (Some a)

    -- The block ahead comes before the next blocks.
    step-on : ahead_of m' (Some a) (left h m') ≡ x ∷ bs
    step-on = ap₂ (λ (first more : List OutputBlock). first ++ more) (lent-one m' a.lane steps.queue steps.here) same

    step-parts : is_within (Some a) ≡ false → parts_left h b' ≡ parts_from (split_in b) (start_of c') (x ∷ bs)
    step-parts isnt = parts-ahead h b' isnt ∙ ap₂ (λ (s : Split) (them : List OutputBlock). parts_from s (start_of c') them) step-split step-on

    module _ (started : is_none b.cuts.start ≡ false) where
      -- The section before it isn't written.
      step-out : is_kept b.cuts ≡ false → parts_in (split_in b) (sections_at (split_in b) (beyond (split_in b) (start_of b.cuts) b.cuts.load (x ∷ bs))) ≡ parts_left h b'
      step-out out = either (is_cut b.cuts may x.tick) refl
        where
          passed : (q : Bool) → is_cut b.cuts may x.tick ≡ q → is_within (Some a) ≡ false
              → parts_in (split_in b) (sections_at (split_in b) (beyond (split_in b) (start_of b.cuts) b.cuts.load (x ∷ bs))) ≡ parts_left h b'
          passed q is isnt =
              passed-next (split_in b) (no-limit b.cuts.size b.cuts.spec (start_of b.cuts * b.cuts.scale) can.limit out) (start_of b.cuts) b.cuts.load x bs out q is
              ∙ ap (λ (n : ℕ). parts_from (split_in b) n (x ∷ bs)) (sym (cut-start q is)) ∙ sym (step-parts isnt)

          either : (q : Bool) → is_cut b.cuts may x.tick ≡ q → parts_in (split_in b) (sections_at (split_in b) (beyond (split_in b) (start_of b.cuts) b.cuts.load (x ∷ bs))) ≡ parts_left h b'
          either true is = passed true is (begins-none (keeps b.cuts.spec (x.tick * b.cuts.scale)) x.tick a (cut-place true is))
          either false is = passed false is (out-none (is_none b.cuts.start) (start_of b.cuts) a (cut-place false is ∙ ap (λ (k : Bool). place_at k (is_none b.cuts.start) (start_of b.cuts)) out))

      -- The blocks that are left after a block of the current part.
      pub record LeftBehind : Type 0 where
        pub rest : within (split_in b) (start_of b.cuts) b.cuts.load (x ∷ bs) ≡ rest_of_part h b'
        pub behind : beyond (split_in b) (start_of b.cuts) b.cuts.load (x ∷ bs) ≡ behind_part h b'
        pub parts_behind : parts_in (split_in b) (sections_at (split_in b) (beyond (split_in b) (start_of b.cuts) b.cuts.load (x ∷ bs))) ≡ parts_left h b'

      left-behind : is_kept b.cuts ≡ true → (q : Bool) → is_cut b.cuts may x.tick ≡ q → LeftBehind
      left-behind kept true is =
          let s = split_in b in
          let isnt = begins-none (keeps b.cuts.spec (x.tick * b.cuts.scale)) x.tick a (cut-place true is) in
          record {
            rest = within-cut s (start_of b.cuts) b.cuts.load x bs is ∙ sym (rest-none h b' isnt);
            behind = beyond-cut s (start_of b.cuts) b.cuts.load x bs is ∙ sym step-on ∙ sym (behind-ahead h b' isnt);
            parts_behind = behind-cut s (start_of b.cuts) b.cuts.load x bs is ∙ ap (λ (n : ℕ). parts_from s n (x ∷ bs)) (sym (cut-start true is)) ∙ sym (step-parts isnt);
          }
      left-behind kept false is =
          let s = split_in b in
          let fits = fits-of b.cuts.size b.cuts.spec can.limit in
          let is_in = same-within (start_of b.cuts) a (cut-place false is ∙ ap₂ (λ (k none : Bool). place_at k none (start_of b.cuts)) kept started) in
          let load : c'.load ≡ counted b.cuts.size (b.cuts.load + octets_taken x) = ap (λ (c : CutsSeen). c.load) step-cuts ∙ ap (λ (cut : Bool). counted b.cuts.size ((if cut then 0 else b.cuts.load) + octets_taken x)) is in
          let on : (g : Split → ℕ → ℕ → List OutputBlock → List OutputBlock) → g s (start_of b.cuts) (counted b.cuts.size (b.cuts.load + octets_taken x)) bs ≡ g (split_in b') (start_of c') c'.load (left h m') =
          λ g. sym (ap₂ (λ (t : Split) (them : List OutputBlock). g t (start_of c') c'.load them) step-split same ∙ ap₂ (λ (n k : ℕ). g s n k bs) (cut-start false is) load) in
          let beyond_it = beyond-next s fits (start_of b.cuts) b.cuts.load x bs is ∙ on beyond in
          record {
            rest = within-next s fits (start_of b.cuts) b.cuts.load x bs is ∙ ap (λ (them : List OutputBlock). x ∷ them) (on within) ∙ ap (λ (first : List OutputBlock). first ++ within (split_in b') (start_of c') c'.load (left h m')) (sym (lent-one m' a.lane steps.queue steps.here)) ∙ sym (rest-within h b' is_in);
            behind = beyond_it ∙ sym (behind-within h b' is_in);
            parts_behind = ap₂ (λ (t : Split) (them : List OutputBlock). parts_in t (sections_at t them)) (sym step-split) beyond_it ∙ sym (parts-within h b' is_in);
          }

      pub left-now : is_kept b.cuts ≡ true → LeftBehind
      left-now kept = left-behind kept (is_cut b.cuts may x.tick) refl

      -- The parts after a section, written or not, are the same.
      pub parts-on : parts_in (split_in b) (sections_at (split_in b) (beyond (split_in b) (start_of b.cuts) b.cuts.load (x ∷ bs))) ≡ parts_left h b'
      parts-on = either (is_kept b.cuts) refl
        where
          either : (k : Bool) → is_kept b.cuts ≡ k → parts_in (split_in b) (sections_at (split_in b) (beyond (split_in b) (start_of b.cuts) b.cuts.load (x ∷ bs))) ≡ parts_left h b'
          either true kept = (left-now kept).parts_behind
          either false out = step-out out

    -- All parts are left if it is the first block.
    pub step-all : IsFresh b → parts_left h b' ≡ parts (split_in b) (x ∷ bs)
    step-all fresh =
        let empty = can.empty (ap (λ (o : Option ℕ). is_none o) fresh.placed) in
        let none : b.cuts ≡ (record { spec = b.cuts.spec; size = b.cuts.size; scale = b.cuts.scale; start = None; load = 0 }) =
        ap₂ (λ (o : Option ℕ) (n : ℕ). let c : CutsSeen = record { spec = b.cuts.spec; size = b.cuts.size; scale = b.cuts.scale; start = o; load = n } in c) fresh.placed empty in
        step-parts (step-first fresh.placed) ∙ ap (λ (n : ℕ). parts_from (split_in b) n (x ∷ bs)) (ap start_of step-cuts ∙ ap (λ (c : CutsSeen). start_of (stepped c may x.tick (octets_taken x))) none)
