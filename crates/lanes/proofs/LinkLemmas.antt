-- The first event of an input, for an output track.
use Rattle.std.proofs.Common.{◌≡◌, ℕ, ◌+◌, Bool, true, false, if◌then◌else◌, List, [], ◌∷◌, ◌++◌, filter, flat_map, length, Option, Some, None, refl, sym, ap, add-zero}
use Rattle.std.specs.Prelude.{◌||◌, ◌&&◌, ◌==◌, is_some, not}
use Rattle.mkv_io.specs.declared.damage.Damage.{Damage}
use Rattle.block_format.specs.Block.{Block}
use Rattle.block_format.specs.Events.{Event, block, blocks_of, last_of}
use Rattle.cluster_reader.specs.Reading.{damage_event}
use Rattle.ext_times.specs.Listing.{Listing}
use Rattle.merge_model.specs.Links.{Placing, given_blocks, placed}
use Rattle.merge_model.specs.FileLinks.{listing_of, placing_of}
use Rattle.merge_model.specs.Timed.{time_for, timed}
use Rattle.lanes.specs.Frames.{frames_of}
use Rattle.lanes.specs.Placed.{at_time, track_placed}
use Rattle.merge_model.specs.declared.link.TrackLink.{TrackLink}
use Rattle.lanes.specs.Walks.{track_behind}

-- ---- a track

-- The first block comes after `k` frames.
timed-first : (scale : ℕ) (p : Placing) (times : Option Listing) (k : ℕ) (b : Block) (bs : List Block) → flat_map (placed scale p) (timed times k (b ∷ bs)) ≡ placed scale p (record b { time = time_for times k b.time }) ++ flat_map (placed scale p) (timed times (k + length b.frames) bs)
timed-first scale p None k b bs = refl
timed-first scale p (Some l) k b bs = refl

-- The next event is a block of its file.
pub track-block : (scale : ℕ) (t : TrackLink) (k : ℕ) (st : Bool) (b : Block) (es : List Event) → given_blocks scale (track_behind t k st (block b ∷ es)) ≡ track_placed scale t k b ++ given_blocks scale (track_behind t (k + frames_of t b) st es)
track-block scale t k st b es = split (b.track == t.number)
  where
    others : List Block
    others = filter (λ (x : Block). x.track == t.number) (blocks_of es)

    split : (is : Bool) → flat_map (placed scale (placing_of t)) (timed (listing_of t) k (if is then b ∷ filter (λ (x : Block). x.track == t.number) (blocks_of es) else filter (λ (x : Block). x.track == t.number) (blocks_of es)))
        ≡ (if is then placed scale (placing_of t) (at_time t k b) else []) ++ flat_map (placed scale (placing_of t)) (timed (listing_of t) (k + (if is then length b.frames else 0)) (filter (λ (x : Block). x.track == t.number) (blocks_of es)))
    split true = timed-first scale (placing_of t) (listing_of t) k b (filter (λ (x : Block). x.track == t.number) (blocks_of es))
    split false = ap (λ (n : ℕ). flat_map (placed scale (placing_of t)) (timed (listing_of t) n (filter (λ (x : Block). x.track == t.number) (blocks_of es)))) (sym (add-zero k))

-- A damaged place has no block.
pub damage-blocks : (scale : ℕ) (t : TrackLink) (k : ℕ) (st last now : Bool) (d : Damage) (es : List Event) → given_blocks scale (track_behind t k st (damage_event last d ∷ es)) ≡ given_blocks scale (track_behind t k now es)
damage-blocks scale t k st true now d es = refl
damage-blocks scale t k st false now d es = refl

-- A damaged place is reported.
pub damage-told : (t : TrackLink) (k : ℕ) (st last now : Bool) (d : Damage) (es : List Event) → (track_behind t k st (damage_event last d ∷ es)).damages ≡ d ∷ (track_behind t k now es).damages
damage-told t k st true now d es = refl
damage-told t k st false now d es = refl

-- A damaged place may end the reading, unless the link goes on.
pub damage-stops : (t : TrackLink) (k : ℕ) (st last : Bool) (d : Damage) (es : List Event) → (track_behind t k st (damage_event last d ∷ es)).stops ≡ (track_behind t k ((not t.goes_on && last) || st) es).stops
damage-stops t k st last d es = split t.goes_on st last
  where
    split : (goes_on st last : Bool) → (st || (not goes_on && is_some (last_of (damage_event last d ∷ es)))) ≡ (((not goes_on && last) || st) || (not goes_on && is_some (last_of es)))
    split true true last = refl
    split true false last = refl
    split false true true = refl
    split false true false = refl
    split false false true = refl
    split false false false = refl

-- At the file's end no block is left.
pub end-blocks : (scale : ℕ) (t : TrackLink) (k : ℕ) (st : Bool) → given_blocks scale (track_behind t k st []) ≡ []
end-blocks scale t k st = none (listing_of t)
  where
    none : (times : Option Listing) → flat_map (placed scale (placing_of t)) (timed times k []) ≡ []
    none None = refl
    none (Some l) = refl

pub end-stops : (t : TrackLink) (k : ℕ) (st : Bool) → (track_behind t k st []).stops ≡ st
end-stops t k st = split t.goes_on st
  where
    split : (goes_on st : Bool) → (st || (not goes_on && false)) ≡ st
    split true true = refl
    split true false = refl
    split false true = refl
    split false false = refl
