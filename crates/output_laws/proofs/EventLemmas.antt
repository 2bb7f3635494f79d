-- The events of a file.
use Rattle.std.proofs.Common.{◌≡◌, ℕ, ◌==◌, Bool, true, false, if◌then◌else◌, List, [], ◌∷◌, ◌++◌, length, Option, Some, None, Ok, Err, refl, subst}
use Rattle.std.specs.Option.{option_map_or}
use Rattle.mkv_schema.specs.declared.ids.TheConstants.{CLUSTER}
use Rattle.mkv_io.specs.declared.damage.Damage.{Damage}
use Rattle.mkv_schema.specs.declared.element.Header.{Header}
use Rattle.mkv_schema.specs.Outline.{segment_bound, segment_run}
use Rattle.block_format.specs.Elements.{Rules}
use Rattle.block_format.specs.Events.{Event, block, damaged, stopped, Found, found_in, first_wrong, is_closed, events_then, events_among, events_of, damages_of}

-- ---- a Cluster

-- Only the first damage of a Cluster is reported.
pub then-first_wrong : (closed : Bool) (found : List Found) (rest : List Event) → damages_of (events_then closed found rest) ≡ option_map_or (λ d. d ∷ (if closed then damages_of rest else [])) (first_wrong found) (damages_of rest)
then-first_wrong closed [] rest = refl
then-first_wrong closed (Ok b ∷ found) rest = then-first_wrong closed found rest
then-first_wrong true (Err d ∷ found) rest = refl
then-first_wrong false (Err d ∷ found) rest = refl

-- ---- damage that ends the reading is the last event

-- Nothing follows damage that ends the reading.
abbrev StopsLast : List Event → Type 0
StopsLast [] = Unit {0}
StopsLast (block b ∷ events) = StopsLast events
StopsLast (damaged d ∷ events) = StopsLast events
StopsLast (stopped d ∷ events) = events ≡ []

StopsLast-behind : (before behind : List Event) (d : Damage) → StopsLast (before ++ stopped d ∷ behind) → behind ≡ []
StopsLast-behind [] behind d stops = stops
StopsLast-behind (block b ∷ before) behind d stops = StopsLast-behind before behind d stops
StopsLast-behind (damaged other ∷ before) behind d stops = StopsLast-behind before behind d stops
StopsLast-behind (stopped other ∷ []) behind d stops = absurd (cc)
StopsLast-behind (stopped other ∷ (event ∷ before)) behind d stops = absurd (cc)

StopsLast-then : (closed : Bool) (found : List Found) (rest : List Event) → StopsLast rest → StopsLast (events_then closed found rest)
StopsLast-then closed [] rest stops = stops
StopsLast-then closed (Ok b ∷ found) rest stops = StopsLast-then closed found rest stops
StopsLast-then true (Err d ∷ found) rest stops = stops
StopsLast-then false (Err d ∷ found) rest stops = refl

StopsLast-among : (r : Rules) (bytes : List ℕ) (e : ℕ) (hs : List Header) (wrong : Option Damage) → StopsLast (events_among r bytes e hs wrong)
StopsLast-among r bytes e [] None = tt
StopsLast-among r bytes e [] (Some d) = refl
StopsLast-among r bytes e (h ∷ hs) wrong = split (h.id == CLUSTER) (StopsLast-among r bytes e hs wrong)
  where
    split : (test : Bool) → StopsLast (events_among r bytes e hs wrong)
        → StopsLast (if test then events_then (is_closed (length bytes) h) (found_in r bytes e h) (events_among r bytes e hs wrong) else events_among r bytes e hs wrong)
    split true rest = StopsLast-then (is_closed (length bytes) h) (found_in r bytes e h) (events_among r bytes e hs wrong) rest
    split false rest = rest

-- No event of a file follows one that ends the reading.
pub stops-last : (r : Rules) (bytes : List ℕ) (segment : Header) (before behind : List Event) (d : Damage) → events_of r bytes segment ≡ before ++ stopped d ∷ behind → behind ≡ []
unfolding events_of
stops-last r bytes segment before behind d is =
    StopsLast-behind before behind d (subst StopsLast is (StopsLast-among r bytes (segment_bound bytes segment) (segment_run bytes segment).list (segment_run bytes segment).damage))
