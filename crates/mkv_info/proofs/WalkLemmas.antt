-- The bytes that a walk over the Elements of level 1 reads.
use Rattle.std.proofs.Common.{◌≡◌, ℕ, ◌+◌, ◌≤◌, Result, Ok, Err, refl, subst, arith}
use Rattle.std.specs.Result.{result_unwrap_or}
use Rattle.mkv_io.specs.declared.damage.Damage.{Damage}
use Rattle.elements.specs.Walk.{place_or}
use Rattle.elements.specs.Window.{HasNotPassed, MovesTo, ReadAhead, end_ahead}

-- Up to its offset a walk has read at most the file's length.
pub walked-most : (size at first now : ℕ) (w : ReadAhead) → HasNotPassed w at size → now ≤ first + end_ahead w → now ≤ first + size
walked-most size at first now w place pays = omega (arith, pays, place.within)

-- The next offset is the one after an Element, or the end if damage ends the walk.
place_unwrapped : (end : ℕ) (next : Result ℕ Damage) → place_or end next ≡ result_unwrap_or next end
place_unwrapped end (Ok q) = refl
place_unwrapped end (Err d) = refl

-- The walk continues at the next offset.
pub MovesTo-next : (size end : ℕ) (next : Result ℕ Damage) (old new : ReadAhead) (before now : ℕ) → MovesTo size (place_or end next) old new before now → MovesTo size (result_unwrap_or next end) old new before now
MovesTo-next size end next old new before now moves = subst (λ (at : ℕ). MovesTo size at old new before now) (place_unwrapped end next) moves
