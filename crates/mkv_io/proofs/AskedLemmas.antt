-- Laws on the names that several calls in sequence ask for. Callers that open and make files use them.
use Rattle.std.proofs.Common.{◌≡◌, ◌≢◌, ℕ, List, [], ◌∷◌, ◌++◌, inl, inr, Result, Ok, Err, refl, sym, subst}
use Rattle.std.proofs.lemmas.List.Elements.{All-nil, All-cons, All-append}
use Rattle.mkv_io.specs.Asked.{AsksFor, AsksNone, AsksOnly, IsNotAmong, IsUnasked}
use Rattle.mkv_io.specs.Names.{AreOthers}
use Rattle.mkv_io.specs.declared.asked.Asked.{Asked}
use Rattle.mkv_io.specs.declared.asked.Asked.TheVariants.{Made, Opened}

-- A call that leaves the list of asked names asks for none.
pub asks-none : (Are : Asked → Type 0) (old new : List Asked) → new ≡ old → AsksNone Are old new
asks-none Are old new same = λ name is unasked. subst (IsUnasked name) (sym same) unasked

-- A call that adds one name asks for none of the names in `Are` if this name isn't one.
pub asks-added : (Are : Asked → Type 0) (added : Asked) (old new : List Asked) → (Are added → ⊥) → new ≡ old ++ added ∷ [] → AsksNone Are old new
asks-added Are added old new isnt is = λ name are unasked.
    subst (IsUnasked name) (sym is) (All-append (λ (other : Asked). other ≢ name) old (added ∷ []) unasked
    (All-cons (λ (other : Asked). other ≢ name) added [] (λ same. isnt (subst Are (sym same) are)) (All-nil (λ (other : Asked). other ≢ name))))

-- A call that opens or makes one file asks for none of the names in `Are`, if the name of this file isn't one.
pub asks-one : {T E : Type 0} (Are : Asked → Type 0) (added : Asked) (old new : List Asked) (result : Result T E) → (Are added → ⊥) → AsksFor added old new result → AsksNone Are old new
asks-one Are added old new (Ok value) isnt asks = asks-added Are added old new isnt asks
asks-one Are added old new (Err fault) isnt (inl same) = asks-none Are old new same
asks-one Are added old new (Err fault) isnt (inr is) = asks-added Are added old new isnt is

-- Two calls in sequence ask for no name in `Are` if neither does.
pub asks-both : (Are : Asked → Type 0) (a b c : List Asked) → AsksNone Are a b → AsksNone Are b c → AsksNone Are a c
asks-both Are a b c first next = λ name are unasked. next name are (first name are unasked)

-- A call that asks for no name in `Are` asks for none in the smaller set `Fewer`.
pub asks-fewer : (Are Fewer : Asked → Type 0) (old new : List Asked) → ((name : Asked) → Fewer name → Are name) → AsksNone Are old new → AsksNone Fewer old new
asks-fewer Are Fewer old new all asks = λ name fewer unasked. asks name (all name fewer) unasked

-- A call that asks only for names in two lists asks only for names in longer lists.
pub asks-more : (opened made more_opened more_made : List (List ℕ)) (old new : List Asked) → ((name : List ℕ) → AreOthers name more_opened → AreOthers name opened) → ((name : List ℕ) → AreOthers name more_made → AreOthers name made) → AsksOnly opened made old new → AsksOnly more_opened more_made old new
asks-more opened made more_opened more_made old new open_among made_among asks = asks-fewer (IsNotAmong opened made) (IsNotAmong more_opened more_made) old new each asks
  where
    each : (name : Asked) → IsNotAmong more_opened more_made name → IsNotAmong opened made name
    each (Opened name) others = open_among name others
    each (Made name) others = made_among name others

-- A call that opens `name` asks only to open `name`.
pub asks-opened : {T E : Type 0} (name : List ℕ) (made : List (List ℕ)) (old new : List Asked) (result : Result T E) → AsksFor (Opened name) old new result → AsksOnly (name ∷ []) made old new
asks-opened name made old new result asks = asks-one (IsNotAmong (name ∷ []) made) (Opened name) old new result (λ others. others.0 refl) asks

-- A call that makes `name`, or fails to, asks only to make `name`.
pub asks-made : {T E : Type 0} (opened : List (List ℕ)) (name : List ℕ) (old new : List Asked) (result : Result T E) → AsksFor (Made name) old new result → AsksOnly opened (name ∷ []) old new
asks-made opened name old new result asks = asks-one (IsNotAmong opened (name ∷ [])) (Made name) old new result (λ others. others.0 refl) asks
