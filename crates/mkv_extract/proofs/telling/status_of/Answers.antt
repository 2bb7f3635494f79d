use Rattle.std.proofs.Common.{◌≡◌, nat_lt, Bool, true, false, List, [], ◌∷◌, ◌++◌, length, refl, sym, ◌∙◌, arith}
use Rattle.std.proofs.lemmas.Bool.{lt-ltb}
use Rattle.mkv_io.specs.declared.damage.Damage.{Damage}
use Rattle.mkv_lines.specs.declared.status.Status.TheVariants.{Done, Warned}
use Rattle.mkv_extract.specs.Extract.{status_of}
use Rattle.mkv_extract.specs.Told.{has_absent}
use Rattle.mkv_extract.proofs.telling.status_of.Goals as goal

-- Damage gives a warning.
damaged : (absent : Bool) (damages bad : List Damage) → nat_lt 0 (length damages) ≡ true → Warned ≡ status_of absent (damages ++ bad)
damaged absent [] bad any = absurd (cc)
damaged true (d ∷ ds) bad any = refl
damaged false (d ∷ ds) bad any = refl

-- A frame that isn't written gives a warning.
left_out : (absent : Bool) (damages bad : List Damage) → nat_lt 0 (length bad) ≡ true → Warned ≡ status_of absent (damages ++ bad)
left_out true damages bad any = refl
left_out false (d ∷ ds) bad any = refl
left_out false [] (b ∷ bs) any = refl
left_out false [] [] any = absurd (cc)

-- There is no warning.
done : (absent : Bool) (damages bad : List Damage) → absent ≡ false → nat_lt 0 (length damages) ≡ false → nat_lt 0 (length bad) ≡ false → Done ≡ status_of absent (damages ++ bad)
done true damages bad none first others = absurd (cc)
done false (d ∷ ds) bad none first others = let some = lt-ltb 0 (length (d ∷ ds)) (omega arith) in absurd (cc)
done false [] (b ∷ bs) none first others = let some = lt-ltb 0 (length (b ∷ bs)) (omega arith) in absurd (cc)
done false [] [] none first others = refl

pub returns-then-is_any-clause-value : goal.returns-then-is_any-clause-value
returns-then-is_any-clause-value c = λ damages bad is also.
    damaged (has_absent c.args.count c.args.targets.now) damages bad (sym (c.is_any.ensures damages is) ∙ c.if-is_any.true)

pub returns-then-is_any-2-clause-value : goal.returns-then-is_any-2-clause-value
returns-then-is_any-2-clause-value c = λ damages bad is also.
    left_out (has_absent c.args.count c.args.targets.now) damages bad (sym (c.is_any-2.ensures bad also) ∙ c.if-is_any-2.true)

pub returns-clause-value : goal.returns-clause-value
returns-clause-value c = λ damages bad is also.
    done (has_absent c.args.count c.args.targets.now) damages bad (sym c.has_absent.ensures ∙ c.if-has_absent.false)
    (sym (c.is_any.ensures damages is) ∙ c.if-is_any.false) (sym (c.is_any-2.ensures bad also) ∙ c.if-is_any-2.false)
