-- The Elements of level 1 after one of them.
use Rattle.std.proofs.Common.{◌≡◌, ℕ, List, ◌∷◌, Result, Ok, Err, sym, ◌∙◌, ap, arith}
use Rattle.std.specs.Result.{result_unwrap_or}
use Rattle.ebml_numbers.specs.declared.number.Size.{Size}
use Rattle.mkv_io.specs.declared.damage.Damage.{Damage}
use Rattle.mkv_schema.specs.declared.element.Header.{Header}
use Rattle.mkv_schema.specs.Elements.{Run, level_1}
use Rattle.elements.specs.Steps.{StepsOn}
use Rattle.elements.specs.declared.level_one.Level1Step.TheVariants.{Element}
use Rattle.elements.proofs.LevelOneLemmas.{level_1-end}

-- After an Element the next ones are left, and none after damage inside it.
pub left-behind : (bytes : List ℕ) (size : Size) (at e : ℕ) (h : Header) (next : Result ℕ Damage) → StepsOn (Element h next) (level_1 bytes size at e) at (λ q. level_1 bytes size q e) → (level_1 bytes size at e).list ≡ h ∷ (level_1 bytes size (result_unwrap_or next e) e).list
left-behind bytes size at e h (Ok q) steps = ap (λ (r : Run). r.list) steps
left-behind bytes size at e h (Err d) steps =
    ap (λ (r : Run). r.list) steps ∙ ap (λ (r : Run). h ∷ r.list) (sym (level_1-end bytes size e e (omega arith)))
