use Rattle.std.proofs.Common.{◌≡◌, ◌==◌, nat_lt, suc, false, not, List, [], ◌∷◌, length, take, refl, sym, ◌∙◌, ap, arith}
use Rattle.std.proofs.lemmas.Bool.{lt-ltb}
use Rattle.std.proofs.lemmas.Bool.Decides.{nat_tests}
use Rattle.mkv_io.specs.declared.damage.Damage.{Damage}
use Rattle.cluster_reader.specs.ToldDamages.{ToldDamages}
use Rattle.mkv_extract.proofs.telling.is_any.Goals as goal

-- The first element of a list that isn't empty is reported.
any : (list : List Damage) → not (length (take 100 list) == 0) ≡ nat_lt 0 (length list)
any [] = refl
any (d ∷ ds) =
    let long : length (take 100 (d ∷ ds)) ≡ suc (length (take 99 ds)) = refl in
    let test : (length (take 100 (d ∷ ds)) == 0) ≡ false = grind (arith, nat_tests, long) in
    ap not test ∙ sym (lt-ltb 0 (length (d ∷ ds)) (omega arith))

pub returns : goal.returns
returns c = λ list is.
    ap not (c.is_empty.ensures ∙ ap (λ (first : List Damage). length first == 0) (c.first.ensures ∙ ap (λ (told : ToldDamages). told.first) is)) ∙ any list
