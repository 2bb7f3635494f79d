use Rattle.std.proofs.Common.{Bool, ℕ, List, Option, true, eqb, ◌≡◌, ◌∙◌, sym, ap, rules, tests}
use Rattle.std.specs.List.{position}
use Rattle.std.specs.Option.{option_map_or}
use Rattle.std.proofs.lemmas.Iterator.{YieldsList-from_slice}
use Rattle.std.proofs.lemmas.Iterator.Search.{position_from_yields_List}
use Rattle.splitter.specs.Split.{is_driver}
use Rattle.splitter.proofs.driving.is_driver.Goals as goal

-- The index of the first video track decides.
drives-by : (videos : List Bool) (lane : ℕ) (o : Option ℕ) → o ≡ position (λ video. video) videos → option_map_or (λ first. eqb first lane) o true ≡ is_driver videos lane
drives-by videos lane o is = ap (λ p. option_map_or (λ first. eqb first lane) p true) is

pub returns-in-Some : goal.returns-in-Some
returns-in-Some c =
    let here = position_from_yields_List (λ (video : Bool). video) _ _ c.position.result c.position.ensures.ran (YieldsList-from_slice c.args.videos.now cc) (λ x b q k. search (rules, tests)) in
    drives-by c.args.videos.now c.args.lane _ (sym c.in-Some.is ∙ here)

pub returns-in-None : goal.returns-in-None
returns-in-None c =
    let here = position_from_yields_List (λ (video : Bool). video) _ _ c.position.result c.position.ensures.ran (YieldsList-from_slice c.args.videos.now cc) (λ x b q k. search (rules, tests)) in
    drives-by c.args.videos.now c.args.lane _ (sym c.in-None.is ∙ here)
