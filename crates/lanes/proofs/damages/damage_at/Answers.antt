use Rattle.std.proofs.Common.{◌≡◌, ◌≤◌, ◌+◌, ◌-◌, ℕ, length, drop, get_or, Some, refl, sym, ◌∙◌, ap, arith}
use Rattle.std.specs.Prelude.{List}
use Rattle.std.specs.List.{slice_get}
use Rattle.std.proofs.lemmas.Option.{slice_get_read}
use Rattle.mkv_io.specs.declared.damage.Damage.{Damage}
use Rattle.mkv_io.specs.declared.damage.Kind.TheVariants.{NotEbml}
use Rattle.lanes.specs.Told.{damages_from}
use Rattle.lanes.proofs.ListLemmas.{get-index}
use Rattle.lanes.proofs.ToldLemmas.{damage-behind, damage-here}
use Rattle.lanes.proofs.damages.damage_at.Goals as goal

pub returns-then-left-first : goal.returns-then-left-first
returns-then-left-first c =
    let told = c.args.told.now in
    let t = c.index-told-link.result in
    let here = slice_get_read told (length told) c.loop-link.link t refl c.loop-link-test.true c.index-told-link.is in
    let nothing : Damage = record { kind = NotEbml; id = 0; offset = 0 } in
    let first : slice_get t.first c.loop-link.left ≡ Some (get_or c.first-first.result.now c.loop-link.left nothing) =
    ap (λ (ds : List Damage). slice_get ds c.loop-link.left) (sym c.first-first.ensures) ∙ get-index c.first-first.result.now c.loop-link.left nothing c.if-left-first.true in
    sym (damage-here told c.loop-link.link c.loop-link.left t (get_or c.first-first.result.now c.loop-link.left nothing) here first) ∙ c.loop-link.invariant

pub loop-link-preserved : goal.loop-link-preserved
loop-link-preserved c =
    let told = c.args.told.now in
    let t = c.index-told-link.result in
    let here = slice_get_read told (length told) c.loop-link.link t refl c.loop-link-test.true c.index-told-link.is in
    let long : length c.first-first.result.now ≡ length t.first = ap (λ (ds : List Damage). length ds) c.first-first.ensures in
    ap (λ (n : ℕ). slice_get (damages_from (c.loop-link.link + 1) (drop (c.loop-link.link + 1) told)) (c.loop-link.left - n)) long ∙ damage-behind told c.loop-link.link c.loop-link.left t here (let past : length t.first ≤ c.loop-link.left = omega (arith, c.if-left-first.false) in past) ∙ c.loop-link.invariant
