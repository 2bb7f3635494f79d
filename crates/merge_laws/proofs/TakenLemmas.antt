-- Output tracks with the option to go on after damage, and without it.
use Rattle.std.proofs.Common.{◌≡◌, ℕ, Bool, true, false, List, [], ◌∷◌, ◌++◌, map, flat_map, refl, sym, ap, ap₂, ◌∙◌}
use Rattle.std.specs.Prelude.{◌&&◌, not}
use Rattle.std.specs.List.{All}
use Rattle.std.proofs.lemmas.List.Elements.{All-head, All-tail}
use Rattle.output_model.specs.OutputBlock.{OutputBlock}
use Rattle.merge_model.specs.Links.{Given, given_blocks, going_on}
use Rattle.merge_model.specs.Lanes.{lane_blocks}
use Rattle.merge_laws.specs.Laws.{NeverStops}

-- ---- no link stops

stop-stays : (b s : Bool) → s ≡ false → (not b && s) ≡ s
stop-stays true s never = sym never
stop-stays false s never = refl

lane-stays : (b : Bool) (gs : List Given) → All NeverStops gs → map (going_on b) gs ≡ gs
lane-stays b [] never = refl
lane-stays b (g ∷ gs) never =
    ap₂ (λ (h : Given) (hs : List Given). h ∷ hs) (ap (λ (s : Bool). record g { stops = s }) (stop-stays b g.stops (All-head NeverStops g gs never)))
    (lane-stays b gs (All-tail NeverStops g gs never))

pub lanes-stay : (b : Bool) (lanes : List (List Given)) → All (All NeverStops) lanes → map (map (going_on b)) lanes ≡ lanes
lanes-stay b [] never = refl
lanes-stay b (gs ∷ lanes) never =
    ap₂ (λ (hs : List Given) (rest : List (List Given)). hs ∷ rest) (lane-stays b gs (All-head (All NeverStops) gs lanes never))
    (lanes-stay b lanes (All-tail (All NeverStops) gs lanes never))

-- ---- the command line has no option to go on

lane-same : (gs : List Given) → map (going_on false) gs ≡ gs
lane-same [] = refl
lane-same (g ∷ gs) = ap (λ (hs : List Given). g ∷ hs) (lane-same gs)

pub lanes-same : (lanes : List (List Given)) → map (map (going_on false)) lanes ≡ lanes
lanes-same [] = refl
lanes-same (gs ∷ lanes) = ap₂ (λ (hs : List Given) (rest : List (List Given)). hs ∷ rest) (lane-same gs) (lanes-same lanes)

-- ---- the command line has the option to go on

lane-goes-on : (scale : ℕ) (gs : List Given) → lane_blocks scale (map (going_on true) gs) ≡ flat_map (given_blocks scale) gs
lane-goes-on scale [] = refl
lane-goes-on scale (g ∷ gs) = ap (λ (bs : List OutputBlock). given_blocks scale g ++ bs) (lane-goes-on scale gs)

all-go-on : (scale : ℕ) (lanes : List (List Given)) → map (lane_blocks scale) (map (map (going_on true)) lanes) ≡ map (λ (gs : List Given). flat_map (given_blocks scale) gs) lanes
all-go-on scale [] = refl
all-go-on scale (gs ∷ lanes) = ap₂ (λ (bs : List OutputBlock) (rest : List (List OutputBlock)). bs ∷ rest) (lane-goes-on scale gs) (all-go-on scale lanes)

pub lanes-go-on : (scale : ℕ) (b : Bool) (lanes : List (List Given)) → b ≡ true → map (lane_blocks scale) (map (map (going_on b)) lanes) ≡ map (λ (gs : List Given). flat_map (given_blocks scale) gs) lanes
lanes-go-on scale b lanes on = ap (λ (each : Bool). map (lane_blocks scale) (map (map (going_on each)) lanes)) on ∙ all-go-on scale lanes
