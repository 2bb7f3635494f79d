-- The started output tracks of a plan.
use Rattle.std.proofs.Common.{◌≡◌, ℕ, suc, ◌+◌, List, [], ◌∷◌, ◌++◌, All, length, map, refl, sym, ◌∙◌, ap, ap₂, subst, append_assoc, append-nil, arith}
use Rattle.std.specs.List.{AllZip, sum_by}
use Rattle.std.proofs.lemmas.List.Elements.{All-cons, All-head, All-nil, All-tail}
use Rattle.std.proofs.lemmas.List.Sums.{sum_by-cons}
use Rattle.mkv_io.specs.LiveFiles.{LiveFiles}
use Rattle.cluster_reader.specs.ToldDamages.{ToldDamages, told_damages}
use Rattle.merge_model.specs.Lanes.{lane_damages}
use Rattle.merge_model.specs.FileLinks.{IsOpenLink, given_in}
use Rattle.merge_model.specs.declared.link.Link.{Link}
use Rattle.lanes.specs.Lane.{LaneSeen}
use Rattle.lanes.specs.Lane as lanes
use Rattle.lanes.specs.Walks.{files_length}
use Rattle.time_merge.specs.Laws as laws
use Rattle.remux_plan.specs.Plan.{links_of}
use Rattle.remux_plan.specs.declared.plan.PlannedLane.{PlannedLane}
use Rattle.remuxer.specs.Started.{AddsLane, IsStarted}
use Rattle.remuxer.specs.declared.planned.StartedLanes.{StartedLanes}

-- ---- one more output track

pub started-next : (scale : ℕ) (p : PlannedLane) (rest all : List PlannedLane) (old new : StartedLanes) → AddsLane scale p old new → ((ls : List LaneSeen) → AllZip (IsStarted scale) (p ∷ rest) ls → AllZip (IsStarted scale) all (old.lanes ++ ls))
    → (ls : List LaneSeen) → AllZip (IsStarted scale) rest ls → AllZip (IsStarted scale) all (new.lanes ++ ls)
started-next scale p rest all old new adds before ls are =
    let P : List LaneSeen → Type 0 = λ each. AllZip (IsStarted scale) all each in
    subst P (sym (append_assoc old.lanes (adds.lane ∷ []) ls) ∙ ap (λ each. each ++ ls) (sym adds.lanes)) (before (adds.lane ∷ ls) (adds.started, are))

pub listed-next : {A B : Type 0} (f : A → B) (x : A) (rest : List A) (old new all : List B) → new ≡ old ++ f x ∷ [] → old ++ map f (x ∷ rest) ≡ all → new ++ map f rest ≡ all
listed-next f x rest old new all is before = ap (λ ys. ys ++ map f rest) is ∙ append_assoc old (f x ∷ []) (map f rest) ∙ before

-- All are started.
pub started-all : (scale : ℕ) (rest all : List PlannedLane) (ls : List LaneSeen) → rest ≡ [] → ((more : List LaneSeen) → AllZip (IsStarted scale) rest more → AllZip (IsStarted scale) all (ls ++ more)) → AllZip (IsStarted scale) all ls
started-all scale rest all ls none before =
    let P : List PlannedLane → Type 0 = λ each. AllZip (IsStarted scale) each [] in
    let Q : List LaneSeen → Type 0 = λ each. AllZip (IsStarted scale) all each in
    subst Q (append-nil ls) (before [] (subst P (sym none) tt))

pub listed-all : {A B : Type 0} (f : A → B) (rest : List A) (ys all : List B) → rest ≡ [] → ys ++ map f rest ≡ all → ys ≡ all
listed-all f rest ys all none before = sym (append-nil ys) ∙ ap (λ each. ys ++ map f each) (sym none) ∙ before

-- ---- blocks that are left

pub count-started : (scale : ℕ) (planned : List PlannedLane) (ls : List LaneSeen) → AllZip (IsStarted scale) planned ls → length ls ≡ length planned
count-started scale [] [] are = refl
count-started scale [] (l ∷ ls) are = absurd are
count-started scale (p ∷ ps) [] are = absurd are
count-started scale (p ∷ ps) (l ∷ ls) are = ap suc (count-started scale ps ls are.1)

module _ (f : LiveFiles) (scale : ℕ) where
  pub are-started : (planned : List PlannedLane) (ls : List LaneSeen) → AllZip (IsStarted scale) planned ls → laws.AreStarted f scale (links_of planned) ls
  are-started [] [] are = tt
  are-started [] (l ∷ ls) are = absurd are
  are-started (p ∷ ps) [] are = absurd are
  are-started (p ∷ ps) (l ∷ ls) are = (are.0.starts f, are-started ps ls are.1)

  pub all-ready : (planned : List PlannedLane) (ls : List LaneSeen) → AllZip (IsStarted scale) planned ls → All (λ (p : PlannedLane). All (IsOpenLink f) p.spec.links) planned → All (lanes.IsReady f) ls
  all-ready [] [] are open_links = All-nil (lanes.IsReady f)
  all-ready [] (l ∷ ls) are open_links = absurd are
  all-ready (p ∷ ps) [] are open_links = absurd are
  all-ready (p ∷ ps) (l ∷ ls) are open_links =
      All-cons (lanes.IsReady f) l ls ((are.0.starts f).ready (All-head (λ (each : PlannedLane). All (IsOpenLink f) each.spec.links) p ps open_links))
      (all-ready ps ls are.1 (All-tail (λ (each : PlannedLane). All (IsOpenLink f) each.spec.links) p ps open_links))

  -- The bytes that may be read are the files' lengths.
  pub all-due : (planned : List PlannedLane) (ls : List LaneSeen) → AllZip (IsStarted scale) planned ls → sum_by (lanes.due f) ls ≡ sum_by (λ (p : PlannedLane). files_length f p.spec.links) planned
  all-due [] [] are = refl
  all-due [] (l ∷ ls) are = absurd are
  all-due (p ∷ ps) [] are = absurd are
  all-due (p ∷ ps) (l ∷ ls) are =
      let rest = all-due ps ls are.1 in
      let here : lanes.due f l ≡ files_length f p.spec.links = (are.0.starts f).due in
      omega (arith, rest, here, sum_by-cons (lanes.due f) l ls, sum_by-cons (λ (each : PlannedLane). files_length f each.spec.links) p ps)

  pub all-lengths : (planned : List PlannedLane) (ls : List LaneSeen) → AllZip (IsStarted scale) planned ls → sum_by (lanes.files_length f) ls ≡ sum_by (λ (p : PlannedLane). files_length f p.spec.links) planned
  all-lengths [] [] are = refl
  all-lengths [] (l ∷ ls) are = absurd are
  all-lengths (p ∷ ps) [] are = absurd are
  all-lengths (p ∷ ps) (l ∷ ls) are =
      sum_by-cons (lanes.files_length f) l ls ∙ ap₂ (λ (m n : ℕ). m + n) (ap (files_length f) are.0.begins.links) (all-lengths ps ls are.1)
      ∙ sym (sum_by-cons (λ (each : PlannedLane). files_length f each.spec.links) p ps)

  -- The damaged places at the end are the links'.
  pub all-told : (planned : List PlannedLane) (ls : List LaneSeen) → AllZip (IsStarted scale) planned ls → map (lanes.told_in_all f) ls ≡ map (λ (p : PlannedLane). map told_damages (lane_damages (map (given_in f) p.spec.links))) planned
  all-told [] [] are = refl
  all-told [] (l ∷ ls) are = absurd are
  all-told (p ∷ ps) [] are = absurd are
  all-told (p ∷ ps) (l ∷ ls) are = ap₂ (λ (t : List ToldDamages) ts. t ∷ ts) (are.0.starts f).told (all-told ps ls are.1)

-- A fact about the plan's links holds for the output tracks' links.
pub all-links : (P : Link → Type 0) (scale : ℕ) (planned : List PlannedLane) (ls : List LaneSeen) → AllZip (IsStarted scale) planned ls → All (λ (p : PlannedLane). All P p.spec.links) planned → All (λ (l : LaneSeen). All P l.links) ls
all-links P scale [] [] are each = All-nil (λ (l : LaneSeen). All P l.links)
all-links P scale [] (l ∷ ls) are each = absurd are
all-links P scale (p ∷ ps) [] are each = absurd are
all-links P scale (p ∷ ps) (l ∷ ls) are each =
    All-cons (λ (one : LaneSeen). All P one.links) l ls (subst (All P) (sym are.0.begins.links) (All-head (λ (one : PlannedLane). All P one.spec.links) p ps each))
    (all-links P scale ps ls are.1 (All-tail (λ (one : PlannedLane). All P one.spec.links) p ps each))

-- Each output track has the same scale.
pub all-scales : (scale : ℕ) (planned : List PlannedLane) (ls : List LaneSeen) → AllZip (IsStarted scale) planned ls → All (λ (l : LaneSeen). l.scale ≡ scale) ls
all-scales scale [] [] are = All-nil (λ (l : LaneSeen). l.scale ≡ scale)
all-scales scale [] (l ∷ ls) are = absurd are
all-scales scale (p ∷ ps) [] are = absurd are
all-scales scale (p ∷ ps) (l ∷ ls) are = All-cons (λ (one : LaneSeen). one.scale ≡ scale) l ls are.0.begins.scale (all-scales scale ps ls are.1)
