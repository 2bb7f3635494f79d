-- Inputs are placed one at a time.
use Rattle.std.proofs.Common.{◌≡◌, ◌≤◌, ℕ, ◌+◌, ◌*◌, ◌-◌, List, [], ◌∷◌, ◌++◌, length, map, Option, Some, refl, sym, ap, ap₂, subst, ◌∙◌, arith, append_assoc, length-append}
use Rattle.std.specs.Prelude.{slice_get}
use Rattle.std.specs.List.{All}
use Rattle.std.specs.Option.{option_map, option_map_or, unwrap_or}
use Rattle.std.proofs.lemmas.List.{map-append}
use Rattle.std.proofs.lemmas.List.Elements.{All-head, All-push, All-tail}
use Rattle.mkv_io.specs.declared.outside.FileId.{FileId}
use Rattle.mkv_io.specs.LiveFiles.{LiveFiles}
use Rattle.merge_model.specs.declared.limits.TheConstants.{MAX_LINKS}
use Rattle.lanes.specs.declared.survey_result.TheConstants.{MAX_END}
use Rattle.merge_inputs.specs.Input.{IsInput, read_in}
use Rattle.merge_inputs.specs.declared.input.Blocks.{Blocks}
use Rattle.merge_inputs.specs.declared.input.Blocks.TheVariants as held_by
use Rattle.merge_inputs.specs.declared.input.Input.{Input}
use Rattle.merge_plan.specs.Places.{begun_at, end_of, in_place, in_place_from}
use Rattle.merge_plan.specs.Plan.{Source, append_offset}
use Rattle.merge_plan.specs.Planned.{IsToldInput, source_in}
use Rattle.merge_plan.specs.TakenTracks.{HasPlace}
use Rattle.merge_plan.specs.Behind.{end_behind, last_in, most_behind, size_behind, walked_for, walked_in, walked_of}
use Rattle.merge_plan.specs.Placed.{walked_behind}

-- ---- the last of some inputs

last-push : (inputs : List Input) (i : Input) → last_in (inputs ++ i ∷ []) ≡ Some i
last-push inputs i = ap (λ (n : ℕ). slice_get (inputs ++ i ∷ []) (n - 1)) (length-append inputs (i ∷ [])) ∙ ap (slice_get (inputs ++ i ∷ [])) (plus (length inputs)) ∙ at inputs
  where
    plus : (n : ℕ) → n + 1 - 1 ≡ n
    plus n = omega arith

    at : (xs : List Input) → slice_get (xs ++ i ∷ []) (length xs) ≡ Some i
    at [] = refl
    at (x ∷ xs) = at xs

-- A fact for the next input depends on the last input.
behind-push : (of : Input → ℕ) (inputs : List Input) (i : Input) → option_map_or of (last_in (inputs ++ i ∷ [])) 0 ≡ of i
behind-push of inputs i = ap (λ (o : Option Input). option_map_or of o 0) (last-push inputs i)

-- ---- one input

-- the input with this append offset
abbrev pub moved : Option ℕ → Input → Input
moved shift i = record i { shift = shift }

moved-good : (f : LiveFiles) (shift : Option ℕ) (i : Input) → IsInput f i → IsInput f (moved shift i)
moved-good f shift i is = record {
  live = is.live;
  len = is.len;
  blocks = is.blocks;
  taken = is.taken;
  attachments = is.attachments;
  chapters = is.chapters;
  tags = is.tags;
}

-- ---- input after input

-- The inputs `placed` were placed, and `left` remain.
pub record GoesOn (f : LiveFiles) (inputs placed left : List Input) : Type 0 where
  pub good : All (IsInput f) placed
  pub rest : All (IsInput f) left
  pub files : map (λ (i : Input). i.file) placed ++ map (λ (i : Input). i.file) left ≡ map (λ (i : Input). i.file) inputs
  pub many : length placed + length left ≡ length inputs
  pub places : All HasPlace placed
  pub near : most_behind placed ≤ length placed * MAX_END
  pub told : All (IsToldInput f) inputs → All (IsToldInput f) placed × All (IsToldInput f) left
  pub exact : All (IsToldInput f) inputs → map (source_in f) placed ++ in_place_from (end_behind f placed) (map (source_in f) left) ≡ in_place (map (source_in f) inputs)

module _ (f : LiveFiles) (inputs placed new left rest : List Input) (i : Input) (shift : Option ℕ) (goes : GoesOn f inputs placed left) (next : left ≡ i ∷ rest)
    (near : unwrap_or shift 0 ≤ most_behind placed) (behind : All (IsToldInput f) placed → shift ≡ option_map (λ _. end_behind f placed) i.shift) (put : new ≡ placed ++ moved shift i ∷ []) where
  pub goes-more : length inputs ≤ MAX_LINKS → GoesOn f inputs new rest
  goes-more few = subst (λ (ps : List Input). GoesOn f inputs ps rest) (sym put) (record {
    good = All-push (IsInput f) placed (moved shift i) goes.good (moved-good f shift i (All-head (IsInput f) i rest (subst (All (IsInput f)) next goes.rest)));
    rest = All-tail (IsInput f) i rest (subst (All (IsInput f)) next goes.rest);
    files =
        ap (λ (l : List FileId). l ++ map (λ (each : Input). each.file) rest) (map-append (λ (each : Input). each.file) placed (moved shift i ∷ []))
        ∙ append_assoc (map (λ (each : Input). each.file) placed) (i.file ∷ []) (map (λ (each : Input). each.file) rest)
        ∙ ap (λ (l : List Input). map (λ (each : Input). each.file) placed ++ map (λ (each : Input). each.file) l) (sym next)
        ∙ goes.files;
    many = omega (arith, length-append placed (moved shift i ∷ []), ap length next, goes.many);
    places = All-push HasPlace placed (moved shift i) goes.places place;
    near = omega (arith, length-append placed (moved shift i ∷ []), behind-push (λ (each : Input). append_offset (read_in each) + MAX_END) placed (moved shift i), near, goes.near);
    told = λ told.
        let before = goes.told told in
        let after = subst (All (IsToldInput f)) next before.1 in
        (All-push (IsToldInput f) placed (moved shift i) before.0 (All-head (IsToldInput f) i rest after), All-tail (IsToldInput f) i rest after);
    exact = λ told.
        let before = goes.told told in
        let is : source_in f (moved shift i) ≡ begun_at (end_behind f placed) (source_in f i) = ap (λ (o : Option ℕ). source_in f (moved o i)) (behind before.0) in
        ap₂ (λ (l : List Source) (n : ℕ). l ++ in_place_from n (map (source_in f) rest)) (map-append (source_in f) placed (moved shift i ∷ [])) (behind-push (λ (each : Input). end_of (source_in f each)) placed (moved shift i))
        ∙ append_assoc (map (source_in f) placed) (source_in f (moved shift i) ∷ []) (in_place_from (end_of (source_in f (moved shift i))) (map (source_in f) rest))
        ∙ ap (λ (s : Source). map (source_in f) placed ++ (s ∷ in_place_from (end_of s) (map (source_in f) rest))) is
        ∙ ap (λ (l : List Input). map (source_in f) placed ++ in_place_from (end_behind f placed) (map (source_in f) l)) (sym next)
        ∙ goes.exact told;
  })
    where
      place : HasPlace (moved shift i)
      place = omega (arith, near, goes.near, goes.many, ap length next)

  -- The bytes for this input are a part of the bytes for all remaining inputs.
  pub goes-paid : (most mid now : ℕ) → mid + 2 * walked_behind f (size_behind f placed) left ≤ most → now ≤ mid + 2 * walked_for i.shift (size_behind f placed) → now + 2 * walked_behind f (size_behind f new) rest ≤ most
  goes-paid most mid now before more =
      let last : size_behind f new ≡ walked_of f i = ap (size_behind f) put ∙ behind-push (walked_of f) placed (moved shift i) in
      omega (arith, ap (walked_behind f (size_behind f placed)) next, ap (λ (n : ℕ). walked_behind f n rest) last)

-- At most the bytes of an input's file are walked over.
pub walked-within : (f : LiveFiles) (i : Input) → walked_of f i ≤ f.size i.file.n
walked-within f i = within i.blocks (f.size i.file.n)
  where
    within : (blocks : Blocks) (size : ℕ) → walked_in blocks size ≤ size
    within (held_by.Clusters outline scale) size = omega arith
    within (held_by.Entries entries) size = omega arith
