-- The tracks that targets name, and the reasons why their frames can't be used.
use Rattle.std.proofs.Common.{◌≡◌, ℕ, zero, suc, ◌+◌, ◌<◌, ◌≤◌, ◌==◌, Bool, true, false, ◌||◌, if◌then◌else◌, List, [], ◌∷◌, ◌++◌, length, drop, get_or, map, Some, None, IfSome, slice_get, Ok, refl, sym, ◌∙◌, ap, arith, eq-eqb, Option}
use Rattle.std.proofs.lemmas.List.{drop_all}
use Rattle.mkv_io.specs.declared.damage.Damage.{Damage}
use Rattle.requests.specs.declared.job.Target.{Target}
use Rattle.mkv_schema.specs.declared.element.Header.{Header}
use Rattle.mkv_schema.specs.Outline.{first_damage}
use Rattle.tree_format.specs.Node.{Node}
use Rattle.block_format.specs.Elements.{with_limits}
use Rattle.block_format.specs.Events.{events_of}
use Rattle.file_format.specs.FileBlocks.{file_events}
use Rattle.meta_records.specs.Records.{FileRecords, file_records, scale_of_info}
use Rattle.meta_records.proofs.CausesLemmas.{first_damage-behind, first_damage-front, first_damage-some}
use Rattle.meta_records.proofs.RecordsLemmas.{file_records-scale}
use Rattle.mkv_io.specs.Results.{unless}
use Rattle.file_format.specs.Encoding.{prefix_of, usable_causes, usable_prefix}
use Rattle.track_records.specs.declared.track.Track.{Track}
use Rattle.extractors.specs.Source.{AreUsableOf, IsUsable, entry_in}
use Rattle.mkv_extract.proofs.ToldLemmas.{next-left}
use Rattle.mkv_extract.specs.Read.{causes_from, causes_of, first_unusable, is_named}

-- ---- in a walk over the tracks

-- A track whose frames can't be used refuses the file.
pub causes-bad : (targets : List Target) (tracks : List Track) (k : ℕ) (t : Track) (d : Damage) → k < length tracks → t ≡ get_or tracks k t → first_damage (causes_of targets k t) ≡ Some d → first_damage (causes_from targets k (drop k tracks)) ≡ Some d
causes-bad targets tracks k t d below is some =
    ap (λ (ts : List Track). first_damage (causes_from targets k ts)) (next-left tracks k t below is)
    ∙ first_damage-some (causes_of targets k t) (causes_from targets (k + 1) (drop (k + 1) tracks)) d some

-- At the end no track is left.
pub causes-none : (targets : List Target) (tracks : List Track) (k : ℕ) → length tracks ≤ k → first_damage (causes_from targets k (drop k tracks)) ≡ None
causes-none targets tracks k all = ap (λ (ts : List Track). first_damage (causes_from targets k ts)) (drop_all k tracks all)

-- ---- if the file isn't refused

-- A target names its track.
named-at : (targets : List Target) (i : ℕ) (d : Target) → i < length targets → is_named targets (get_or targets i d).id ≡ true
named-at [] i d below = absurd (omega arith)
named-at (t ∷ ts) zero d below = ap (λ (a : Bool). a || is_named ts t.id) (eq-eqb t.id t.id refl)
named-at (t ∷ ts) (suc i) d below = ap (λ (a : Bool). (t.id == (get_or ts i d).id) || a) (named-at ts i d (omega arith)) ∙ or_true (t.id == (get_or ts i d).id)
  where
    or_true : (a : Bool) → (a || true) ≡ true
    or_true true = refl
    or_true false = refl

-- A track whose frames the call found usable has no reason against it.
pub usable-none : (entry : Node) (prefix : List ℕ) → usable_prefix entry ≡ Ok prefix → first_damage (usable_causes entry) ≡ None
usable-none entry prefix is = step (first_damage (usable_causes entry)) is
  where
    step : (refusal : Option Damage) → unless refusal (prefix_of entry) ≡ Ok prefix → refusal ≡ None
    step None made = refl
    step (Some d) made = absurd (cc)

-- Each named track can be used.
each-usable : (targets : List Target) (k : ℕ) (tracks : List Track) (j : ℕ) → first_damage (causes_from targets k tracks) ≡ None → is_named targets (k + j) ≡ true → IfSome (slice_get (map entry_in tracks) j) IsUsable
each-usable targets k [] j none named = tt
each-usable targets k (t ∷ ts) zero none named =
    let own : is_named targets k ≡ true = ap (is_named targets) (plus_none k) ∙ named in
    ap (λ (a : Bool). first_damage (if a then usable_causes t.entry else [])) (sym own)
    ∙ first_damage-front (causes_of targets k t) (causes_from targets (k + 1) ts) none
  where
    plus_none : (n : ℕ) → n ≡ n + 0
    plus_none n = omega arith
each-usable targets k (t ∷ ts) (suc j) none named =
    let first : first_damage (causes_of targets k t) ≡ None = first_damage-front (causes_of targets k t) (causes_from targets (k + 1) ts) none in
    each-usable targets (k + 1) ts j
    (sym (first_damage-behind (causes_of targets k t) (causes_from targets (k + 1) ts) first) ∙ none)
    (ap (is_named targets) (one_further k j) ∙ named)
  where
    one_further : (n m : ℕ) → (n + 1) + m ≡ n + suc m
    one_further n m = omega arith

pub AreUsableOf-read : (targets : List Target) (tracks : List Track) → first_unusable targets tracks ≡ None → AreUsableOf (map entry_in tracks) targets
AreUsableOf-read targets tracks none = λ i d below.
    each-usable targets 0 tracks (get_or targets i d).id none (ap (is_named targets) (zero_plus (get_or targets i d).id) ∙ named-at targets i d below)
  where
    zero_plus : (n : ℕ) → 0 + n ≡ n
    zero_plus n = omega arith

-- ---- the data that are read

-- The blocks and damage of the data are the file's own.
pub events-read : (bytes : List ℕ) (segment : Header) (r : FileRecords) → file_records bytes segment ≡ Ok r → events_of (with_limits (scale_of_info r.info)) bytes segment ≡ file_events true bytes segment
events-read bytes segment r is = ap (λ (scale : ℕ). events_of (with_limits scale) bytes segment) (file_records-scale bytes segment r is)
