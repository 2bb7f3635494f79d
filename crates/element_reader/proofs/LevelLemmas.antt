-- The Elements of level 1, while a reader passes through a Segment.
use Rattle.std.proofs.Common.{◌≡◌, ℕ, if◌then◌else◌, List, [], ◌∷◌, ◌++◌, length, append-nil, Option, Some, None, refl, sym, ◌∙◌, ap, subst}
use Rattle.std.specs.Option.{option_map_or}
use Rattle.mkv_io.specs.declared.damage.Damage.{Damage}
use Rattle.mkv_schema.specs.declared.element.Header.{Header}
use Rattle.mkv_schema.specs.Element.{is_unknown, end_in}
use Rattle.mkv_schema.specs.Elements.{Run, in_front}
use Rattle.mkv_schema.specs.Outline.{first_damage, first_refusal, limit_causes, limits_from, segment_run}
use Rattle.element_reader.specs.Collected.{Keeps}
use Rattle.element_reader.specs.Level.{HasLevel, IsOnWay, all_in_front, nothing_left}
use Rattle.element_reader.specs.declared.collected.Collected.{Collected}
use Rattle.element_reader.specs.declared.level.Level.{Level}

-- The Elements before a run are listed first.
pub all_in_front-list : (given : List Header) (run : Run) → (all_in_front given run).list ≡ given ++ run.list
all_in_front-list [] run = refl
all_in_front-list (h ∷ hs) run = ap (λ l. h ∷ l) (all_in_front-list hs run)

-- They leave the damage and the end of the run.
pub all_in_front-damage : (given : List Header) (run : Run) → (all_in_front given run).damage ≡ run.damage
all_in_front-damage [] run = refl
all_in_front-damage (h ∷ hs) run = all_in_front-damage hs run

pub all_in_front-end : (given : List Header) (run : Run) → (all_in_front given run).end ≡ run.end
all_in_front-end [] run = refl
all_in_front-end (h ∷ hs) run = all_in_front-end hs run

-- One more Element before the run.
pub all_in_front-more : (given : List Header) (h : Header) (run : Run) → all_in_front given (in_front h run) ≡ all_in_front (given ++ h ∷ []) run
all_in_front-more [] h run = refl
all_in_front-more (k ∷ ks) h run = ap (in_front k) (all_in_front-more ks h run)

-- At first the reader has passed nothing.
pub IsOnWay-begins : (held : ℕ) (run left : Run) (kept : Collected) → run ≡ left → Keeps held [] kept → IsOnWay held run left kept
IsOnWay-begins held run left kept same keeps = record {
  given = [];
  keeps = keeps;
  split = same;
  limits = ap (λ (r : Run). limits_from held [] r.list) same;
}

-- It passes an Element within the limits.
pub IsOnWay-more : (held : ℕ) (run left rest : Run) (kept after : Collected) (h : Header) (refusal : Option Damage) → IsOnWay held run left kept → left ≡ in_front h rest → ((list : List Header) → Keeps held list kept → refusal ≡ first_damage (limit_causes held list h)) → refusal ≡ None → ((list : List Header) → Keeps held list kept → Keeps held (list ++ h ∷ []) after) → IsOnWay held run rest after
IsOnWay-more held run left rest kept after h refusal way is refuses none keeps =
    let passes : first_damage (limit_causes held way.given h) ≡ None = sym (refuses way.given way.keeps) ∙ none in
    record {
      given = way.given ++ h ∷ [];
      keeps = keeps way.given way.keeps;
      split = way.split ∙ ap (all_in_front way.given) is ∙ all_in_front-more way.given h rest;
      limits =
          way.limits ∙ ap (λ (r : Run). limits_from held way.given r.list) is
          ∙ ap (λ d. first_refusal d (limits_from held (way.given ++ h ∷ []) rest.list)) passes;
    }

-- At the end it has passed all.
pub HasLevel-ended : (held : ℕ) (bytes : List ℕ) (segment : Header) (at : ℕ) (found : Option Damage) (level : Level) → IsOnWay held (segment_run bytes segment) (nothing_left at found) level.kept → level.damage ≡ found → level.end ≡ (if is_unknown segment.size then option_map_or (λ (d : Damage). length bytes) found at else end_in (length bytes) segment) → HasLevel held bytes segment level
HasLevel-ended held bytes segment at found level way damage end =
    let run = segment_run bytes segment in
    let left = nothing_left at found in
    let list : way.given ≡ run.list = sym (ap (λ (r : Run). r.list) way.split ∙ all_in_front-list way.given left ∙ append-nil way.given) in
    let run_damage : found ≡ run.damage = sym (ap (λ (r : Run). r.damage) way.split ∙ all_in_front-damage way.given left) in
    let run_end : at ≡ run.end = sym (ap (λ (r : Run). r.end) way.split ∙ all_in_front-end way.given left) in
    record {
      limits = way.limits;
      kept = subst (λ (l : List Header). Keeps held l level.kept) list way.keeps;
      damage = damage ∙ run_damage;
      end =
          end
          ∙ ap (λ p. if is_unknown segment.size then option_map_or (λ (d : Damage). length bytes) found p else end_in (length bytes) segment) run_end
          ∙ ap (λ f. if is_unknown segment.size then option_map_or (λ (d : Damage). length bytes) f run.end else end_in (length bytes) segment) run_damage;
    }

-- An option that isn't Some is None.
pub none_where : (found : Option Damage) → ((d : Damage) → found ≡ Some d → ⊥) → found ≡ None
none_where None never = refl
none_where (Some d) never = absurd (never d refl)
