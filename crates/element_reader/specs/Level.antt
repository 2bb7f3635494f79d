-- The Elements at level 1 of a Segment, as an outline collects them.
use Rattle.std.specs.Prelude.{◌≡◌, ℕ, if◌then◌else◌, List, [], ◌∷◌, length, Option, Some, None, Result, Ok, Err}
use Rattle.std.specs.Option.{option_map_or}
use Rattle.mkv_io.specs.declared.damage.Damage.{Damage}
use Rattle.mkv_schema.specs.declared.element.Header.{Header}
use Rattle.mkv_schema.specs.Elements.{Run, in_front}
use Rattle.mkv_schema.specs.Outline.{limits_from, segment_run, segment_end}
use Rattle.element_reader.specs.Collected.{Keeps}
use Rattle.element_reader.specs.declared.collected.Collected.{Collected}
use Rattle.element_reader.specs.declared.level.Level.{Level}
use Rattle.mkv_schema.specs.Element.{is_unknown, end_in}

-- `level`, which `collect` returned, has what an outline keeps of the Elements at level 1 of `segment` in the content `bytes`. It also has the damage
-- that ends them, and the Segment's end. None passes a limit, after `held` bytes in earlier inputs. Used by `IsLevel` and `EndsWay`.
pub record HasLevel (held : ℕ) (bytes : List ℕ) (segment : Header) (level : Level) : Type 0 where
  pub limits : limits_from held [] (segment_run bytes segment).list ≡ None
  pub kept : Keeps held (segment_run bytes segment).list level.kept
  pub damage : level.damage ≡ (segment_run bytes segment).damage
  pub end : level.end ≡ segment_end bytes segment (segment_run bytes segment)

-- The last argument, which `collect` returned, is the collected level of `segment` in the content `bytes`, or the damage of the first Element that
-- passes a limit. Earlier inputs have `held` bytes of Info, Tracks, Chapters and Tags.
abbrev pub IsLevel : ℕ → List ℕ → Header → Result Level Damage → Type 0
IsLevel held bytes segment (Ok level) = HasLevel held bytes segment level
IsLevel held bytes segment (Err d) = limits_from held [] (segment_run bytes segment).list ≡ Some d

-- the run `run` with the Elements of the given list before it; a reader of level 1 has passed them
abbrev pub all_in_front : List Header → Run → Run
all_in_front [] run = run
all_in_front (h ∷ hs) run = in_front h (all_in_front hs run)

-- the run of a Segment without Elements that ends at the offset `p`, with the damage `found` or without one: what is left at its end; for `EndsWay`
abbrev pub nothing_left : ℕ → Option Damage → Run
nothing_left p found = record { list = []; damage = found; end = p }

-- `collect` has passed the first Elements of `whole`, the run of a Segment, and keeps `kept` of them. The Elements `left` follow, and no passed one
-- passes a limit. Earlier inputs have `held` bytes of Info, Tracks, Chapters and Tags. Used by `EndsWay`.
pub record IsOnWay (held : ℕ) (whole left : Run) (kept : Collected) : Type 0 where
  pub given : List Header
  pub keeps : Keeps held given kept
  pub split : whole ≡ all_in_front given left
  pub limits : limits_from held [] whole.list ≡ limits_from held given left.list

-- the offset of the end of `segment` in a file of `total` bytes, for its outline. If its size is unknown, it is the end `at` of its Elements, or the
-- end of the file if `damage` ended them. Used by the contract of `segment_end`.
abbrev pub end_met : ℕ → Header → ℕ → Option Damage → ℕ
end_met total segment at damage = if is_unknown segment.size then option_map_or (λ _. total) damage at else end_in total segment

-- Suppose that `collect`, which keeps `kept`, has reached the end of `segment` in a file of `total` bytes, at the offset `at`, with the damage
-- `damage` or without. Then `level` is what an outline has of it. It is the contract of `ended`.
abbrev pub EndsWay : ℕ → Header → ℕ → Option Damage → Collected → Level → Type 0
EndsWay total segment at damage kept level = (held : ℕ) (bytes : List ℕ) → total ≡ length bytes
    → IsOnWay held (segment_run bytes segment) (nothing_left at damage) kept → HasLevel held bytes segment level
