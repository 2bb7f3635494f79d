-- Blocks that are computed from the children of a BlockGroup.
use Rattle.std.proofs.Common.{◌≡◌, ℕ, zero, suc, ◌<◌, inl, inr, ℤ, pos, ◌+ℤ◌, ◌*◌, ◌==◌, ◌||◌, Bool, true, false, List, [], ◌∷◌, length, map, take, Option, Some, None, Result, Ok, Err, refl, sym, ◌∙◌, ap, ap₂, arith}
use Rattle.std.specs.List.{list_any, slice_get}
use Rattle.std.specs.Option.{option_map, option_map_or}
use Rattle.std.proofs.lemmas.List.{length-map, take_all}
use Rattle.std.proofs.lemmas.Bool.{cases_lt}
use Rattle.ebml_numbers.specs.Number.{uint_of, int_of}
use Rattle.mkv_schema.specs.declared.ids.TheConstants.{BLOCK, BLOCK_DURATION}
use Rattle.lacing.specs.declared.kind.Lace.{Lace}
use Rattle.mkv_io.specs.declared.damage.Damage.{Damage}
use Rattle.mkv_io.specs.declared.damage.Kind.TheVariants.{TimeTooLarge, TooMany}
use Rattle.mkv_schema.specs.declared.element.Header.{Header}
use Rattle.mkv_schema.specs.Element.{damage}
use Rattle.mkv_schema.specs.Outline.{where_it}
use Rattle.mkv_io.specs.Results.{and_then, unless}
use Rattle.mkv_schema.specs.Value.{body_of, first_of}
use Rattle.block_format.specs.declared.limits.TheConstants.{MAX_REFERENCES}
use Rattle.block_format.specs.Content.{is_invisible, lace_of}
use Rattle.block_format.specs.Block.{Block, nanoseconds, is_too_large, has_too_large_time}
use Rattle.block_format.specs.Elements.{with_limits, references_among, references_of, duration_of, kept_of, too_many_references, group_with, in_time}
use Rattle.block_reader.specs.declared.block.Times.{Times}
use Rattle.block_reader.specs.declared.content.Spelled.{Spelled}
use Rattle.block_reader.specs.declared.gathered.Gathered.{Gathered}
use Rattle.block_reader.specs.Group.{Gathers}
use Rattle.block_reader.specs.Made.{block_with, has_too_large_ticks, HasTimes}
use Rattle.block_reader.specs.Spelled.{content_of}
use Rattle.block_reader.specs.Time.{is_too_large_at}

-- ---- scaled facts

option_map-twice : (f : Header → ℕ) (h : ℕ → ℕ) (o : Option Header) → option_map (λ (c : Header). h (f c)) o ≡ option_map h (option_map f o)
option_map-twice f h None = refl
option_map-twice f h (Some c) = refl

map-twice : (f : Header → ℤ) (h : ℤ → ℤ) (l : List Header) → map (λ (c : Header). h (f c)) l ≡ map h (map f l)
map-twice f h [] = refl
map-twice f h (c ∷ cs) = ap (λ l. h (f c) ∷ l) (map-twice f h cs)

-- If no reference is surplus, all are gathered.
all_gathered : (l : List Header) (n : ℕ) → slice_get l n ≡ None → take n l ≡ l
all_gathered l n none = take_all n l (elim (cases_lt n (length l)) [ inl more ↦ absurd (slice_get-found l n more none) | inr few ↦ few ])
  where
    slice_get-found : (l : List Header) (n : ℕ) → n < length l → slice_get l n ≡ None → ⊥
    slice_get-found [] n more none = absurd (omega arith)
    slice_get-found (x ∷ xs) zero more none = cc
    slice_get-found (x ∷ xs) (suc n) more none = slice_get-found xs n (omega arith) none

-- the block of a group with these parts
abbrev group_of : ℕ → ℕ → ℕ → Spelled → List (List ℕ) → Bool → Option ℕ → List ℤ → List ℕ → Block
group_of scale timestamp offset s frames key duration references kept = record {
  track = s.track;
  time = nanoseconds scale (pos timestamp +ℤ s.relative);
  key = key;
  invisible = is_invisible s.flags;
  discardable = false;
  group = true;
  lace = lace_of s.flags;
  frames = frames;
  duration = duration;
  references = references;
  kept = kept;
  offset = offset;
}

-- the block of a group, from its gathered facts
abbrev gathered_group : ℕ → ℕ → ℕ → Spelled → List (List ℕ) → Gathered → Block
gathered_group scale timestamp offset s frames g =
    group_of scale timestamp offset s frames (length g.references.items == 0) (option_map (λ (n : ℕ). n * scale) g.duration) (map (nanoseconds scale) g.references.items) g.kept.items

group_with-gathered : (scale timestamp offset : ℕ) (bytes : List ℕ) (children : List Header) (s : Spelled) (frames : List (List ℕ)) (g : Gathered) → Gathers bytes children g → g.too_many ≡ None → group_with scale bytes timestamp offset children (content_of s frames) ≡ gathered_group scale timestamp offset s frames g
group_with-gathered scale timestamp offset bytes children s frames g gathers none =
    let ticks : Header → ℤ = λ c. int_of (body_of bytes c) in
    let all : take MAX_REFERENCES (references_among children) ≡ references_among children = all_gathered (references_among children) MAX_REFERENCES (sym gathers.too_many ∙ none) in
    let items : map ticks (references_among children) ≡ g.references.items = ap (map ticks) (sym all) ∙ sym gathers.references in
    let count : length (references_among children) ≡ length g.references.items = sym (simp length-map) ∙ ap length items in
    let references : references_of scale bytes children ≡ map (nanoseconds scale) g.references.items = map-twice ticks (nanoseconds scale) (references_among children) ∙ ap (map (nanoseconds scale)) items in
    let duration : duration_of scale bytes children ≡ option_map (λ (n : ℕ). n * scale) g.duration =
    option_map-twice (λ c. uint_of (body_of bytes c)) (λ n. n * scale) (first_of BLOCK_DURATION children) ∙ ap (option_map (λ (n : ℕ). n * scale)) (sym gathers.duration) in
    ap (λ (n : ℕ). group_of scale timestamp offset s frames (n == 0) (duration_of scale bytes children) (references_of scale bytes children) (kept_of bytes children)) count
    ∙ ap (λ d. group_of scale timestamp offset s frames (length g.references.items == 0) d (references_of scale bytes children) (kept_of bytes children)) duration
    ∙ ap (λ l. group_of scale timestamp offset s frames (length g.references.items == 0) (option_map (λ (n : ℕ). n * scale) g.duration) l (kept_of bytes children)) references
    ∙ ap (λ l. group_of scale timestamp offset s frames (length g.references.items == 0) (option_map (λ (n : ℕ). n * scale) g.duration) (map (nanoseconds scale) g.references.items) l) (sym gathers.kept)

-- ---- times of a group

list_any-scaled : (scale : ℕ) (l : List ℤ) → list_any is_too_large (map (nanoseconds scale) l) ≡ list_any (is_too_large_at scale) l
list_any-scaled scale [] = refl
list_any-scaled scale (z ∷ zs) = ap (λ b. is_too_large_at scale z || b) (list_any-scaled scale zs)

duration-scaled : (scale : ℕ) (o : Option ℕ) → option_map_or (λ n. is_too_large (pos n)) (option_map (λ (n : ℕ). n * scale) o) false ≡ option_map_or (λ n. is_too_large (pos (n * scale))) o false
duration-scaled scale None = refl
duration-scaled scale (Some n) = refl

times-scaled : (scale timestamp offset : ℕ) (s : Spelled) (frames : List (List ℕ)) (g : Gathered) → has_too_large_time (gathered_group scale timestamp offset s frames g) ≡ has_too_large_ticks scale (pos timestamp +ℤ s.relative) g.duration g.references.items
times-scaled scale timestamp offset s frames g =
    ap₂ (λ a b. is_too_large_at scale (pos timestamp +ℤ s.relative) || a || b) (duration-scaled scale g.duration) (list_any-scaled scale g.references.items)

-- ---- block of a group, or its damage

abbrev group_found : ℕ → List ℕ → ℕ → ℕ → List Header → Spelled → List (List ℕ) → Result Block Damage
group_found scale bytes timestamp offset children s frames =
    and_then (unless (too_many_references (with_limits scale) children) (content_of s frames)) (λ content. in_time (with_limits scale) BLOCK (group_with scale bytes timestamp offset children content))

-- If no reference is surplus, only the times can be damaged.
group_found-gathered : (scale timestamp offset : ℕ) (bytes : List ℕ) (children : List Header) (s : Spelled) (frames : List (List ℕ)) (g : Gathered) (large : Bool) → Gathers bytes children g → g.too_many ≡ None → has_too_large_ticks scale (pos timestamp +ℤ s.relative) g.duration g.references.items ≡ large → group_found scale bytes timestamp offset children s frames ≡ unless (where_it large (damage TimeTooLarge BLOCK offset)) (gathered_group scale timestamp offset s frames g)
group_found-gathered scale timestamp offset bytes children s frames g large gathers none times =
    ap (λ o. and_then (unless (option_map (λ (c : Header). damage TooMany c.id c.offset) o) (content_of s frames)) (λ content. in_time (with_limits scale) BLOCK (group_with scale bytes timestamp offset children content))) (sym gathers.too_many ∙ none)
    ∙ ap (in_time (with_limits scale) BLOCK) (group_with-gathered scale timestamp offset bytes children s frames g gathers none)
    ∙ ap (λ b. unless (where_it b (damage TimeTooLarge BLOCK offset)) (gathered_group scale timestamp offset s frames g)) (times-scaled scale timestamp offset s frames g ∙ times)

pub group_found-large : (scale timestamp offset : ℕ) (bytes : List ℕ) (children : List Header) (s : Spelled) (frames : List (List ℕ)) (g : Gathered) → Gathers bytes children g → g.too_many ≡ None → has_too_large_ticks scale (pos timestamp +ℤ s.relative) g.duration g.references.items ≡ true → group_found scale bytes timestamp offset children s frames ≡ Err (damage TimeTooLarge BLOCK offset)
group_found-large scale timestamp offset bytes children s frames g gathers none times = group_found-gathered scale timestamp offset bytes children s frames g true gathers none times

-- The block of a group in a reader's terms.
pub group_found-ok : (scale timestamp offset : ℕ) (bytes : List ℕ) (children : List Header) (s : Spelled) (frames : List (List ℕ)) (g now : Gathered) (t : Times) (ticks time : ℤ) (key invisible : Bool) (kind : Lace) → Gathers bytes children g → g.too_many ≡ None → HasTimes scale ticks g now t → ticks ≡ pos timestamp +ℤ s.relative → now.kept ≡ g.kept → time ≡ t.time → key ≡ (length g.references.items == 0) → invisible ≡ is_invisible s.flags → kind ≡ lace_of s.flags → group_found scale bytes timestamp offset children s frames ≡ Ok (block_with (record { track = s.track; time = time; key = key; invisible = invisible; discardable = false; group = true; lace = kind; duration = t.duration; offset = offset }) frames now.references.items now.kept.items)
group_found-ok scale timestamp offset bytes children s frames g now t ticks time key invisible kind gathers none times ticks_are kept time_is key_is invisible_is kind_is =
    let made : ℤ → Bool → Bool → Lace → Option ℕ → List ℤ → List ℕ → Result Block Damage = λ z k i l duration references octets.
    Ok (record { track = s.track; time = z; key = k; invisible = i; discardable = false; group = true; lace = l; frames = frames; duration = duration; references = references; kept = octets; offset = offset }) in
    let first = length g.references.items == 0 in
    let duration = option_map (λ (n : ℕ). n * scale) g.duration in
    let references = map (nanoseconds scale) g.references.items in
    let start : nanoseconds scale (pos timestamp +ℤ s.relative) ≡ time = ap (nanoseconds scale) (sym ticks_are) ∙ sym times.time ∙ sym time_is in
    let fits = ap (λ z. has_too_large_ticks scale z g.duration g.references.items) (sym ticks_are) ∙ times.fits in
    group_found-gathered scale timestamp offset bytes children s frames g false gathers none fits
    ∙ ap (λ z. made z first (is_invisible s.flags) (lace_of s.flags) duration references g.kept.items) start
    ∙ ap (λ k. made time k (is_invisible s.flags) (lace_of s.flags) duration references g.kept.items) (sym key_is)
    ∙ ap₂ (λ i l. made time key i l duration references g.kept.items) (sym invisible_is) (sym kind_is)
    ∙ ap₂ (λ d l. made time key invisible kind d l g.kept.items) (sym times.duration) (sym times.references)
    ∙ ap (λ v. made time key invisible kind t.duration now.references.items v.items) (sym kept)

-- An option without a value is absent.
pub none_where : (o : Option Header) → ((h : Header) → o ≡ Some h → ⊥) → o ≡ None
none_where None never = refl
none_where (Some h) never = absurd (never h refl)
