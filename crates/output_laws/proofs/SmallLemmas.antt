-- Blocks that are read with limits are small.
use Rattle.std.proofs.Common.{◌≡◌, ℕ, zero, suc, ◌<◌, ◌≤◌, nat_lt, nat_abs, Bool, true, false, ◌||◌, ℤ, pos, inl, inr, List, [], ◌∷◌, length, Option, Some, None, Result, Ok, Err, refl, ap, ◌∙◌, subst, arith}
use Rattle.std.specs.List.{All, list_any, slice_get}
use Rattle.std.specs.Option.{IfSome, option_map, option_map_or}
use Rattle.std.proofs.lemmas.Bool.{cases_lt, or_parts}
use Rattle.std.proofs.lemmas.Bool.Decides.{nat_tests}
use Rattle.std.proofs.lemmas.List.Elements.{All-nil, All-cons}
use Rattle.std.proofs.lemmas.List.{length-map}
use Rattle.ebml_numbers.specs.Number.{AreOctets, int_of}
use Rattle.mkv_schema.specs.declared.ids.TheConstants.{BLOCK}
use Rattle.mkv_io.specs.declared.damage.Damage.{Damage}
use Rattle.mkv_io.specs.declared.damage.Kind.{Kind}
use Rattle.mkv_io.specs.declared.damage.Kind.TheVariants.{TooMany}
use Rattle.mkv_schema.specs.declared.element.Header.{Header}
use Rattle.mkv_schema.specs.Element.{damage, known, stated_end}
use Rattle.mkv_schema.specs.Value.{body_of, first_of}
use Rattle.mkv_schema.specs.Outline.{where_it}
use Rattle.mkv_io.specs.Results.{and_then, unless}
use Rattle.mkv_schema.proofs.ElementLemmas.{length-octets_between}
use Rattle.block_format.specs.declared.limits.TheConstants.{MAX_BLOCK_LEN, MAX_REFERENCES, TOO_LARGE_TIME}
use Rattle.block_format.specs.Block.{Block, nanoseconds, is_too_large, has_too_large_time, simple_block_with}
use Rattle.block_format.specs.Content.{Content, content_in, lace_of}
use Rattle.block_format.specs.Elements.{with_limits, at_place, too_long, timestamp_or, timestamp_for, in_time, simple_block, group_run, group_refusal, group_children, block_or, references_among, too_many_references, kept_of, group_with, group_among, block_group}
use Rattle.block_format.specs.Events.{events_of, blocks_of}
use Rattle.output_laws.specs.Blocks.{CanBeLaced, IsSmall}
use Rattle.output_laws.proofs.ReadFrameLemmas.{sizes_of, content-laces}
use Rattle.output_laws.proofs.ReadGroupLemmas.{kept-short, block-short}
use Rattle.output_laws.proofs.WalkLemmas.{each-block}
use Rattle.mkv_schema.proofs.OutlineLemmas.{and_then-ok, unless-ok}
use Rattle.ebml_numbers.proofs.SpelledLemmas.{AreOctets-take, AreOctets-drop}

no-cause : (t : Bool) (d : Damage) → where_it t d ≡ None → t ≡ false
no-cause true d is = absurd (cc)
no-cause false d is = refl

-- ---- timestamps

none-of : (a b c : Bool) → (a || b || c) ≡ false → (a ≡ false) × (b ≡ false) × (c ≡ false)
none-of true b c is = absurd (cc)
none-of false true c is = absurd (cc)
none-of false false true is = absurd (cc)
none-of false false false is = (refl, refl, refl)

small-time : (z : ℤ) → is_too_large z ≡ false → nat_abs z < TOO_LARGE_TIME
small-time z is = grind (arith, nat_tests)

small-duration : (d : Option ℕ) → option_map_or (λ n. is_too_large (pos n)) d false ≡ false → IfSome d (λ n. n < TOO_LARGE_TIME)
small-duration None is = tt
small-duration (Some n) is = small-time (pos n) is

small-references : (rs : List ℤ) → list_any is_too_large rs ≡ false → All (λ z. nat_abs z < TOO_LARGE_TIME) rs
small-references [] is = All-nil (λ z. nat_abs z < TOO_LARGE_TIME)
small-references (r ∷ rs) is =
    let parts = or_parts (is_too_large r) (list_any is_too_large rs) is in
    All-cons (λ z. nat_abs z < TOO_LARGE_TIME) r rs (small-time r parts.0) (small-references rs parts.1)

-- A block with few parts is small if its timestamps aren't too large.
IsSmall-of : (b : Block) → has_too_large_time b ≡ false → length b.references ≤ MAX_REFERENCES → CanBeLaced b.lace (sizes_of b.frames) → length b.kept ≤ MAX_BLOCK_LEN → IsSmall b
IsSmall-of b small few frames kept =
    let parts = none-of (is_too_large b.time) (option_map_or (λ d. is_too_large (pos d)) b.duration false) (list_any is_too_large b.references) small in
    record { time = small-time b.time parts.0; duration = small-duration b.duration parts.1; references = small-references b.references parts.2; few = few; frames = frames; kept = kept }

-- A block whose timestamps aren't too large.
IsSmall-in_time : (s id : ℕ) (made b : Block) → length made.references ≤ MAX_REFERENCES → CanBeLaced made.lace (sizes_of made.frames) → length made.kept ≤ MAX_BLOCK_LEN → in_time (with_limits s) id made ≡ Ok b → IsSmall b
IsSmall-in_time s id made b few frames kept is =
    let good = unless-ok _ made b is in
    subst IsSmall good.1 (IsSmall-of made (no-cause _ _ good.0) few frames kept)

-- ---- bodies

told-ok : (id offset : ℕ) (r : Result Content Kind) (c : Content) → at_place id offset r ≡ Ok c → r ≡ Ok c
told-ok id offset (Ok x) c is = ap (λ (y : Content). Ok y) (cc)
told-ok id offset (Err k) c is = absurd (cc)

short-enough : (s : ℕ) (ts : Option ℕ) (h : Header) (t : ℕ) → timestamp_for (with_limits s) ts h ≡ Ok t → known h.size ≤ MAX_BLOCK_LEN
short-enough s ts h t is =
    let parts = and_then-ok (unless (too_long (with_limits s) h) ts) (timestamp_or h) t is in
    let none = unless-ok (too_long (with_limits s) h) ts parts.0 parts.1.0 in
    within (known h.size) (no-cause _ _ none.0)
  where
    within : (n : ℕ) → nat_lt MAX_BLOCK_LEN n ≡ false → n ≤ MAX_BLOCK_LEN
    within n test = grind (arith, nat_tests)

body-octets : (bytes : List ℕ) (h : Header) → AreOctets bytes → AreOctets (body_of bytes h)
body-octets bytes h octets = AreOctets-drop h.body _ (AreOctets-take (stated_end h) bytes octets)

body-length : (bytes : List ℕ) (h : Header) → length (body_of bytes h) ≤ known h.size
body-length bytes h = omega (arith, length-octets_between bytes h.body (stated_end h))

-- ---- a SimpleBlock

simple-small : (s : ℕ) (bytes : List ℕ) (ts : Option ℕ) (h : Header) (b : Block) → AreOctets bytes → simple_block (with_limits s) bytes ts h ≡ Ok b → IsSmall b
unfolding simple_block
simple-small s bytes ts h b octets is =
    let time = and_then-ok (timestamp_for (with_limits s) ts h) (λ t. and_then (at_place h.id h.offset (content_in (body_of bytes h))) (λ c. in_time (with_limits s) h.id (simple_block_with s t h.offset c))) b is in
    let content = and_then-ok (at_place h.id h.offset (content_in (body_of bytes h))) (λ c. in_time (with_limits s) h.id (simple_block_with s time.0 h.offset c)) b time.1.1 in
    let short = short-enough s ts h time.0 time.1.0 in
    let frames = content-laces (body_of bytes h) content.0 (body-octets bytes h octets) (omega (arith, body-length bytes h)) (told-ok h.id h.offset (content_in (body_of bytes h)) content.0 content.1.0) in
    IsSmall-in_time s h.id (simple_block_with s time.0 h.offset content.0) b (omega arith) frames (omega arith) content.1.1

-- ---- a BlockGroup

-- If no reference is beyond the limit, there are few.
few-references : (l : List Header) (n : ℕ) → slice_get l n ≡ None → length l ≤ n
few-references l n none = elim (cases_lt n (length l)) [ inl more ↦ absurd (found l n more none) | inr few ↦ few ]
  where
    found : (l : List Header) (n : ℕ) → n < length l → slice_get l n ≡ None → ⊥
    found [] n more none = absurd (omega arith)
    found (x ∷ xs) zero more none = cc
    found (x ∷ xs) (suc n) more none = found xs n (omega arith) none

none-too_many : (o : Option Header) → option_map (λ (c : Header). damage TooMany c.id c.offset) o ≡ None → o ≡ None
none-too_many None is = refl
none-too_many (Some c) is = absurd (cc)

among-small : (s : ℕ) (bytes : List ℕ) (t offset : ℕ) (children : List Header) (h : Header) (b : Block) → AreOctets bytes → length (body_of bytes h) ≤ MAX_BLOCK_LEN → length (kept_of bytes children) ≤ MAX_BLOCK_LEN → group_among (with_limits s) bytes t offset children h ≡ Ok b → IsSmall b
among-small s bytes t offset children h b octets short kept is =
    let content = and_then-ok (at_place BLOCK offset (content_in (body_of bytes h))) (λ c. and_then (unless (too_many_references (with_limits s) children) c) (λ c. in_time (with_limits s) BLOCK (group_with s bytes t offset children c))) b is in
    let few = and_then-ok (unless (too_many_references (with_limits s) children) content.0) (λ c. in_time (with_limits s) BLOCK (group_with s bytes t offset children c)) b content.1.1 in
    let taken = unless-ok (too_many_references (with_limits s) children) content.0 few.0 few.1.0 in
    let count = few-references (references_among children) MAX_REFERENCES (none-too_many (slice_get (references_among children) MAX_REFERENCES) taken.0) in
    let scaled = length-map (references_among children) (λ (c : Header). nanoseconds s (int_of (body_of bytes c))) in
    let laces = content-laces (body_of bytes h) content.0 (body-octets bytes h octets) short (told-ok BLOCK offset (content_in (body_of bytes h)) content.0 content.1.0) in
    let frames : CanBeLaced (lace_of few.0.flags) (sizes_of few.0.frames) = subst (λ (c : Content). CanBeLaced (lace_of c.flags) (sizes_of c.frames)) taken.1 laces in
    IsSmall-in_time s BLOCK (group_with s bytes t offset children few.0) b (omega arith) frames kept few.1.1

block_or-ok : (h : Header) (o : Option Header) (b : Header) → block_or h o ≡ Ok b → o ≡ Some b
block_or-ok h None b is = absurd (cc)
block_or-ok h (Some x) b is = ap (λ (y : Header). Some y) (cc)

group-small : (s : ℕ) (bytes : List ℕ) (ts : Option ℕ) (h : Header) (b : Block) → AreOctets bytes → block_group (with_limits s) bytes ts h ≡ Ok b → IsSmall b
unfolding block_group
group-small s bytes ts h b octets is =
    let time = and_then-ok (timestamp_for (with_limits s) ts h) (λ t. and_then (group_children bytes h) (λ cs. and_then (block_or h (first_of BLOCK cs)) (group_among (with_limits s) bytes t h.offset cs))) b is in
    let kids = and_then-ok (group_children bytes h) (λ cs. and_then (block_or h (first_of BLOCK cs)) (group_among (with_limits s) bytes time.0 h.offset cs)) b time.1.1 in
    let first = and_then-ok (block_or h (first_of BLOCK kids.0)) (group_among (with_limits s) bytes time.0 h.offset kids.0) b kids.1.1 in
    let short = short-enough s ts h time.0 time.1.0 in
    let list : (group_run bytes h).list ≡ kids.0 = (unless-ok (group_refusal bytes (group_run bytes h)) (group_run bytes h).list kids.0 kids.1.0).1 in
    let block = block-short bytes h first.0 BLOCK (ap (first_of BLOCK) list ∙ block_or-ok h (first_of BLOCK kids.0) first.0 first.1.0) in
    let kept = kept-short bytes h in
    let octets_kept : length (kept_of bytes (group_run bytes h).list) ≡ length (kept_of bytes kids.0) = ap (λ (l : List Header). length (kept_of bytes l)) list in
    among-small s bytes time.0 h.offset kids.0 first.0 b octets (omega arith) (omega arith) first.1.1

-- ---- the file

-- Each block of a file is small.
pub all-small : (scale : ℕ) (bytes : List ℕ) (segment : Header) → AreOctets bytes → All IsSmall (blocks_of (events_of (with_limits scale) bytes segment))
all-small scale bytes segment octets =
    each-block IsSmall (with_limits scale) bytes (λ timestamp h b within. simple-small scale bytes timestamp h b octets) (λ timestamp h b within. group-small scale bytes timestamp h b octets) segment
