-- Blocks in their buffers.
use Rattle.std.proofs.Common.{◌≡◌, ℕ, ◌+◌, ◌-◌, ◌≤◌, nat_lt, Bool, false, ℤ, List, length, take, drop, Option, Some, None, Result, Ok, Err, sym, ◌∙◌, ap, ap₂, subst, arith}
use Rattle.std.proofs.lemmas.Bool.Decides.{nat_tests}
use Rattle.std.proofs.lemmas.List.{drop-drop, drop-take}
use Rattle.mkv_schema.specs.declared.ids.TheConstants.{BLOCK}
use Rattle.mkv_io.specs.declared.damage.Damage.{Damage}
use Rattle.mkv_io.specs.declared.damage.Kind.{Kind}
use Rattle.mkv_io.specs.declared.damage.Kind.TheVariants.{BlockTooLarge, MissingChild}
use Rattle.mkv_schema.specs.declared.element.Header.{Header}
use Rattle.mkv_schema.specs.Element.{in_master, known, stated_end, damage, octets_between}
use Rattle.mkv_schema.specs.Elements.{children_in}
use Rattle.mkv_schema.specs.Outline.{where_it}
use Rattle.mkv_io.specs.Results.{and_then, unless}
use Rattle.mkv_schema.specs.Value.{body_of, first_of}
use Rattle.elements.specs.Body.{IsBody}
use Rattle.elements.proofs.BodyLemmas.{IsBody-part}
use Rattle.block_format.specs.declared.limits.TheConstants.{MAX_BLOCK_LEN}
use Rattle.block_format.specs.Content.{Content, content_in, frames_cut}
use Rattle.block_format.specs.Block.{Block, simple_block_with}
use Rattle.block_format.specs.Elements.{with_limits, at_place, in_time, simple_block, block_group, group_run, group_refusal, group_among, block_or, group_with, too_many_references, timestamp_or}
use Rattle.block_reader.specs.declared.head.BlockHead.{BlockHead}
use Rattle.block_reader.specs.declared.gathered.Gathered.{Gathered}
use Rattle.block_reader.specs.Group.{GathersRun}
use Rattle.block_reader.specs.Made.{block_with}

-- ---- a SimpleBlock within the size limit

not_long : (n : ℕ) → n ≤ MAX_BLOCK_LEN → nat_lt MAX_BLOCK_LEN n ≡ false
not_long n few = grind (arith, nat_tests)

-- the block of a SimpleBlock, with a test for its size
timed : ℕ → Header → (ℕ → Result Block Damage) → Bool → Result Block Damage
timed timestamp h more long = and_then (and_then (unless (where_it long (damage BlockTooLarge h.id h.offset)) (Some timestamp)) (timestamp_or h)) more

-- A SimpleBlock is computed from its parsed bytes, or refused with their error.
pub simple_block-spelled : (scale timestamp : ℕ) (bytes octets : List ℕ) (h : Header) (found : Result Content Kind) → known h.size ≤ MAX_BLOCK_LEN → octets ≡ body_of bytes h → content_in octets ≡ found → simple_block (with_limits scale) bytes (Some timestamp) h ≡ and_then (at_place h.id h.offset found) (λ content. in_time (with_limits scale) h.id (simple_block_with scale timestamp h.offset content))
unfolding simple_block timed
simple_block-spelled scale timestamp bytes octets h found few body is =
    let more : ℕ → Result Content Kind → Result Block Damage = λ time spelled.
    and_then (at_place h.id h.offset spelled) (λ content. in_time (with_limits scale) h.id (simple_block_with scale time h.offset content)) in
    ap (timed timestamp h (λ time. more time (content_in (body_of bytes h)))) (not_long (known h.size) few)
    ∙ ap (λ o. more timestamp (content_in o)) (sym body) ∙ ap (more timestamp) is

-- ---- a BlockGroup within the size limit

-- the block of a group, from its children or their refusal
of_group : ℕ → ℕ → List ℕ → Header → List Header → Option Damage → Result Block Damage
of_group scale timestamp bytes h list refusal =
    and_then (unless refusal list) (λ children. and_then (block_or h (first_of BLOCK children)) (group_among (with_limits scale) bytes timestamp h.offset children))

block_group-refusal : (scale timestamp : ℕ) (bytes : List ℕ) (h : Header) (refusal : Option Damage) → known h.size ≤ MAX_BLOCK_LEN → group_refusal bytes (group_run bytes h) ≡ refusal → block_group (with_limits scale) bytes (Some timestamp) h ≡ of_group scale timestamp bytes h (group_run bytes h).list refusal
unfolding block_group timed of_group
block_group-refusal scale timestamp bytes h refusal few is =
    ap (timed timestamp h (λ time. of_group scale time bytes h (group_run bytes h).list (group_refusal bytes (group_run bytes h)))) (not_long (known h.size) few)
    ∙ ap (of_group scale timestamp bytes h (group_run bytes h).list) is

-- A refused child refuses the group.
pub block_group-refused : (scale timestamp : ℕ) (bytes : List ℕ) (h : Header) (d : Damage) → known h.size ≤ MAX_BLOCK_LEN → group_refusal bytes (group_run bytes h) ≡ Some d → block_group (with_limits scale) bytes (Some timestamp) h ≡ Err d
unfolding of_group
block_group-refused scale timestamp bytes h d few is = block_group-refusal scale timestamp bytes h (Some d) few is

-- A group without a Block is damaged.
pub block_group-without : (scale timestamp : ℕ) (bytes : List ℕ) (h : Header) → known h.size ≤ MAX_BLOCK_LEN → group_refusal bytes (group_run bytes h) ≡ None → first_of BLOCK (group_run bytes h).list ≡ None → block_group (with_limits scale) bytes (Some timestamp) h ≡ Err (damage MissingChild BLOCK h.offset)
unfolding of_group
block_group-without scale timestamp bytes h few is none =
    block_group-refusal scale timestamp bytes h None few is
    ∙ ap (λ o. and_then (block_or h o) (group_among (with_limits scale) bytes timestamp h.offset (group_run bytes h).list)) none

-- A group's block is computed from the parsed bytes of its Block, or refused with their error.
pub block_group-spelled : (scale timestamp : ℕ) (bytes octets : List ℕ) (h block : Header) (found : Result Content Kind) → known h.size ≤ MAX_BLOCK_LEN → group_refusal bytes (group_run bytes h) ≡ None → first_of BLOCK (group_run bytes h).list ≡ Some block → octets ≡ body_of bytes block → content_in octets ≡ found → block_group (with_limits scale) bytes (Some timestamp) h ≡ and_then (at_place BLOCK h.offset found) (λ content. and_then (unless (too_many_references (with_limits scale) (group_run bytes h).list) content) (λ content. in_time (with_limits scale) BLOCK (group_with scale bytes timestamp h.offset (group_run bytes h).list content)))
unfolding of_group
block_group-spelled scale timestamp bytes octets h block found few is some body spells =
    let list = (group_run bytes h).list in
    let more : Result Content Kind → Result Block Damage = λ spelled.
    and_then (at_place BLOCK h.offset spelled) (λ content. and_then (unless (too_many_references (with_limits scale) list) content) (λ content. in_time (with_limits scale) BLOCK (group_with scale bytes timestamp h.offset list content))) in
    block_group-refusal scale timestamp bytes h None few is
    ∙ ap (λ o. and_then (block_or h o) (group_among (with_limits scale) bytes timestamp h.offset list)) some
    ∙ ap (λ o. more (content_in o)) (sym body) ∙ ap more spells

-- ---- bytes of the frames

-- Frames after a block's header end with its body.
pub frames-place : (octets : List ℕ) (base start end : ℕ) → base + start ≤ end → take (end - (base + start)) (drop (base + start) octets) ≡ drop start (take (end - base) (drop base octets))
frames-place octets base start end order =
    let split : base + (end - base) ≡ end = omega arith in
    let rest : base + start + (end - (base + start)) ≡ end = omega arith in
    sym (drop-take (base + start) (end - (base + start)) octets)
    ∙ ap (λ n. drop (base + start) (take n octets)) rest
    ∙ sym (drop-drop start base (take end octets))
    ∙ ap (drop start) (ap (λ n. drop base (take n octets)) (sym split) ∙ drop-take base (end - base) octets)

-- Equal parts make equal blocks.
pub same-block : (head : BlockHead) (sizes body octets : List ℕ) (references refs : List ℤ) (kept keeps : List ℕ) → body ≡ octets → references ≡ refs → kept ≡ keeps → ◌≡◌ {A = Result Block Damage} (Ok (block_with head (frames_cut sizes body) references kept)) (Ok (block_with head (frames_cut sizes octets) refs keeps))
same-block head sizes body octets references refs kept keeps same_body same_references same_kept =
    ap (λ o. Ok (block_with head (frames_cut sizes o) references kept)) same_body
    ∙ ap₂ (λ r k. Ok (block_with head (frames_cut sizes octets) r k)) same_references same_kept

-- ---- body of a group

-- The bytes that were read are the group's body.
pub IsBody-held : (bytes : List ℕ) (total : ℕ) (h : Header) (body : List ℕ) → length bytes ≡ total → body ≡ body_of bytes h → length body ≡ known h.size → stated_end h ≤ total → IsBody bytes h.body total body
IsBody-held bytes total h body whole is count within =
    let end : stated_end h ≡ h.body + length body = omega arith in
    record { whole = whole; within = omega arith; octets = is ∙ ap (octets_between bytes h.body) end }

-- Facts gathered from the body are gathered from the group's children.
pub GathersRun-held : (bytes : List ℕ) (h : Header) (body : List ℕ) (g : Gathered) (found : Result (Unit {0}) Damage) → length body ≡ known h.size → GathersRun bytes (children_in in_master bytes h.body (h.body + length body)) g found → GathersRun bytes (group_run bytes h) g found
GathersRun-held bytes h body g found count gathers =
    let end : h.body + length body ≡ stated_end h = omega arith in
    subst (λ (e : ℕ). GathersRun bytes (children_in in_master bytes h.body e) g found) end gathers

-- A range of the group's body is the body of its Block.
pub Block-held : (bytes : List ℕ) (base total : ℕ) (body : List ℕ) (block : Header) (start end : ℕ) → IsBody bytes base total body → base ≤ block.body → stated_end block ≤ base + length body → start ≡ block.body - base → end ≡ start + known block.size → take (end - start) (drop start body) ≡ body_of bytes block
Block-held bytes base total body block start end is from within start_is end_is =
    let count : end - start ≡ known block.size = omega arith in
    ap (λ n. take n (drop start body)) count ∙ ap (λ n. take (known block.size) (drop n body)) start_is
    ∙ IsBody-part bytes base total body block is from within
