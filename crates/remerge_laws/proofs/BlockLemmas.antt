-- Blocks that keep a reader's limits are read with them.
use Rattle.std.proofs.Common.{◌≡◌, ℕ, ◌≤◌, ◌==◌, Bool, true, false, ◌||◌, if◌then◌else◌, List, [], ◌∷◌, ◌++◌, length, All, Option, Some, None, Ok, Err, refl, sym, ap, ap₂, ◌∙◌, subst, arith, inl, inr, option_map}
use Rattle.std.proofs.lemmas.Bool.{le-ltb, cases_Bool}
use Rattle.std.proofs.lemmas.List.{length-map}
use Rattle.std.proofs.lemmas.List.Elements.{All-nil, All-cons, All-head, All-tail}
use Rattle.std.proofs.lemmas.Option.{slice_get_past}
use Rattle.ebml_numbers.specs.Number.{int_of}
use Rattle.mkv_io.specs.declared.damage.Damage.{Damage}
use Rattle.mkv_io.specs.declared.damage.Kind.TheVariants.{BlockTooLarge, TimeTooLarge, TooMany}
use Rattle.mkv_schema.specs.declared.ids.TheConstants.{BLOCK, BLOCK_GROUP, CLUSTER, INFO, SIMPLE_BLOCK, TIMESTAMP}
use Rattle.mkv_schema.specs.declared.element.Header.{Header}
use Rattle.mkv_schema.specs.Element.{damage, known}
use Rattle.mkv_schema.specs.Elements.{Run}
use Rattle.mkv_schema.specs.Outline.{segment_bound, segment_run, where_it}
use Rattle.mkv_io.specs.Results.{and_then, unless}
use Rattle.mkv_schema.specs.Value.{body_of, first_of}
use Rattle.mkv_schema.proofs.OutlineLemmas.{and_then-ok}
use Rattle.tree_format.specs.Node.{Node}
use Rattle.file_format.specs.Info.{file_scale, info_tree, scale_at, scale_in, scale_of}
use Rattle.block_format.specs.declared.limits.TheConstants.{MAX_BLOCK_LEN, MAX_REFERENCES}
use Rattle.block_format.specs.Block.{Block, has_too_large_time, nanoseconds, simple_block_with}
use Rattle.block_format.specs.Content.{content_in}
use Rattle.block_format.specs.Elements.{at_place, block_group, block_or, group_among, group_children, group_with, in_time, references_among, simple_block, timestamp_for, timestamp_or, too_many_references, with_limits, without_limits}
use Rattle.block_format.specs.Events.{Event, Found, blocks_of, cluster_run, damages_of, events_among, events_of, events_then, found_among, found_at, found_behind, found_in, found_in_timestamp, is_closed, timestamp_behind}
use Rattle.output_model.specs.Document.{Document, layout}
use Rattle.output_model.specs.Sound.{IsSoundDocument}
use Rattle.remerge_laws.specs.Outline.{KeepsReaderLimits}
use Rattle.output_laws.specs.Places.{block_events}
use Rattle.output_laws.specs.Reading.{blocks_of_document, header_of_segment}
use Rattle.output_laws.proofs.LayoutLemmas.{layout-read}
use Rattle.meta_records.specs.Records.{tree_at}
use Rattle.remerge_laws.specs.Blocks.{IsReadable, IsShortBlock, LimitsLeaveBlocks, OutputBlocksAreRead}
use Rattle.remerge_laws.proofs.RecordLemmas.{info-read}

-- ---- one block

timestamp-limited : (s : ℕ) (ts : Option ℕ) (h : Header) (t : ℕ) → known h.size ≤ MAX_BLOCK_LEN → timestamp_for (without_limits s) ts h ≡ Ok t → timestamp_for (with_limits s) ts h ≡ Ok t
timestamp-limited s ts h t short is =
    ap (λ (b : Bool). and_then (unless (where_it b (damage BlockTooLarge h.id h.offset)) ts) (timestamp_or h)) (le-ltb MAX_BLOCK_LEN (known h.size) short) ∙ is

in_time-limited : (s id : ℕ) (b : Block) → has_too_large_time b ≡ false → in_time (with_limits s) id b ≡ Ok b
in_time-limited s id b is = ap (λ (t : Bool). unless (where_it t (damage TimeTooLarge id b.offset)) b) is

simple-limited : (s : ℕ) (bytes : List ℕ) (ts : Option ℕ) (h : Header) (b : Block) → known h.size ≤ MAX_BLOCK_LEN → IsReadable b → simple_block (without_limits s) bytes ts h ≡ Ok b → simple_block (with_limits s) bytes ts h ≡ Ok b
unfolding simple_block
simple-limited s bytes ts h b short good is =
    let time = and_then-ok (timestamp_for (without_limits s) ts h) (λ t. and_then (at_place h.id h.offset (content_in (body_of bytes h))) (λ c. in_time (without_limits s) h.id (simple_block_with s t h.offset c))) b is in
    let content = and_then-ok (at_place h.id h.offset (content_in (body_of bytes h))) (λ c. in_time (without_limits s) h.id (simple_block_with s time.0 h.offset c)) b time.1.1 in
    let made : Block = simple_block_with s time.0 h.offset content.0 in
    let read : in_time (without_limits s) h.id made ≡ Ok b = content.1.1 in
    let own : made ≡ b = cc in
    ap (λ r. and_then r (λ t. and_then (at_place h.id h.offset (content_in (body_of bytes h))) (λ c. in_time (with_limits s) h.id (simple_block_with s t h.offset c)))) (timestamp-limited s ts h time.0 short time.1.0)
    ∙ ap (λ r. and_then r (λ c. in_time (with_limits s) h.id (simple_block_with s time.0 h.offset c))) content.1.0
    ∙ in_time-limited s h.id made (ap has_too_large_time own ∙ good.times) ∙ ap (λ (x : Block). Ok x) own

among-limited : (s : ℕ) (bytes : List ℕ) (t offset : ℕ) (children : List Header) (h : Header) (b : Block) → IsReadable b → group_among (without_limits s) bytes t offset children h ≡ Ok b → group_among (with_limits s) bytes t offset children h ≡ Ok b
among-limited s bytes t offset children h b good is =
    let content = and_then-ok (at_place BLOCK offset (content_in (body_of bytes h))) (λ c. and_then (unless (too_many_references (without_limits s) children) c) (λ c. in_time (without_limits s) BLOCK (group_with s bytes t offset children c))) b is in
    let made : Block = group_with s bytes t offset children content.0 in
    let read : in_time (without_limits s) BLOCK made ≡ Ok b = content.1.1 in
    let own : made ≡ b = cc in
    let many : length made.references ≡ length b.references = ap (λ (x : Block). length x.references) own in
    let few = good.few in
    let none_over : too_many_references (with_limits s) children ≡ None =
    ap (option_map (λ (c : Header). damage TooMany c.id c.offset)) (slice_get_past (references_among children) MAX_REFERENCES (omega (arith, length-map (references_among children) (λ (c : Header). nanoseconds s (int_of (body_of bytes c)))))) in
    ap (λ r. and_then r (λ c. and_then (unless (too_many_references (with_limits s) children) c) (λ c. in_time (with_limits s) BLOCK (group_with s bytes t offset children c)))) content.1.0
    ∙ ap (λ (o : Option Damage). and_then (unless o content.0) (λ c. in_time (with_limits s) BLOCK (group_with s bytes t offset children c))) none_over
    ∙ in_time-limited s BLOCK made (ap has_too_large_time own ∙ good.times) ∙ ap (λ (x : Block). Ok x) own

group-limited : (s : ℕ) (bytes : List ℕ) (ts : Option ℕ) (h : Header) (b : Block) → known h.size ≤ MAX_BLOCK_LEN → IsReadable b → block_group (without_limits s) bytes ts h ≡ Ok b → block_group (with_limits s) bytes ts h ≡ Ok b
unfolding block_group
group-limited s bytes ts h b short good is =
    let time = and_then-ok (timestamp_for (without_limits s) ts h) (λ t. and_then (group_children bytes h) (λ cs. and_then (block_or h (first_of BLOCK cs)) (group_among (without_limits s) bytes t h.offset cs))) b is in
    let kids = and_then-ok (group_children bytes h) (λ cs. and_then (block_or h (first_of BLOCK cs)) (group_among (without_limits s) bytes time.0 h.offset cs)) b time.1.1 in
    let first = and_then-ok (block_or h (first_of BLOCK kids.0)) (group_among (without_limits s) bytes time.0 h.offset kids.0) b kids.1.1 in
    ap (λ r. and_then r (λ t. and_then (group_children bytes h) (λ cs. and_then (block_or h (first_of BLOCK cs)) (group_among (with_limits s) bytes t h.offset cs)))) (timestamp-limited s ts h time.0 short time.1.0)
    ∙ ap (λ r. and_then r (λ cs. and_then (block_or h (first_of BLOCK cs)) (group_among (with_limits s) bytes time.0 h.offset cs))) kids.1.0
    ∙ ap (λ r. and_then r (group_among (with_limits s) bytes time.0 h.offset kids.0)) first.1.0
    ∙ among-limited s bytes time.0 h.offset kids.0 first.0 b good first.1.1

-- ---- a Cluster

-- A block is found that a reader can read.
abbrev IsGood : Found → Type 0
IsGood (Ok b) = IsReadable b
IsGood (Err d) = ⊥

one-limited : (x y : Found) → ((b : Block) → x ≡ Ok b → IsReadable b → y ≡ Ok b) → All IsGood (x ∷ []) → y ∷ [] ≡ x ∷ []
one-limited (Ok b) y same good = ap (λ (r : Found). r ∷ []) (same b refl (All-head IsGood (Ok b) [] good))
one-limited (Err d) y same good = absurd (All-head IsGood (Err d) [] good)

at-limited : (s : ℕ) (bytes : List ℕ) (ts : Option ℕ) (h : Header) → IsShortBlock h → All IsGood (found_at (without_limits s) bytes ts h) → found_at (with_limits s) bytes ts h ≡ found_at (without_limits s) bytes ts h
at-limited s bytes ts h short good = split (h.id == TIMESTAMP) (h.id == SIMPLE_BLOCK) (h.id == BLOCK_GROUP) short good
  where
    split : (a b c : Bool) → ((b || c) ≡ true → known h.size ≤ MAX_BLOCK_LEN)
        → All IsGood (if a then found_in_timestamp h else if b then simple_block (without_limits s) bytes ts h ∷ [] else if c then block_group (without_limits s) bytes ts h ∷ [] else [])
        → (if a then found_in_timestamp h else if b then simple_block (with_limits s) bytes ts h ∷ [] else if c then block_group (with_limits s) bytes ts h ∷ [] else [])
        ≡ (if a then found_in_timestamp h else if b then simple_block (without_limits s) bytes ts h ∷ [] else if c then block_group (without_limits s) bytes ts h ∷ [] else [])
    split true b c short good = refl
    split false true c short good = one-limited (simple_block (without_limits s) bytes ts h) (simple_block (with_limits s) bytes ts h) (λ b found one. simple-limited s bytes ts h b (short refl) one found) good
    split false false true short good = one-limited (block_group (without_limits s) bytes ts h) (block_group (with_limits s) bytes ts h) (λ b found one. group-limited s bytes ts h b (short refl) one found) good
    split false false false short good = refl

all-parts : (xs ys : List Found) → All IsGood (xs ++ ys) → All IsGood xs × All IsGood ys
all-parts [] ys good = (All-nil IsGood, good)
all-parts (x ∷ xs) ys good =
    let rest = all-parts xs ys (All-tail IsGood x (xs ++ ys) good) in
    (All-cons IsGood x xs (All-head IsGood x (xs ++ ys) good) rest.0, rest.1)

among-all_limited : (s : ℕ) (bytes : List ℕ) (ts : Option ℕ) (hs : List Header) → All IsShortBlock hs → All IsGood (found_among (without_limits s) bytes ts hs) → found_among (with_limits s) bytes ts hs ≡ found_among (without_limits s) bytes ts hs
among-all_limited s bytes ts [] short good = refl
among-all_limited s bytes ts (h ∷ hs) short good =
    let parts = all-parts (found_at (without_limits s) bytes ts h) (found_among (without_limits s) bytes (timestamp_behind bytes ts h) hs) good in
    ap₂ (λ (x y : List Found). x ++ y) (at-limited s bytes ts h (All-head IsShortBlock h hs short) parts.0)
    (among-all_limited s bytes (timestamp_behind bytes ts h) hs (All-tail IsShortBlock h hs short) parts.1)

cluster-limited : (s : ℕ) (bytes : List ℕ) (e : ℕ) (h : Header) → All IsShortBlock (cluster_run bytes e h).list → All IsGood (found_in (without_limits s) bytes e h) → found_in (with_limits s) bytes e h ≡ found_in (without_limits s) bytes e h
cluster-limited s bytes e h short good =
    let run : Run = cluster_run bytes e h in
    let parts = all-parts (found_among (without_limits s) bytes None run.list) (found_behind run.damage) good in
    ap (λ (fs : List Found). fs ++ found_behind run.damage) (among-all_limited s bytes None run.list short parts.0)

-- ---- the file

then-good : (closed : Bool) (fs : List Found) (rest : List Event) → damages_of (events_then closed fs rest) ≡ [] → All IsReadable (blocks_of (events_then closed fs rest))
    → All IsGood fs × (damages_of rest ≡ []) × All IsReadable (blocks_of rest)
then-good closed [] rest none good = (All-nil IsGood, none, good)
then-good closed (Ok b ∷ fs) rest none good =
    let more : List Block = blocks_of (events_then closed fs rest) in
    let parts = then-good closed fs rest none (All-tail IsReadable b more good) in
    (All-cons IsGood (Ok b) fs (All-head IsReadable b more good) parts.0, parts.1, parts.2)
then-good true (Err d ∷ fs) rest none good = absurd (cc)
then-good false (Err d ∷ fs) rest none good = absurd (cc)

-- The blocks in a Cluster are short.
abbrev HasShort : List ℕ → ℕ → Header → Type 0
HasShort bytes e c = (c.id == CLUSTER) ≡ true → All IsShortBlock (cluster_run bytes e c).list

events-limited : (s : ℕ) (bytes : List ℕ) (e : ℕ) (hs : List Header) (wrong : Option Damage) → damages_of (events_among (without_limits s) bytes e hs wrong) ≡ [] → All (HasShort bytes e) hs → All IsReadable (blocks_of (events_among (without_limits s) bytes e hs wrong))
    → events_among (with_limits s) bytes e hs wrong ≡ events_among (without_limits s) bytes e hs wrong
events-limited s bytes e [] None none short good = refl
events-limited s bytes e [] (Some d) none short good = refl
events-limited s bytes e (h ∷ hs) wrong none short good =
    elim (cases_Bool (h.id == CLUSTER)) [
      | inl is ↦
          let fs : List Found = found_in (without_limits s) bytes e h in
          let parts = then-good (is_closed (length bytes) h) fs (events_among (without_limits s) bytes e hs wrong) (rw is at none) (rw is at good) in
          rw is (ap₂ (events_then (is_closed (length bytes) h)) (cluster-limited s bytes e h (All-head (HasShort bytes e) h hs short is) parts.0)
          (events-limited s bytes e hs wrong parts.1 (All-tail (HasShort bytes e) h hs short) parts.2))
      | inr is ↦ rw is (events-limited s bytes e hs wrong (rw is at none) (All-tail (HasShort bytes e) h hs short) (rw is at good))
    ]

pub limits-leave : LimitsLeaveBlocks
unfolding events_of
limits-leave scale bytes segment none short good = events-limited scale bytes (segment_bound bytes segment) (segment_run bytes segment).list (segment_run bytes segment).damage none short good

-- ---- an output

none-damaged : (bs : List Block) → damages_of (block_events bs) ≡ []
none-damaged [] = refl
none-damaged (b ∷ bs) = none-damaged bs

the-blocks : (bs : List Block) → blocks_of (block_events bs) ≡ bs
the-blocks [] = refl
the-blocks (b ∷ bs) = ap (λ (l : List Block). b ∷ l) (the-blocks bs)

-- The scale is the scale of the Info that is read.
scale-read : (bytes : List ℕ) (o : Option Header) (m : Node) → tree_at bytes o ≡ Ok (Some m) → scale_at (info_tree bytes) o ≡ scale_of m
scale-read bytes None m is = absurd (cc)
scale-read bytes (Some h) m is =
    let read = and_then-ok (info_tree bytes h) (λ (t : Node). Ok (Some t)) (Some m) is in
    let some : Some read.0 ≡ Some m = cc in
    let same : read.0 ≡ m = cc in
    ap scale_in read.1.0 ∙ ap scale_of same

pub own-scale : (d : Document) → IsSoundDocument d → d.front.lasting ≡ None → KeepsReaderLimits d.front.info → file_scale (layout d) (header_of_segment d) ≡ scale_of d.front.info
unfolding file_scale
own-scale d is none keeps =
    let info = info-read d is none keeps in
    scale-read (layout d) (first_of INFO (segment_run (layout d) (header_of_segment d)).list) info.0 info.1 ∙ info.2

pub blocks-read : OutputBlocksAreRead
blocks-read d is none keeps short good =
    let bytes : List ℕ = layout d in
    let segment : Header = header_of_segment d in
    let scale : ℕ = scale_of d.front.info in
    let read = layout-read d is in
    let with_scale : file_scale bytes segment ≡ scale = own-scale d is none keeps in
    let events : events_of (without_limits scale) bytes segment ≡ block_events (blocks_of_document d) = ap (λ (n : ℕ). events_of (without_limits n) bytes segment) (sym read.scale) ∙ read.events in
    ap (λ (n : ℕ). events_of (with_limits n) bytes segment) with_scale
    ∙ limits-leave scale bytes segment (ap damages_of events ∙ none-damaged (blocks_of_document d)) short
    (subst (All IsReadable) (sym (ap blocks_of events ∙ the-blocks (blocks_of_document d))) good)
    ∙ ap (λ (n : ℕ). events_of (without_limits n) bytes segment) (sym read.scale)
