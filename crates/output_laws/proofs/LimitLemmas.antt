-- A reader's limits only add damage.
use Rattle.std.proofs.Common.{◌≡◌, ℕ, ◌==◌, Bool, true, false, if◌then◌else◌, List, [], ◌∷◌, ◌++◌, length, Option, Some, None, Ok, Err, refl, ap, ap₂, ◌∙◌}
use Rattle.mkv_schema.specs.declared.ids.TheConstants.{CLUSTER, TIMESTAMP, SIMPLE_BLOCK, BLOCK_GROUP, BLOCK}
use Rattle.mkv_io.specs.declared.damage.Damage.{Damage}
use Rattle.mkv_schema.specs.declared.element.Header.{Header}
use Rattle.mkv_schema.specs.Elements.{Run}
use Rattle.mkv_schema.specs.Value.{body_of, first_of}
use Rattle.mkv_schema.specs.Outline.{segment_bound, segment_run}
use Rattle.mkv_io.specs.Results.{and_then, unless}
use Rattle.block_format.specs.Block.{Block, simple_block_with}
use Rattle.block_format.specs.Content.{content_in}
use Rattle.block_format.specs.Elements.{Rules, with_limits, without_limits, too_long, timestamp_or, timestamp_for, at_place, in_time, simple_block, group_children, block_or, too_many_references, group_with, group_among, block_group}
use Rattle.block_format.specs.Events.{Found, Event, found_in_timestamp, found_at, timestamp_behind, found_among, found_behind, cluster_run, found_in, first_wrong, is_closed, events_then, events_among, events_of, damages_of}
use Rattle.mkv_schema.proofs.OutlineLemmas.{and_then-ok, unless-ok}

-- ---- one block

timestamp-unlimited : (s : ℕ) (ts : Option ℕ) (h : Header) (t : ℕ) → timestamp_for (with_limits s) ts h ≡ Ok t → timestamp_for (without_limits s) ts h ≡ Ok t
timestamp-unlimited s ts h t is =
    let parts = and_then-ok (unless (too_long (with_limits s) h) ts) (timestamp_or h) t is in
    ap (timestamp_or h) (unless-ok (too_long (with_limits s) h) ts parts.0 parts.1.0).1 ∙ parts.1.1

in_time-unlimited : (s id : ℕ) (b c : Block) → in_time (with_limits s) id b ≡ Ok c → in_time (without_limits s) id b ≡ Ok c
in_time-unlimited s id b c is = ap (λ (x : Block). Ok x) (unless-ok _ b c is).1

simple-unlimited : (s : ℕ) (bytes : List ℕ) (ts : Option ℕ) (h : Header) (b : Block) → simple_block (with_limits s) bytes ts h ≡ Ok b → simple_block (without_limits s) bytes ts h ≡ Ok b
unfolding simple_block
simple-unlimited s bytes ts h b is =
    let time = and_then-ok (timestamp_for (with_limits s) ts h) (λ t. and_then (at_place h.id h.offset (content_in (body_of bytes h))) (λ c. in_time (with_limits s) h.id (simple_block_with s t h.offset c))) b is in
    let content = and_then-ok (at_place h.id h.offset (content_in (body_of bytes h))) (λ c. in_time (with_limits s) h.id (simple_block_with s time.0 h.offset c)) b time.1.1 in
    ap (λ r. and_then r (λ t. and_then (at_place h.id h.offset (content_in (body_of bytes h))) (λ c. in_time (without_limits s) h.id (simple_block_with s t h.offset c)))) (timestamp-unlimited s ts h time.0 time.1.0)
    ∙ ap (λ r. and_then r (λ c. in_time (without_limits s) h.id (simple_block_with s time.0 h.offset c))) content.1.0
    ∙ in_time-unlimited s h.id (simple_block_with s time.0 h.offset content.0) b content.1.1

among-unlimited : (s : ℕ) (bytes : List ℕ) (t offset : ℕ) (children : List Header) (h : Header) (b : Block) → group_among (with_limits s) bytes t offset children h ≡ Ok b → group_among (without_limits s) bytes t offset children h ≡ Ok b
among-unlimited s bytes t offset children h b is =
    let content = and_then-ok (at_place BLOCK offset (content_in (body_of bytes h))) (λ c. and_then (unless (too_many_references (with_limits s) children) c) (λ c. in_time (with_limits s) BLOCK (group_with s bytes t offset children c))) b is in
    let few = and_then-ok (unless (too_many_references (with_limits s) children) content.0) (λ c. in_time (with_limits s) BLOCK (group_with s bytes t offset children c)) b content.1.1 in
    let same : content.0 ≡ few.0 = (unless-ok (too_many_references (with_limits s) children) content.0 few.0 few.1.0).1 in
    ap (λ r. and_then r (λ c. and_then (unless (too_many_references (without_limits s) children) c) (λ c. in_time (without_limits s) BLOCK (group_with s bytes t offset children c)))) content.1.0
    ∙ ap (λ c. in_time (without_limits s) BLOCK (group_with s bytes t offset children c)) same
    ∙ in_time-unlimited s BLOCK (group_with s bytes t offset children few.0) b few.1.1

group-unlimited : (s : ℕ) (bytes : List ℕ) (ts : Option ℕ) (h : Header) (b : Block) → block_group (with_limits s) bytes ts h ≡ Ok b → block_group (without_limits s) bytes ts h ≡ Ok b
unfolding block_group
group-unlimited s bytes ts h b is =
    let time = and_then-ok (timestamp_for (with_limits s) ts h) (λ t. and_then (group_children bytes h) (λ cs. and_then (block_or h (first_of BLOCK cs)) (group_among (with_limits s) bytes t h.offset cs))) b is in
    let kids = and_then-ok (group_children bytes h) (λ cs. and_then (block_or h (first_of BLOCK cs)) (group_among (with_limits s) bytes time.0 h.offset cs)) b time.1.1 in
    let first = and_then-ok (block_or h (first_of BLOCK kids.0)) (group_among (with_limits s) bytes time.0 h.offset kids.0) b kids.1.1 in
    ap (λ r. and_then r (λ t. and_then (group_children bytes h) (λ cs. and_then (block_or h (first_of BLOCK cs)) (group_among (without_limits s) bytes t h.offset cs)))) (timestamp-unlimited s ts h time.0 time.1.0)
    ∙ ap (λ r. and_then r (λ cs. and_then (block_or h (first_of BLOCK cs)) (group_among (without_limits s) bytes time.0 h.offset cs))) kids.1.0
    ∙ ap (λ r. and_then r (group_among (without_limits s) bytes time.0 h.offset kids.0)) first.1.0
    ∙ among-unlimited s bytes time.0 h.offset kids.0 first.0 b first.1.1

-- ---- a Cluster

one-unlimited : (x y : Found) → ((b : Block) → x ≡ Ok b → y ≡ Ok b) → first_wrong (x ∷ []) ≡ None → y ∷ [] ≡ x ∷ []
one-unlimited (Ok b) y same none = ap (λ r. r ∷ []) (same b refl)
one-unlimited (Err d) y same none = absurd (cc)

at-unlimited : (s : ℕ) (bytes : List ℕ) (ts : Option ℕ) (h : Header) → first_wrong (found_at (with_limits s) bytes ts h) ≡ None → found_at (without_limits s) bytes ts h ≡ found_at (with_limits s) bytes ts h
at-unlimited s bytes ts h none = split (h.id == TIMESTAMP) (h.id == SIMPLE_BLOCK) (h.id == BLOCK_GROUP) none
  where
    at : Bool → Bool → Bool → Rules → List Found
    at a b c r = if a then found_in_timestamp h else if b then simple_block r bytes ts h ∷ [] else if c then block_group r bytes ts h ∷ [] else []

    split : (a b c : Bool)
        → first_wrong (if a then found_in_timestamp h else if b then simple_block (with_limits s) bytes ts h ∷ [] else if c then block_group (with_limits s) bytes ts h ∷ [] else []) ≡ None
        → (if a then found_in_timestamp h else if b then simple_block (without_limits s) bytes ts h ∷ [] else if c then block_group (without_limits s) bytes ts h ∷ [] else [])
        ≡ (if a then found_in_timestamp h else if b then simple_block (with_limits s) bytes ts h ∷ [] else if c then block_group (with_limits s) bytes ts h ∷ [] else [])
    split true b c is = refl
    split false true c is = one-unlimited (simple_block (with_limits s) bytes ts h) (simple_block (without_limits s) bytes ts h) (λ b found. simple-unlimited s bytes ts h b found) is
    split false false true is = one-unlimited (block_group (with_limits s) bytes ts h) (block_group (without_limits s) bytes ts h) (λ b found. group-unlimited s bytes ts h b found) is
    split false false false is = refl

first_wrong-append : (xs ys : List Found) → first_wrong (xs ++ ys) ≡ None → (first_wrong xs ≡ None) × (first_wrong ys ≡ None)
first_wrong-append [] ys none = (refl, none)
first_wrong-append (Ok b ∷ xs) ys none = first_wrong-append xs ys none
first_wrong-append (Err d ∷ xs) ys none = absurd (cc)

among-all_unlimited : (s : ℕ) (bytes : List ℕ) (ts : Option ℕ) (hs : List Header) → first_wrong (found_among (with_limits s) bytes ts hs) ≡ None → found_among (without_limits s) bytes ts hs ≡ found_among (with_limits s) bytes ts hs
among-all_unlimited s bytes ts [] none = refl
among-all_unlimited s bytes ts (h ∷ hs) none =
    let parts = first_wrong-append (found_at (with_limits s) bytes ts h) (found_among (with_limits s) bytes (timestamp_behind bytes ts h) hs) none in
    ap₂ (λ x y. x ++ y) (at-unlimited s bytes ts h parts.0) (among-all_unlimited s bytes (timestamp_behind bytes ts h) hs parts.1)

cluster-unlimited : (s : ℕ) (bytes : List ℕ) (e : ℕ) (h : Header) → first_wrong (found_in (with_limits s) bytes e h) ≡ None → found_in (without_limits s) bytes e h ≡ found_in (with_limits s) bytes e h
cluster-unlimited s bytes e h none =
    let run : Run = cluster_run bytes e h in
    let parts = first_wrong-append (found_among (with_limits s) bytes None run.list) (found_behind run.damage) none in
    ap (λ fs. fs ++ found_behind run.damage) (among-all_unlimited s bytes None run.list parts.0)

-- ---- the file

then-unlimited : (closed : Bool) (fs : List Found) (rest : List Event) → damages_of (events_then closed fs rest) ≡ [] → (first_wrong fs ≡ None) × (damages_of rest ≡ [])
then-unlimited closed [] rest none = (refl, none)
then-unlimited closed (Ok b ∷ fs) rest none = then-unlimited closed fs rest none
then-unlimited true (Err d ∷ fs) rest none = absurd (cc)
then-unlimited false (Err d ∷ fs) rest none = absurd (cc)

events-unlimited : (s : ℕ) (bytes : List ℕ) (e : ℕ) (hs : List Header) (wrong : Option Damage) → damages_of (events_among (with_limits s) bytes e hs wrong) ≡ []
    → events_among (without_limits s) bytes e hs wrong ≡ events_among (with_limits s) bytes e hs wrong
events-unlimited s bytes e [] None none = refl
events-unlimited s bytes e [] (Some d) none = refl
events-unlimited s bytes e (h ∷ hs) wrong none = split (events-unlimited s bytes e hs wrong) (h.id == CLUSTER) none
  where
    split : (damages_of (events_among (with_limits s) bytes e hs wrong) ≡ [] → events_among (without_limits s) bytes e hs wrong ≡ events_among (with_limits s) bytes e hs wrong) → (t : Bool)
        → damages_of (if t then events_then (is_closed (length bytes) h) (found_in (with_limits s) bytes e h) (events_among (with_limits s) bytes e hs wrong) else events_among (with_limits s) bytes e hs wrong) ≡ []
        → (if t then events_then (is_closed (length bytes) h) (found_in (without_limits s) bytes e h) (events_among (without_limits s) bytes e hs wrong) else events_among (without_limits s) bytes e hs wrong)
        ≡ (if t then events_then (is_closed (length bytes) h) (found_in (with_limits s) bytes e h) (events_among (with_limits s) bytes e hs wrong) else events_among (with_limits s) bytes e hs wrong)
    split rest true is =
        let parts = then-unlimited (is_closed (length bytes) h) (found_in (with_limits s) bytes e h) (events_among (with_limits s) bytes e hs wrong) is in
        ap₂ (events_then (is_closed (length bytes) h)) (cluster-unlimited s bytes e h parts.0) (rest parts.1)
    split rest false is = rest is

-- If reading with limits reports no damage, limits change nothing.
pub limits-change_nothing : (scale : ℕ) (bytes : List ℕ) (segment : Header) → damages_of (events_of (with_limits scale) bytes segment) ≡ [] → events_of (without_limits scale) bytes segment ≡ events_of (with_limits scale) bytes segment
unfolding events_of
limits-change_nothing scale bytes segment none = events-unlimited scale bytes (segment_bound bytes segment) (segment_run bytes segment).list (segment_run bytes segment).damage none
