-- The offsets of a file's blocks: RFC 9559, section 5.1.3 (Cluster Element).
use Rattle.std.proofs.Common.{◌≡◌, ◌==◌, ◌≤◌, ◌<◌, ℕ, zero, suc, ◌+◌, ◌-◌, nat_lt, Bool, true, false, if◌then◌else◌, List, [], ◌∷◌, ◌++◌, length, Option, Some, None, Result, Ok, Err, inl, inr, refl, sym, ap, subst, append_assoc, arith}
use Rattle.std.proofs.lemmas.Bool.{cases_lt}
use Rattle.ebml_numbers.specs.declared.number.Size.{Size}
use Rattle.mkv_schema.specs.declared.ids.TheConstants.{CLUSTER, TIMESTAMP, SIMPLE_BLOCK, BLOCK_GROUP, BLOCK}
use Rattle.mkv_io.specs.declared.damage.Damage.{Damage}
use Rattle.mkv_io.specs.declared.damage.Kind.TheVariants.{BadValue}
use Rattle.mkv_schema.specs.declared.element.Header.{Header}
use Rattle.mkv_schema.specs.Element.{in_master, in_segment, element_at, end_in, is_unknown, known, damage}
use Rattle.mkv_schema.specs.Elements.{Run, elements, ends_at, breaks_at, behind, step, id_of, never, ends_cluster, ends_segment, open_cluster, end_of_run, behind_in_segment, children_in, level_1}
use Rattle.mkv_schema.specs.Outline.{segment_bound, segment_run}
use Rattle.mkv_io.specs.Results.{and_then, unless}
use Rattle.mkv_schema.specs.Value.{body_of, first_of}
use Rattle.mkv_schema.proofs.ElementLemmas.{element_at-placed}
use Rattle.mkv_schema.proofs.ElementsLemmas.{Advances-known, Advances-segment, elements-end, elements-more}
use Rattle.mkv_schema.proofs.OutlineLemmas.{and_then-ok, unless-ok}
use Rattle.block_format.specs.declared.limits.TheConstants.{MAX_TIMESTAMP_LEN}
use Rattle.block_format.specs.Block.{Block, simple_block_with}
use Rattle.block_format.specs.Content.{content_in}
use Rattle.block_format.specs.Elements.{Rules, timestamp_for, at_place, in_time, simple_block, group_children, block_or, too_many_references, group_with, group_among, block_group}
use Rattle.block_format.specs.Events.{Found, Event, stopped, found_in_timestamp, found_at, timestamp_behind, found_among, found_behind, found_in_run, found_in, is_closed, events_then, events_in_run, events_of, blocks_of}
use Rattle.reindex.specs.Reading.{BlocksAscend}

-- ---- lists that ascend up to an offset

-- The offsets of the Elements ascend from `p` on and are before `q`.
abbrev pub StandBetween : ℕ → ℕ → List Header → Type 0
StandBetween p q [] = p ≤ q
StandBetween p q (h ∷ hs) = (p ≤ h.offset) × StandBetween (h.offset + 1) q hs

pub StandBetween-wider : (p q r s : ℕ) (list : List Header) → p ≤ q → r ≤ s → StandBetween q r list → StandBetween p s list
StandBetween-wider p q r s [] before behind stands = omega arith
StandBetween-wider p q r s (h ∷ hs) before behind stands = (omega (arith, stands.0), StandBetween-wider (h.offset + 1) (h.offset + 1) r s hs (omega arith) behind stands.1)

-- The offsets of the found blocks ascend between `p` and `q`, up to a damage.
abbrev pub FoundBetween : ℕ → ℕ → List Found → Type 0
FoundBetween p q [] = p ≤ q
FoundBetween p q (Ok b ∷ found) = (p ≤ b.offset) × FoundBetween (b.offset + 1) q found
FoundBetween p q (Err d ∷ found) = p ≤ q

pub FoundBetween-wider : (p q r s : ℕ) (list : List Found) → p ≤ q → r ≤ s → FoundBetween q r list → FoundBetween p s list
FoundBetween-wider p q r s [] before behind stands = omega arith
FoundBetween-wider p q r s (Ok b ∷ list) before behind stands = (omega (arith, stands.0), FoundBetween-wider (b.offset + 1) (b.offset + 1) r s list (omega arith) behind stands.1)
FoundBetween-wider p q r s (Err d ∷ list) before behind stands = omega arith

-- ---- the children of a master are in sequence, before its end

record StandInRun (p e : ℕ) (run : Run) : Type 0 where
  between : StandBetween p run.end run.list
  within : p ≤ e → run.end ≤ e

none-stand : (p e : ℕ) → StandInRun p e (ends_at p)
none-stand p e = record { between = omega arith; within = λ inside. inside }

breaks-stand : (p e : ℕ) (d : Damage) → StandInRun p e (breaks_at p d)
breaks-stand p e d = record { between = omega arith; within = λ inside. inside }

past-stand : (stops : ℕ → Bool) (bytes : List ℕ) (p e : ℕ) → e ≤ p → StandInRun p e (elements in_master stops (λ h. Ok (end_in e h)) bytes p e)
past-stand stops bytes p e past = rw (elements-end in_master stops (λ h. Ok (end_in e h)) bytes p e past) (none-stand p e)

stand-within : (n : ℕ) (stops : ℕ → Bool) (bytes : List ℕ) (p e : ℕ) → e - p ≤ n → StandInRun p e (elements in_master stops (λ h. Ok (end_in e h)) bytes p e)
stand-within zero stops bytes p e few = past-stand stops bytes p e (omega arith)
stand-within (suc n) stops bytes p e few =
    elim (cases_lt p e) [
      | inl inside ↦ rw (elements-more in_master stops (λ h. Ok (end_in e h)) bytes p e (Advances-known in_master bytes e) inside) (stopped inside (λ k later. stand-within n stops bytes k e (omega arith)) (stops (id_of (element_at in_master bytes p e))))
      | inr past ↦ past-stand stops bytes p e past
    ]
  where
    goes_on : p < e → ((k : ℕ) → p < k → StandInRun k e (elements in_master stops (λ h. Ok (end_in e h)) bytes k e)) → (found : Result Header Damage) → element_at in_master bytes p e ≡ found → StandInRun p e (step p (λ h. Ok (end_in e h)) found (λ q. elements in_master stops (λ h. Ok (end_in e h)) bytes q e))
    goes_on inside further (Err d) is = breaks-stand p e d
    goes_on inside further (Ok h) is =
        let placed = element_at-placed in_master bytes p e h (omega arith) is in
        let at = placed.offset in
        let later = (Advances-known in_master bytes e).on p h (end_in e h) inside is refl in
        let most : end_in e h ≤ e = grind arith in
        let rest = further (end_in e h) later in
        record {
          between = (omega arith, StandBetween-wider (h.offset + 1) (end_in e h) _ _ _ (omega arith) (omega arith) rest.between);
          within = λ _. rest.within most;
        }

    stopped : p < e → ((k : ℕ) → p < k → StandInRun k e (elements in_master stops (λ h. Ok (end_in e h)) bytes k e)) → (stop : Bool) → StandInRun p e (if stop then ends_at p else step p (λ h. Ok (end_in e h)) (element_at in_master bytes p e) (λ q. elements in_master stops (λ h. Ok (end_in e h)) bytes q e))
    stopped inside further true = none-stand p e
    stopped inside further false = goes_on inside further (element_at in_master bytes p e) refl

run-stands : (stops : ℕ → Bool) (bytes : List ℕ) (p e : ℕ) → StandInRun p e (elements in_master stops (λ h. Ok (end_in e h)) bytes p e)
run-stands stops bytes p e = stand-within (e - p) stops bytes p e (omega arith)

-- ---- a block has the offset of its Element

in_time-same : (r : Rules) (id : ℕ) (b c : Block) → in_time r id b ≡ Ok c → b ≡ c
in_time-same r id b c is = (unless-ok _ b c is).1

simple-offset : (r : Rules) (bytes : List ℕ) (ts : Option ℕ) (h : Header) (b : Block) → simple_block r bytes ts h ≡ Ok b → b.offset ≡ h.offset
unfolding simple_block
simple-offset r bytes ts h b is =
    let time = and_then-ok (timestamp_for r ts h) (λ t. and_then (at_place h.id h.offset (content_in (body_of bytes h))) (λ c. in_time r h.id (simple_block_with r.scale t h.offset c))) b is in
    let content = and_then-ok (at_place h.id h.offset (content_in (body_of bytes h))) (λ c. in_time r h.id (simple_block_with r.scale time.0 h.offset c)) b time.1.1 in
    sym (ap (λ (x : Block). x.offset) (in_time-same r h.id (simple_block_with r.scale time.0 h.offset content.0) b content.1.1))

among-offset : (r : Rules) (bytes : List ℕ) (t offset : ℕ) (kids : List Header) (h : Header) (b : Block) → group_among r bytes t offset kids h ≡ Ok b → b.offset ≡ offset
among-offset r bytes t offset kids h b is =
    let content = and_then-ok (at_place BLOCK offset (content_in (body_of bytes h))) (λ c. and_then (unless (too_many_references r kids) c) (λ c. in_time r BLOCK (group_with r.scale bytes t offset kids c))) b is in
    let few = and_then-ok (unless (too_many_references r kids) content.0) (λ c. in_time r BLOCK (group_with r.scale bytes t offset kids c)) b content.1.1 in
    sym (ap (λ (x : Block). x.offset) (in_time-same r BLOCK (group_with r.scale bytes t offset kids few.0) b few.1.1))

group-offset : (r : Rules) (bytes : List ℕ) (ts : Option ℕ) (h : Header) (b : Block) → block_group r bytes ts h ≡ Ok b → b.offset ≡ h.offset
unfolding block_group
group-offset r bytes ts h b is =
    let time = and_then-ok (timestamp_for r ts h) (λ t. and_then (group_children bytes h) (λ cs. and_then (block_or h (first_of BLOCK cs)) (group_among r bytes t h.offset cs))) b is in
    let kids = and_then-ok (group_children bytes h) (λ cs. and_then (block_or h (first_of BLOCK cs)) (group_among r bytes time.0 h.offset cs)) b time.1.1 in
    let first = and_then-ok (block_or h (first_of BLOCK kids.0)) (group_among r bytes time.0 h.offset kids.0) b kids.1.1 in
    among-offset r bytes time.0 h.offset kids.0 first.0 b first.1.1

-- ---- the blocks of children have the children's offsets

pub between-ends : (p q : ℕ) (found : List Found) → FoundBetween p q found → p ≤ q
between-ends p q [] stands = stands
between-ends p q (Err d ∷ found) stands = stands
between-ends p q (Ok b ∷ found) stands = let rest = between-ends (b.offset + 1) q found stands.1 in omega (arith, stands.0)

one-between : (p q : ℕ) (h : Header) (found : Found) (rest : List Found) → p ≤ h.offset → ((b : Block) → found ≡ Ok b → b.offset ≡ h.offset) → FoundBetween (h.offset + 1) q rest → FoundBetween p q (found ∷ rest)
one-between p q h (Ok b) rest from same stands =
    let is = same b refl in
    (omega arith, FoundBetween-wider (b.offset + 1) (h.offset + 1) q q rest (omega arith) (omega arith) stands)
one-between p q h (Err d) rest from same stands = let ends = between-ends (h.offset + 1) q rest stands in omega arith

at-between : (r : Rules) (bytes : List ℕ) (ts : Option ℕ) (p q : ℕ) (h : Header) (rest : List Found) → p ≤ h.offset → FoundBetween (h.offset + 1) q rest → FoundBetween p q (found_at r bytes ts h ++ rest)
at-between r bytes ts p q h rest from stands = split (h.id == TIMESTAMP) (h.id == SIMPLE_BLOCK) (h.id == BLOCK_GROUP)
  where
    none : FoundBetween p q rest
    none = FoundBetween-wider p (h.offset + 1) q q rest (omega arith) (omega arith) stands

    timestamp : (t : Bool) → FoundBetween p q ((if t then Err (damage BadValue h.id h.offset) ∷ [] else []) ++ rest)
    timestamp true = let ends = between-ends (h.offset + 1) q rest stands in omega arith
    timestamp false = none

    split : (a b c : Bool) → FoundBetween p q ((if a then found_in_timestamp h else if b then simple_block r bytes ts h ∷ [] else if c then block_group r bytes ts h ∷ [] else []) ++ rest)
    split true b c = timestamp (nat_lt MAX_TIMESTAMP_LEN (known h.size))
    split false true c = one-between p q h (simple_block r bytes ts h) rest from (λ b is. simple-offset r bytes ts h b is) stands
    split false false true = one-between p q h (block_group r bytes ts h) rest from (λ b is. group-offset r bytes ts h b is) stands
    split false false false = none

among-between : (r : Rules) (bytes : List ℕ) (ts : Option ℕ) (p q : ℕ) (hs : List Header) (rest : List Found) → StandBetween p q hs → FoundBetween q q rest → FoundBetween p q (found_among r bytes ts hs ++ rest)
among-between r bytes ts p q [] rest stands ends = FoundBetween-wider p q q q rest stands (omega arith) ends
among-between r bytes ts p q (h ∷ hs) rest stands ends =
    rw (append_assoc (found_at r bytes ts h) (found_among r bytes (timestamp_behind bytes ts h) hs) rest)
    (at-between r bytes ts p q h (found_among r bytes (timestamp_behind bytes ts h) hs ++ rest) stands.0
    (among-between r bytes (timestamp_behind bytes ts h) (h.offset + 1) q hs rest stands.1 ends))

behind-between : (q : ℕ) (wrong : Option Damage) → FoundBetween q q (found_behind wrong)
behind-between q None = omega arith
behind-between q (Some d) = omega arith

-- The blocks of a Cluster are in its body, before the next Element.
pub found-between : (r : Rules) (bytes : List ℕ) (e : ℕ) (h : Header) → h.body ≤ e → (q : ℕ) → behind_in_segment bytes e h ≡ Ok q → FoundBetween h.body q (found_in r bytes e h)
found-between r bytes e h inside q goes = split (is_unknown h.size) goes
  where
    of_run : (run : Run) (found : Option Damage) → end_of_run run found ≡ Ok q → run.end ≡ q
    of_run run None goes = cc
    of_run run (Some d) goes = absurd (cc)

    of : (run : Run) → StandBetween h.body run.end run.list → run.end ≤ q → FoundBetween h.body q (found_in_run r bytes None run)
    of run stands before =
        FoundBetween-wider h.body h.body run.end q (found_in_run r bytes None run) (omega arith) before
        (among-between r bytes None h.body run.end run.list (found_behind run.damage) stands (behind-between run.end run.damage))

    split : (unknown : Bool) → (if unknown then end_of_run (open_cluster bytes h.body e) (open_cluster bytes h.body e).damage else Ok (end_in e h)) ≡ Ok q
        → FoundBetween h.body q (found_in_run r bytes None (if unknown then open_cluster bytes h.body e else children_in in_master bytes h.body (end_in e h)))
    split true goes =
        let is = of_run (open_cluster bytes h.body e) (open_cluster bytes h.body e).damage goes in
        of (open_cluster bytes h.body e) (run-stands ends_cluster bytes h.body e).between (omega arith)
    split false goes =
        let is : end_in e h ≡ q = cc in
        let body : h.body ≤ end_in e h = grind arith in
        let stands = run-stands never bytes h.body (end_in e h) in
        let within = stands.within body in
        of (children_in in_master bytes h.body (end_in e h)) stands.between (omega arith)

-- Each block or damage that is found in an Element is at some place in it.
pub found-somewhere : (r : Rules) (bytes : List ℕ) (e : ℕ) (h : Header) → (q : ℕ) × FoundBetween h.body q (found_in r bytes e h)
found-somewhere r bytes e h = split (is_unknown h.size)
  where
    of : (run : Run) → StandBetween h.body run.end run.list → (q : ℕ) × FoundBetween h.body q (found_in_run r bytes None run)
    of run stands = (run.end, among-between r bytes None h.body run.end run.list (found_behind run.damage) stands (behind-between run.end run.damage))

    split : (unknown : Bool) → (q : ℕ) × FoundBetween h.body q (found_in_run r bytes None (if unknown then open_cluster bytes h.body e else children_in in_master bytes h.body (end_in e h)))
    split true = of (open_cluster bytes h.body e) (run-stands ends_cluster bytes h.body e).between
    split false = of (children_in in_master bytes h.body (end_in e h)) (run-stands never bytes h.body (end_in e h)).between

-- ---- the blocks of a file ascend

pub BlocksAscend-later : (p q : ℕ) (blocks : List Block) → p ≤ q → BlocksAscend q blocks → BlocksAscend p blocks
BlocksAscend-later p q [] later ascends = tt
BlocksAscend-later p q (b ∷ bs) later ascends = (omega (arith, ascends.0), ascends.1)

then-ascend : (closed : Bool) (p q : ℕ) (found : List Found) (rest : List Event) → FoundBetween p q found → BlocksAscend q (blocks_of rest) → BlocksAscend p (blocks_of (events_then closed found rest))
then-ascend closed p q [] rest stands ascends = BlocksAscend-later p q (blocks_of rest) stands ascends
then-ascend closed p q (Ok b ∷ found) rest stands ascends = (stands.0, then-ascend closed (b.offset + 1) q found rest stands.1 ascends)
then-ascend true p q (Err d ∷ found) rest stands ascends = BlocksAscend-later p q (blocks_of rest) stands ascends
then-ascend false p q (Err d ∷ found) rest stands ascends = tt

past-ascend : (r : Rules) (bytes : List ℕ) (size : Size) (p e : ℕ) → e ≤ p → BlocksAscend p (blocks_of (events_in_run r bytes e (level_1 bytes size p e)))
past-ascend r bytes size p e past =
    let P : Run → Type 0 = λ run. BlocksAscend p (blocks_of (events_in_run r bytes e run)) in
    subst P (sym (elements-end in_segment (ends_segment size) (behind_in_segment bytes e) bytes p e past)) tt

level-ascend : (n : ℕ) (r : Rules) (bytes : List ℕ) (size : Size) (p e : ℕ) → e - p ≤ n → BlocksAscend p (blocks_of (events_in_run r bytes e (level_1 bytes size p e)))
level-ascend zero r bytes size p e few = past-ascend r bytes size p e (omega arith)
level-ascend (suc n) r bytes size p e few =
    elim (cases_lt p e) [
      | inl inside ↦
          let P : Run → Type 0 = λ run. BlocksAscend p (blocks_of (events_in_run r bytes e run)) in
          subst P (sym (elements-more in_segment (ends_segment size) (behind_in_segment bytes e) bytes p e (Advances-segment bytes e) inside))
          (stopped inside (λ k later. level-ascend n r bytes size k e (omega arith)) (ends_segment size (id_of (element_at in_segment bytes p e))))
      | inr past ↦ past-ascend r bytes size p e past
    ]
  where
    of_cluster : (h : Header) (q : ℕ) (rest : List Event) → p < h.body → FoundBetween h.body q (found_in r bytes e h) → BlocksAscend q (blocks_of rest) → p ≤ q → (is : Bool)
        → BlocksAscend p (blocks_of (if is then events_then (is_closed (length bytes) h) (found_in r bytes e h) rest else rest))
    of_cluster h q rest later between ascends on true =
        then-ascend (is_closed (length bytes) h) p q (found_in r bytes e h) rest (FoundBetween-wider p h.body q q (found_in r bytes e h) (omega arith) (omega arith) between) ascends
    of_cluster h q rest later between ascends on false = BlocksAscend-later p q (blocks_of rest) on ascends

    behind_it : (h : Header) (next : Result ℕ Damage) → p < e → element_at in_segment bytes p e ≡ Ok h → behind_in_segment bytes e h ≡ next
        → ((k : ℕ) → p < k → BlocksAscend k (blocks_of (events_in_run r bytes e (level_1 bytes size k e))))
        → BlocksAscend p (blocks_of (events_in_run r bytes e (behind p h next (λ q. level_1 bytes size q e))))
    behind_it h (Err d) inside is goes further =
        let placed = element_at-placed in_segment bytes p e h (omega arith) is in
        let somewhere = found-somewhere r bytes e h in
        let ends = between-ends h.body somewhere.0 (found_in r bytes e h) somewhere.1 in
        let later = placed.later in
        of_cluster h somewhere.0 (stopped d ∷ []) later somewhere.1 tt (omega arith) (h.id == CLUSTER)
    behind_it h (Ok q) inside is goes further =
        let placed = element_at-placed in_segment bytes p e h (omega arith) is in
        let on = (Advances-segment bytes e).on p h q inside is goes in
        of_cluster h q (events_in_run r bytes e (level_1 bytes size q e)) placed.later (found-between r bytes e h placed.within q goes) (further q on) (omega arith) (h.id == CLUSTER)

    goes_on : p < e → ((k : ℕ) → p < k → BlocksAscend k (blocks_of (events_in_run r bytes e (level_1 bytes size k e)))) → (found : Result Header Damage) → element_at in_segment bytes p e ≡ found
        → BlocksAscend p (blocks_of (events_in_run r bytes e (step p (behind_in_segment bytes e) found (λ q. level_1 bytes size q e))))
    goes_on inside further (Err d) is = tt
    goes_on inside further (Ok h) is = behind_it h (behind_in_segment bytes e h) inside is refl further

    stopped : p < e → ((k : ℕ) → p < k → BlocksAscend k (blocks_of (events_in_run r bytes e (level_1 bytes size k e)))) → (stop : Bool)
        → BlocksAscend p (blocks_of (events_in_run r bytes e (if stop then ends_at p else step p (behind_in_segment bytes e) (element_at in_segment bytes p e) (λ q. level_1 bytes size q e))))
    stopped inside further true = tt
    stopped inside further false = goes_on inside further (element_at in_segment bytes p e) refl

-- The offsets of the blocks of a file ascend.
pub events-ascend : (r : Rules) (bytes : List ℕ) (segment : Header) → BlocksAscend 0 (blocks_of (events_of r bytes segment))
unfolding events_of
events-ascend r bytes segment =
    BlocksAscend-later 0 segment.body (blocks_of (events_in_run r bytes (segment_bound bytes segment) (segment_run bytes segment))) (omega arith)
    (level-ascend (segment_bound bytes segment - segment.body) r bytes segment.size segment.body (segment_bound bytes segment) (omega arith))
