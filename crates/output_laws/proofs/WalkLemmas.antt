-- A fact about each SimpleBlock and each BlockGroup holds for each block of a file.
use Rattle.std.proofs.Common.{◌≡◌, ℕ, zero, suc, ◌-◌, ◌≤◌, ◌==◌, nat_lt, Bool, true, false, if◌then◌else◌, List, [], ◌∷◌, length, Option, Some, None, Result, Ok, Err, refl, arith}
use Rattle.std.specs.List.{All}
use Rattle.std.proofs.lemmas.List.Elements.{All-nil, All-cons, All-append, All-head, All-tail, All-weaker}
use Rattle.mkv_schema.specs.declared.ids.TheConstants.{CLUSTER, TIMESTAMP, SIMPLE_BLOCK, BLOCK_GROUP}
use Rattle.mkv_io.specs.declared.damage.Damage.{Damage}
use Rattle.mkv_schema.specs.declared.element.Header.{Header}
use Rattle.mkv_schema.specs.Element.{in_master, octets_between, element_at, is_unknown, stated_end, end_in}
use Rattle.mkv_schema.specs.Elements.{elements, elements_within, never, id_of, ends_at, step, ends_cluster, children_in, open_cluster}
use Rattle.mkv_schema.specs.Outline.{segment_bound, segment_run}
use Rattle.mkv_schema.proofs.ElementLemmas.{element_in-whole}
use Rattle.block_format.specs.Block.{Block}
use Rattle.block_format.specs.Elements.{Rules, simple_block, block_group}
use Rattle.block_format.specs.Events.{Found, Event, found_in_timestamp, found_at, timestamp_behind, found_among, found_behind, cluster_run, found_in, is_closed, events_then, events_among, events_of, blocks_of}

-- ---- the ends of a Cluster's children

-- The Element ends at a place or before.
abbrev EndsBy : ℕ → Header → Type 0
EndsBy e h = stated_end h ≤ e

ends-within : (n : ℕ) (stops : ℕ → Bool) (bytes : List ℕ) (p e : ℕ) → All (EndsBy e) (elements_within n in_master stops (λ h. Ok (end_in e h)) bytes p e).list
unfolding elements_within
ends-within zero stops bytes p e = All-nil (EndsBy e)
ends-within (suc n) stops bytes p e = split (ends-within n stops bytes) (nat_lt p e) (stops (id_of (element_at in_master bytes p e)))
  where
    Rest : Type 0
    Rest = (q e : ℕ) → All (EndsBy e) (elements_within n in_master stops (λ h. Ok (end_in e h)) bytes q e).list

    go : Rest → (found : Result Header Damage) → element_at in_master bytes p e ≡ found → All (EndsBy e) (step p (λ h. Ok (end_in e h)) found (λ q. elements_within n in_master stops (λ h. Ok (end_in e h)) bytes q e)).list
    go rest (Err d) is = All-nil (EndsBy e)
    go rest (Ok h) is =
        let whole = element_in-whole in_master (octets_between bytes p e) (length bytes) p e h is in
        All-cons (EndsBy e) h (elements_within n in_master stops (λ h. Ok (end_in e h)) bytes (end_in e h) e).list (whole.inside refl) (rest (end_in e h) e)

    split : Rest → (more stop : Bool)
        → All (EndsBy e) (if more then (if stop then ends_at p else step p (λ h. Ok (end_in e h)) (element_at in_master bytes p e) (λ q. elements_within n in_master stops (λ h. Ok (end_in e h)) bytes q e)) else ends_at p).list
    split rest false stop = All-nil (EndsBy e)
    split rest true true = All-nil (EndsBy e)
    split rest true false = go rest (element_at in_master bytes p e) refl

elements-within : (stops : ℕ → Bool) (bytes : List ℕ) (p e : ℕ) → All (EndsBy e) (elements in_master stops (λ h. Ok (end_in e h)) bytes p e).list
unfolding elements
elements-within stops bytes p e = ends-within (e - p) stops bytes p e

-- They end within the file.
cluster-within : (bytes : List ℕ) (e : ℕ) (h : Header) → e ≤ length bytes → All (EndsBy (length bytes)) (cluster_run bytes e h).list
cluster-within bytes e h within = split (is_unknown h.size)
  where
    later : (end : ℕ) (list : List Header) → end ≤ length bytes → All (EndsBy end) list → All (EndsBy (length bytes)) list
    later end list before each = All-weaker (EndsBy end) (EndsBy (length bytes)) (λ (c : Header) ends. omega arith) list each

    split : (t : Bool) → All (EndsBy (length bytes)) (if t then open_cluster bytes h.body e else children_in in_master bytes h.body (end_in e h)).list
    split true = later e (open_cluster bytes h.body e).list within (elements-within ends_cluster bytes h.body e)
    split false = later (end_in e h) (children_in in_master bytes h.body (end_in e h)).list (omega arith) (elements-within never bytes h.body (end_in e h))

-- ---- results

-- The fact holds for the result if it is a block.
abbrev pub IsFoundAs : (Block → Type 0) → Found → Type 0
IsFoundAs P (Ok b) = P b
IsFoundAs P (Err d) = Unit {0}

one-found : (P : Block → Type 0) (found : Found) → ((b : Block) → found ≡ Ok b → P b) → All (IsFoundAs P) (found ∷ [])
one-found P (Ok b) holds = All-cons (IsFoundAs P) (Ok b) [] (holds b refl) (All-nil (IsFoundAs P))
one-found P (Err d) holds = All-cons (IsFoundAs P) (Err d) [] tt (All-nil (IsFoundAs P))

-- A fact about SimpleBlocks and BlockGroups holds for the block of each child of a Cluster.
pub at-found : (P : Block → Type 0) (r : Rules) (bytes : List ℕ) (timestamp : Option ℕ) (h : Header) → ((b : Block) → simple_block r bytes timestamp h ≡ Ok b → P b) → ((b : Block) → block_group r bytes timestamp h ≡ Ok b → P b)
    → All (IsFoundAs P) (found_at r bytes timestamp h)
at-found P r bytes timestamp h simple group = split (h.id == TIMESTAMP) (h.id == SIMPLE_BLOCK) (h.id == BLOCK_GROUP)
  where
    stamp : (t : Bool) (d : Damage) → All (IsFoundAs P) (if t then Err d ∷ [] else [])
    stamp true d = All-cons (IsFoundAs P) (Err d) [] tt (All-nil (IsFoundAs P))
    stamp false d = All-nil (IsFoundAs P)

    split : (x y z : Bool) → All (IsFoundAs P) (if x then found_in_timestamp h else if y then simple_block r bytes timestamp h ∷ [] else if z then block_group r bytes timestamp h ∷ [] else [])
    split true y z = stamp _ _
    split false true z = one-found P (simple_block r bytes timestamp h) simple
    split false false true = one-found P (block_group r bytes timestamp h) group
    split false false false = All-nil (IsFoundAs P)

behind-found : (P : Block → Type 0) (o : Option Damage) → All (IsFoundAs P) (found_behind o)
behind-found P None = All-nil (IsFoundAs P)
behind-found P (Some d) = All-cons (IsFoundAs P) (Err d) [] tt (All-nil (IsFoundAs P))

then-found : (P : Block → Type 0) (closed : Bool) (found : List Found) (rest : List Event) → All (IsFoundAs P) found → All P (blocks_of rest) → All P (blocks_of (events_then closed found rest))
then-found P closed [] rest each others = others
then-found P closed (Ok b ∷ found) rest each others =
    All-cons P b (blocks_of (events_then closed found rest)) (All-head (IsFoundAs P) (Ok b) found each) (then-found P closed found rest (All-tail (IsFoundAs P) (Ok b) found each) others)
then-found P true (Err d ∷ found) rest each others = others
then-found P false (Err d ∷ found) rest each others = All-nil P

-- ---- the file

module _ (P : Block → Type 0) (r : Rules) (bytes : List ℕ)
    (simple : (timestamp : Option ℕ) (h : Header) (b : Block) → stated_end h ≤ length bytes → simple_block r bytes timestamp h ≡ Ok b → P b)
    (group : (timestamp : Option ℕ) (h : Header) (b : Block) → stated_end h ≤ length bytes → block_group r bytes timestamp h ≡ Ok b → P b) where
  children-found : (timestamp : Option ℕ) (hs : List Header) → All (EndsBy (length bytes)) hs → All (IsFoundAs P) (found_among r bytes timestamp hs)
  children-found timestamp [] within = All-nil (IsFoundAs P)
  children-found timestamp (h ∷ hs) within =
      let ends = All-head (EndsBy (length bytes)) h hs within in
      let others = All-tail (EndsBy (length bytes)) h hs within in
      All-append (IsFoundAs P) (found_at r bytes timestamp h) (found_among r bytes (timestamp_behind bytes timestamp h) hs)
      (at-found P r bytes timestamp h (λ b. simple timestamp h b ends) (λ b. group timestamp h b ends)) (children-found (timestamp_behind bytes timestamp h) hs others)

  cluster-found : (e : ℕ) (h : Header) → e ≤ length bytes → All (IsFoundAs P) (found_in r bytes e h)
  cluster-found e h within =
      let run = cluster_run bytes e h in
      All-append (IsFoundAs P) (found_among r bytes None run.list) (found_behind run.damage) (children-found None run.list (cluster-within bytes e h within)) (behind-found P run.damage)

  among-found : (e : ℕ) (hs : List Header) (wrong : Option Damage) → e ≤ length bytes → All P (blocks_of (events_among r bytes e hs wrong))
  among-found e [] None within = All-nil P
  among-found e [] (Some d) within = All-nil P
  among-found e (h ∷ hs) wrong within = split (h.id == CLUSTER) (among-found e hs wrong within)
    where
      split : (t : Bool) → All P (blocks_of (events_among r bytes e hs wrong))
          → All P (blocks_of (if t then events_then (is_closed (length bytes) h) (found_in r bytes e h) (events_among r bytes e hs wrong) else events_among r bytes e hs wrong))
      split true rest = then-found P (is_closed (length bytes) h) (found_in r bytes e h) (events_among r bytes e hs wrong) (cluster-found e h within) rest
      split false rest = rest

  -- A fact about each block of a child of a Cluster holds for each block of the file.
  pub each-block : (segment : Header) → All P (blocks_of (events_of r bytes segment))
  unfolding events_of
  each-block segment = among-found (segment_bound bytes segment) (segment_run bytes segment).list (segment_run bytes segment).damage (bound (is_unknown segment.size))
    where
      bound : (t : Bool) → (if t then length bytes else end_in (length bytes) segment) ≤ length bytes
      bound true = omega arith
      bound false = omega arith
