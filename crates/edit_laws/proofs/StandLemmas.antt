-- The Cluster that contains each block of a file: RFC 9559, section 5.1.3 (Cluster Element).
use Rattle.std.proofs.Common.{◌≡◌, ◌==◌, ◌≤◌, ◌<◌, ℕ, zero, suc, ◌+◌, ◌-◌, nat_lt, Bool, true, false, if◌then◌else◌, List, [], ◌∷◌, ◌++◌, length, Option, Some, None, Result, Ok, Err, inl, inr, refl, sym, ◌∙◌, subst, append_assoc, arith}
use Rattle.std.specs.Bool.{⊤}
use Rattle.std.specs.List.{All, Contains}
use Rattle.std.proofs.lemmas.Bool.{cases_lt}
use Rattle.std.proofs.lemmas.Bool.Decides.{nat_tests}
use Rattle.std.proofs.lemmas.List.Elements.{All-nil, All-cons, All-weaker, Contains-append_right}
use Rattle.ebml_numbers.specs.declared.number.Size.{Size}
use Rattle.mkv_schema.specs.declared.ids.TheConstants.{CLUSTER}
use Rattle.mkv_io.specs.declared.damage.Damage.{Damage}
use Rattle.mkv_schema.specs.declared.element.Header.{Header}
use Rattle.mkv_schema.specs.Element.{in_segment, element_at}
use Rattle.mkv_schema.specs.Elements.{Run, ends_at, behind, step, id_of, ends_segment, behind_in_segment, level_1}
use Rattle.mkv_schema.specs.Order.{AscendFrom}
use Rattle.mkv_schema.specs.Outline.{segment_bound, segment_run}
use Rattle.mkv_schema.proofs.ElementLemmas.{element_at-placed}
use Rattle.mkv_schema.proofs.ElementsLemmas.{Advances-segment, elements-end, elements-more, level_1-ascends}
use Rattle.block_format.specs.Block.{Block}
use Rattle.block_format.specs.Elements.{Rules}
use Rattle.block_format.specs.Events.{Found, Event, found_in, is_closed, events_then, events_among, events_in_run, events_of, blocks_of}
use Rattle.reindex.specs.Points.{cluster_before}
use Rattle.reindex.proofs.ClustersLemmas.{before-none}
use Rattle.reindex.proofs.PlaceLemmas.{FoundBetween, between-ends, found-between, found-somewhere}
use Rattle.edit_laws.specs.IndexLaws.{StandsIn, BlocksStandInClusters}

-- The block `b` is in a Cluster of `list`, which begins at `p` or later.
record StandsAmong (r : Rules) (bytes : List ℕ) (e p : ℕ) (list : List Header) (b : Block) : Type 0 where
  cluster : Header
  before : cluster_before b.offset list ≡ Some cluster
  is_cluster : cluster.id ≡ CLUSTER
  behind : p ≤ cluster.offset
  stands : element_at in_segment bytes cluster.offset e ≡ Ok cluster
  found : Contains (found_in r bytes e cluster) (Ok b)
  inside : cluster.body ≤ b.offset

-- ---- Clusters before a place

-- A Cluster is the last one before each place after its header, up to the next Element.
before-first : (at : ℕ) (h : Header) (hs : List Header) → h.id ≡ CLUSTER → h.offset < at → cluster_before at hs ≡ None → cluster_before at (h ∷ hs) ≡ Some h
before-first at h hs is behind none =
    let test : (h.id == CLUSTER) ≡ true = grind (arith, nat_tests) in
    let past : nat_lt h.offset at ≡ true = grind (arith, nat_tests) in
    rw (none, test, past) refl

-- An earlier Element changes nothing.
before-more : (at : ℕ) (h c : Header) (hs : List Header) → cluster_before at hs ≡ Some c → cluster_before at (h ∷ hs) ≡ Some c
before-more at h c hs is = rw is refl

-- ---- contents of a Cluster

-- A fact about the blocks that are found, as far as there is no damage.
FoundAre : (Block → Type 0) → List Found → Type 0
FoundAre P [] = ⊤
FoundAre P (Ok b ∷ found) = P b × FoundAre P found
FoundAre P (Err d ∷ found) = ⊤

then-all : (P : Block → Type 0) (closed : Bool) (found : List Found) (rest : List Event) → FoundAre P found → All P (blocks_of rest) → All P (blocks_of (events_then closed found rest))
unfolding FoundAre
then-all P closed [] rest are all = all
then-all P closed (Ok b ∷ found) rest are all = All-cons P b _ are.0 (then-all P closed found rest are.1 all)
then-all P true (Err d ∷ found) rest are all = all
then-all P false (Err d ∷ found) rest are all = All-nil P

found-are : (P : Block → Type 0) (p q : ℕ) (whole before found : List Found) → ((b : Block) → Contains whole (Ok b) → p ≤ b.offset → b.offset < q → P b) → whole ≡ before ++ found → (m : ℕ) → p ≤ m → FoundBetween m q found → FoundAre P found
unfolding FoundAre
found-are P p q whole before [] each is m later stands = tt
found-are P p q whole before (Err d ∷ found) each is m later stands = tt
found-are P p q whole before (Ok b ∷ found) each is m later stands =
    let ends = between-ends (b.offset + 1) q found stands.1 in
    let Q : List Found → Type 0 = λ fs. Contains fs (Ok b) in
    let here : Contains whole (Ok b) = subst Q (sym is) (Contains-append_right before (Ok b ∷ found) (Ok b) (0, omega arith, refl)) in (
      each b here (omega (arith, stands.0)) (omega arith),
      found-are P p q whole (before ++ Ok b ∷ []) found each (is ∙ sym (append_assoc before (Ok b ∷ []) found)) (b.offset + 1) (omega (arith, stands.0)) stands.1,
    )

-- ---- at level 1

more-stands : (r : Rules) (bytes : List ℕ) (e p q : ℕ) (h : Header) (hs : List Header) (b : Block) → p ≤ q → StandsAmong r bytes e q hs b → StandsAmong r bytes e p (h ∷ hs) b
more-stands r bytes e p q h hs b on stands = record {
  cluster = stands.cluster;
  before = before-more b.offset h stands.cluster hs stands.before;
  is_cluster = stands.is_cluster;
  behind = omega (arith, stands.behind);
  stands = stands.stands;
  found = stands.found;
  inside = stands.inside;
}

past-stand : (r : Rules) (bytes : List ℕ) (size : Size) (p e : ℕ) → e ≤ p → All (StandsAmong r bytes e p (level_1 bytes size p e).list) (blocks_of (events_in_run r bytes e (level_1 bytes size p e)))
past-stand r bytes size p e past =
    let P : Run → Type 0 = λ run. All (StandsAmong r bytes e p run.list) (blocks_of (events_in_run r bytes e run)) in
    subst P (sym (elements-end in_segment (ends_segment size) (behind_in_segment bytes e) bytes p e past)) (All-nil (StandsAmong r bytes e p []))

level-stand : (n : ℕ) (r : Rules) (bytes : List ℕ) (size : Size) (p e : ℕ) → e - p ≤ n → All (StandsAmong r bytes e p (level_1 bytes size p e).list) (blocks_of (events_in_run r bytes e (level_1 bytes size p e)))
level-stand zero r bytes size p e few = past-stand r bytes size p e (omega arith)
level-stand (suc n) r bytes size p e few =
    elim (cases_lt p e) [
      | inl inside ↦
          let P : Run → Type 0 = λ run. All (StandsAmong r bytes e p run.list) (blocks_of (events_in_run r bytes e run)) in
          subst P (sym (elements-more in_segment (ends_segment size) (behind_in_segment bytes e) bytes p e (Advances-segment bytes e) inside))
          (stopped inside (λ k later. level-stand n r bytes size k e (omega arith)) (ends_segment size (id_of (element_at in_segment bytes p e))))
      | inr past ↦ past-stand r bytes size p e past
    ]
  where
    of_cluster : (h : Header) (hs : List Header) (wrong : Option Damage) (q : ℕ) → p ≤ q → p ≤ h.offset → element_at in_segment bytes h.offset e ≡ Ok h → h.offset < h.body → FoundBetween h.body q (found_in r bytes e h) → AscendFrom q hs
        → All (StandsAmong r bytes e q hs) (blocks_of (events_among r bytes e hs wrong)) → (test : Bool) → (h.id == CLUSTER) ≡ test
        → All (StandsAmong r bytes e p (h ∷ hs)) (blocks_of (if test then events_then (is_closed (length bytes) h) (found_in r bytes e h) (events_among r bytes e hs wrong) else events_among r bytes e hs wrong))
    of_cluster h hs wrong q on at is later between ascends all true test =
        let own : h.id ≡ CLUSTER = grind (arith, nat_tests) in
        then-all (StandsAmong r bytes e p (h ∷ hs)) (is_closed (length bytes) h) (found_in r bytes e h) (events_among r bytes e hs wrong)
        (found-are (StandsAmong r bytes e p (h ∷ hs)) h.body q (found_in r bytes e h) [] (found_in r bytes e h)
        (λ b found from before. record {
          cluster = h;
          before = before-first b.offset h hs own (omega arith) (before-none b.offset q hs (omega arith) ascends);
          is_cluster = own;
          behind = at;
          stands = is;
          found = found;
          inside = from;
        })
        refl h.body (omega arith) between)
        (All-weaker (StandsAmong r bytes e q hs) (StandsAmong r bytes e p (h ∷ hs)) (λ b stands. more-stands r bytes e p q h hs b on stands) _ all)
    of_cluster h hs wrong q on at is later between ascends all false test =
        All-weaker (StandsAmong r bytes e q hs) (StandsAmong r bytes e p (h ∷ hs)) (λ b stands. more-stands r bytes e p q h hs b on stands) _ all

    behind_it : (h : Header) (next : Result ℕ Damage) → p < e → element_at in_segment bytes p e ≡ Ok h → behind_in_segment bytes e h ≡ next
        → ((k : ℕ) → p < k → All (StandsAmong r bytes e k (level_1 bytes size k e).list) (blocks_of (events_in_run r bytes e (level_1 bytes size k e))))
        → All (StandsAmong r bytes e p (behind p h next (λ q. level_1 bytes size q e)).list) (blocks_of (events_in_run r bytes e (behind p h next (λ q. level_1 bytes size q e))))
    behind_it h (Err d) inside is goes further =
        let placed = element_at-placed in_segment bytes p e h (omega arith) is in
        let at = placed.offset in let later = placed.later in
        let somewhere = found-somewhere r bytes e h in
        let ends = between-ends h.body somewhere.0 (found_in r bytes e h) somewhere.1 in
        let P : ℕ → Type 0 = λ m. element_at in_segment bytes m e ≡ Ok h in
        let here = subst P (sym at) is in
        of_cluster h [] (Some d) somewhere.0 (omega arith) (omega arith) here (omega arith) somewhere.1 tt (All-nil (StandsAmong r bytes e somewhere.0 [])) (h.id == CLUSTER) refl
    behind_it h (Ok q) inside is goes further =
        let placed = element_at-placed in_segment bytes p e h (omega arith) is in
        let at = placed.offset in let later = placed.later in
        let on = (Advances-segment bytes e).on p h q inside is goes in
        let P : ℕ → Type 0 = λ m. element_at in_segment bytes m e ≡ Ok h in
        let here = subst P (sym at) is in
        of_cluster h (level_1 bytes size q e).list (level_1 bytes size q e).damage q (omega arith) (omega arith) here (omega arith) (found-between r bytes e h placed.within q goes) (level_1-ascends bytes size q e) (further q on) (h.id == CLUSTER) refl

    goes_on : p < e → ((k : ℕ) → p < k → All (StandsAmong r bytes e k (level_1 bytes size k e).list) (blocks_of (events_in_run r bytes e (level_1 bytes size k e)))) → (found : Result Header Damage) → element_at in_segment bytes p e ≡ found
        → All (StandsAmong r bytes e p (step p (behind_in_segment bytes e) found (λ q. level_1 bytes size q e)).list) (blocks_of (events_in_run r bytes e (step p (behind_in_segment bytes e) found (λ q. level_1 bytes size q e))))
    goes_on inside further (Err d) is = All-nil (StandsAmong r bytes e p [])
    goes_on inside further (Ok h) is = behind_it h (behind_in_segment bytes e h) inside is refl further

    stopped : p < e → ((k : ℕ) → p < k → All (StandsAmong r bytes e k (level_1 bytes size k e).list) (blocks_of (events_in_run r bytes e (level_1 bytes size k e)))) → (stop : Bool)
        → All (StandsAmong r bytes e p (if stop then ends_at p else step p (behind_in_segment bytes e) (element_at in_segment bytes p e) (λ q. level_1 bytes size q e)).list)
        (blocks_of (events_in_run r bytes e (if stop then ends_at p else step p (behind_in_segment bytes e) (element_at in_segment bytes p e) (λ q. level_1 bytes size q e))))
    stopped inside further true = All-nil (StandsAmong r bytes e p [])
    stopped inside further false = goes_on inside further (element_at in_segment bytes p e) refl

-- Each block of a file is in the last Cluster that begins before it.
pub blocks-stand : BlocksStandInClusters
unfolding events_of
blocks-stand r bytes segment =
    All-weaker (StandsAmong r bytes (segment_bound bytes segment) segment.body (segment_run bytes segment).list) (λ b. (cluster : Header) × StandsIn r bytes segment b cluster)
    (λ b stands. (
      stands.cluster,
      record {
        before = stands.before;
        is_cluster = stands.is_cluster;
        behind = stands.behind;
        place = stands.stands;
        found = stands.found;
        inside = stands.inside;
      },
    )) _
    (level-stand (segment_bound bytes segment - segment.body) r bytes segment.size segment.body (segment_bound bytes segment) (omega arith))
