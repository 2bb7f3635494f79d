-- The contents of Clusters, which are valid.
use Rattle.std.proofs.Common.{◌≡◌, ℕ, ◌+◌, ◌-◌, ◌*◌, ◌≤◌, nat_le, Bool, true, false, ◌&&◌, if◌then◌else◌, List, [], ◌∷◌, ◌++◌, length, flat_map, All, append_assoc, refl, ap, ◌∙◌, arith}
use Rattle.std.proofs.lemmas.Bool.{le-leb}
use Rattle.std.proofs.lemmas.List.Elements.{All-nil, All-cons, All-head, All-tail, All-append}
use Rattle.output_model.specs.declared.TheConstants.{MAX_CLUSTER_LEN}
use Rattle.output_model.specs.declared.heads.ClusterLimits.{ClusterLimits}
use Rattle.output_model.specs.OutputBlock.{OutputBlock, in_output}
use Rattle.output_model.specs.Cluster.{OutputCluster, is_near, cluster_body, with_block, begun, joins, cut_from, clusters}
use Rattle.output_model.specs.Sound.{IsSoundBlock, IsSoundIn, BeginsAt, IsSoundCluster}
use Rattle.merge_model.specs.Merged.{merged}
use Rattle.output_laws.proofs.MergedLemmas.{IsIn, merged-hold}

-- ---- no block is lost

cut-holds : (limits : ClusterLimits) (c : OutputCluster) (bs : List OutputBlock) → flat_map (λ (k : OutputCluster). k.blocks) (cut_from limits c bs) ≡ c.blocks ++ bs
cut-holds limits c [] = refl
cut-holds limits c (b ∷ bs) = split (cut-holds limits (with_block c b) bs) (cut-holds limits (begun b) bs) (joins limits c b)
  where
    split : flat_map (λ (k : OutputCluster). k.blocks) (cut_from limits (with_block c b) bs) ≡ (c.blocks ++ b ∷ []) ++ bs → flat_map (λ (k : OutputCluster). k.blocks) (cut_from limits (begun b) bs) ≡ b ∷ bs
        → (t : Bool) → flat_map (λ (k : OutputCluster). k.blocks) (if t then cut_from limits (with_block c b) bs else c ∷ cut_from limits (begun b) bs) ≡ c.blocks ++ b ∷ bs
    split more other true = more ∙ append_assoc c.blocks (b ∷ []) bs
    split more other false = ap (λ (l : List OutputBlock). c.blocks ++ l) other

pub clusters-hold : (limits : ClusterLimits) (bs : List OutputBlock) → flat_map (λ (c : OutputCluster). c.blocks) (clusters limits bs) ≡ bs
clusters-hold limits [] = refl
clusters-hold limits (b ∷ bs) = cut-holds limits (begun b) bs

-- ---- each Cluster is valid

-- a valid block on one of the output tracks
abbrev pub IsOf : ℕ → OutputBlock → Type 0
IsOf lanes b = IsIn IsSoundBlock 1 (lanes + 1) b

-- The second of four tests holds.
second : (a b c d : Bool) → (a && b && c && d) ≡ true → b ≡ true
second true true c d is = refl
second true false c d is = absurd (cc)
second false b c d is = absurd (cc)

joins-near : (limits : ClusterLimits) (c : OutputCluster) (b : OutputBlock) → joins limits c b ≡ true → is_near c.timestamp b.tick ≡ true
joins-near limits c b is =
    second (nat_le (length (with_block c b).blocks) limits.blocks) (is_near c.timestamp b.tick) (nat_le ((b.tick - c.timestamp) * limits.scale) limits.span) (nat_le (length (cluster_body (with_block c b))) MAX_CLUSTER_LEN) is

near-itself : (tick : ℕ) → is_near tick tick ≡ true
near-itself tick =
    ap (λ (t : Bool). t && nat_le tick (tick + 32767)) (le-leb tick (tick + 32768) (omega arith)) ∙ le-leb tick (tick + 32767) (omega arith)

stands-in : (lanes timestamp : ℕ) (b : OutputBlock) → IsOf lanes b → is_near timestamp b.tick ≡ true → IsSoundIn lanes timestamp b
stands-in lanes timestamp b is near =
    let some = is.some in
    let most = is.most in
    record { sound = is.holds; near = near; lane_some = omega arith; lane_most = omega arith }

begun-sound : (lanes : ℕ) (b : OutputBlock) → IsOf lanes b → IsSoundCluster lanes (begun b)
begun-sound lanes b is = record {
  begins = refl;
  blocks = All-cons (IsSoundIn lanes b.tick) b [] (stands-in lanes b.tick b is (near-itself b.tick)) (All-nil (IsSoundIn lanes b.tick));
}

pub begins-more : (timestamp : ℕ) (bs : List OutputBlock) (b : OutputBlock) → BeginsAt timestamp bs → BeginsAt timestamp (bs ++ b ∷ [])
begins-more timestamp [] b begins = absurd begins
begins-more timestamp (first ∷ bs) b begins = begins

joined-sound : (lanes : ℕ) (limits : ClusterLimits) (c : OutputCluster) (b : OutputBlock) → IsSoundCluster lanes c → IsOf lanes b → joins limits c b ≡ true → IsSoundCluster lanes (with_block c b)
joined-sound lanes limits c b sound is joined_is = record {
  begins = begins-more c.timestamp c.blocks b sound.begins;
  blocks = All-append (IsSoundIn lanes c.timestamp) c.blocks (b ∷ []) sound.blocks
      (All-cons (IsSoundIn lanes c.timestamp) b [] (stands-in lanes c.timestamp b is (joins-near limits c b joined_is)) (All-nil (IsSoundIn lanes c.timestamp)));
}

cut-sound : (lanes : ℕ) (limits : ClusterLimits) (c : OutputCluster) (bs : List OutputBlock) → IsSoundCluster lanes c → All (IsOf lanes) bs → All (IsSoundCluster lanes) (cut_from limits c bs)
cut-sound lanes limits c [] sound are = All-cons (IsSoundCluster lanes) c [] sound (All-nil (IsSoundCluster lanes))
cut-sound lanes limits c (b ∷ bs) sound are =
    let own = All-head (IsOf lanes) b bs are in
    let others = All-tail (IsOf lanes) b bs are in
    split own (λ is. cut-sound lanes limits (with_block c b) bs is others) (cut-sound lanes limits (begun b) bs (begun-sound lanes b own) others) (joins limits c b) refl
  where
    split : IsOf lanes b → (IsSoundCluster lanes (with_block c b) → All (IsSoundCluster lanes) (cut_from limits (with_block c b) bs)) → All (IsSoundCluster lanes) (cut_from limits (begun b) bs)
        → (t : Bool) → joins limits c b ≡ t → All (IsSoundCluster lanes) (if t then cut_from limits (with_block c b) bs else c ∷ cut_from limits (begun b) bs)
    split own more other true is = more (joined-sound lanes limits c b sound own is)
    split own more other false is = All-cons (IsSoundCluster lanes) c (cut_from limits (begun b) bs) sound other

pub clusters-sound : (lanes : ℕ) (limits : ClusterLimits) (bs : List OutputBlock) → All (IsOf lanes) bs → All (IsSoundCluster lanes) (clusters limits bs)
clusters-sound lanes limits [] are = All-nil (IsSoundCluster lanes)
clusters-sound lanes limits (b ∷ bs) are = cut-sound lanes limits (begun b) bs (begun-sound lanes b (All-head (IsOf lanes) b bs are)) (All-tail (IsOf lanes) b bs are)

-- ---- a block on another output track, or earlier

-- A valid block stays valid on another output track, or earlier.
sound-in_output : (lane tick : ℕ) (b : OutputBlock) → tick ≤ b.tick → IsSoundBlock b → IsSoundBlock (in_output lane tick b)
sound-in_output lane tick b early is = record {
  tick = (let small = is.tick in omega arith);
  frames = is.frames;
  one = is.one;
  simple = λ alone. (let s = is.simple alone in record { duration = s.duration; references = s.references; kept = s.kept });
  group = λ grouped. (let g = is.group grouped in record { key = g.key; discardable = g.discardable; duration = g.duration; references = g.references; kept = g.kept });
}

-- An earlier block is still a valid block of its output track.
pub earlier-of : (lanes tick : ℕ) (b : OutputBlock) → tick ≤ b.tick → IsOf lanes b → IsOf lanes (in_output b.lane tick b)
earlier-of lanes tick b early is = record { holds = sound-in_output b.lane tick b early is.holds; some = is.some; most = is.most }

-- Each block of a merged list is a valid block of its output track.
pub merged-of : (lanes : List (List OutputBlock)) → All (All IsSoundBlock) lanes → All (IsOf (length lanes)) (merged lanes)
merged-of lanes are = merged-hold IsSoundBlock lanes (λ j b is. sound-in_output j b.tick b (omega arith) is) are

pub merged-sound : (limits : ClusterLimits) (lanes : List (List OutputBlock)) → All (All IsSoundBlock) lanes → All (IsSoundCluster (length lanes)) (clusters limits (merged lanes))
merged-sound limits lanes are = clusters-sound (length lanes) limits (merged lanes) (merged-of lanes are)
