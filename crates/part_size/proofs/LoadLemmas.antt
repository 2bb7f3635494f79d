-- The load of blocks, in a merged list, in a part and in Clusters.
use Rattle.std.proofs.Common.{◌≡◌, ℕ, zero, suc, ◌+◌, Bool, true, false, List, [], ◌∷◌, ◌++◌, length, map, take, refl, sym, ◌∙◌, ap, ap₂, zero-add, arith}
use Rattle.std.specs.Prelude.{if◌then◌else◌}
use Rattle.std.specs.List.{sum_by}
use Rattle.std.proofs.lemmas.List.{length-append}
use Rattle.std.proofs.lemmas.List.Sums.{sum_by-cons, sum_by_push}
use Rattle.output_model.specs.Element.{Element, joined, octets_of}
use Rattle.output_model.specs.declared.heads.ClusterLimits.{ClusterLimits}
use Rattle.output_model.specs.OutputBlock.{OutputBlock}
use Rattle.output_model.specs.Block.{block_element, frame_octets}
use Rattle.output_model.specs.Cluster.{OutputCluster, begun, block_elements, clusters, cut_from, joins, with_block}
use Rattle.cluster_writer.specs.Lengths.{octets_taken}
use Rattle.cluster_writer.proofs.LengthLemmas.{length-block_element, length-same}
use Rattle.splitter.specs.Load.{load}
use Rattle.splitter.specs.Sections.{in_part}
use Rattle.part_size.specs.Laws.{BlocksKeepTheirLength, LoadsAreWritten, PartsKeepTheirLoad, blocks_len}

-- ---- sums

-- If a change of blocks keeps their weight, the sums of all and of the first ones are the same.
module _ (f : OutputBlock → ℕ) (g : OutputBlock → OutputBlock) (keeps : (b : OutputBlock) → f (g b) ≡ f b) where
  same-sum : (bs : List OutputBlock) → sum_by f (map g bs) ≡ sum_by f bs
  same-sum [] = refl
  same-sum (b ∷ bs) = sum_by-cons f (g b) (map g bs) ∙ ap₂ (λ (n m : ℕ). n + m) (keeps b) (same-sum bs) ∙ sym (sum_by-cons f b bs)

  same-first : (bs : List OutputBlock) (k : ℕ) → sum_by f (take k (map g bs)) ≡ sum_by f (take k bs)
  same-first bs zero = refl
  same-first [] (suc k) = refl
  same-first (b ∷ bs) (suc k) =
      sum_by-cons f (g b) (take k (map g bs)) ∙ ap₂ (λ (n m : ℕ). n + m) (keeps b) (same-first bs k) ∙ sym (sum_by-cons f b (take k bs))

-- The weight `f` is the length of the elements.
same-length : (f : OutputBlock → ℕ) (e : OutputBlock → Element) → ((b : OutputBlock) → length (octets_of (e b)) ≡ f b) → (bs : List OutputBlock) → length (joined (map e bs)) ≡ sum_by f bs
same-length f e is [] = refl
same-length f e is (b ∷ bs) =
    length-append (octets_of (e b)) (joined (map e bs)) ∙ ap₂ (λ (n m : ℕ). n + m) (is b) (same-length f e is bs) ∙ sym (sum_by-cons f b bs)

-- ---- in a part

-- The relative time takes two bytes, and neither output track nor tick changes the length.
pub keeps-length : BlocksKeepTheirLength
keeps-length timestamp start b =
    length-block_element timestamp (in_part start b) (length (frame_octets b.lace b.frames)) refl ∙ sym (length-block_element b.tick b (length (frame_octets b.lace b.frames)) refl)

pub load-in_part : (start : ℕ) (bs : List OutputBlock) → load (map (in_part start) bs) ≡ load bs
load-in_part start bs = same-sum octets_taken (in_part start) (λ b. keeps-length (in_part start b).tick start b) bs

pub keep-loads : PartsKeepTheirLoad
keep-loads x end = load-in_part x.start x.blocks

-- The load of the first blocks is also the same.
pub load-first : (start : ℕ) (bs : List OutputBlock) (k : ℕ) → load (take k (map (in_part start) bs)) ≡ load (take k bs)
load-first start bs k = same-first octets_taken (in_part start) (λ b. keeps-length (in_part start b).tick start b) bs k

-- ---- in Clusters

-- The load of blocks is their length in a Cluster with any Timestamp.
in-cluster : (timestamp : ℕ) (bs : List OutputBlock) → length (joined (block_elements timestamp bs)) ≡ load bs
in-cluster timestamp bs = same-length octets_taken (block_element timestamp) (λ b. length-same timestamp b.tick b) bs

-- The lengths of a Cluster and the next ones are the weights of their blocks.
module _ (f : OutputBlock → ℕ) (len : OutputCluster → ℕ) (is : (c : OutputCluster) → len c ≡ sum_by f c.blocks) (limits : ClusterLimits) where
  behind : (bs : List OutputBlock) (c : OutputCluster) → sum_by len (cut_from limits c bs) ≡ sum_by f c.blocks + sum_by f bs
  behind [] c = single (len c) (sum_by f c.blocks) (is c)
    where
      single : (n m : ℕ) → n ≡ m → 0 + n ≡ m + 0
      single n m same = omega arith
  behind (b ∷ bs) c = split (joins limits c b) (behind bs (with_block c b)) (behind bs (begun b))
    where
      joined-on : (all old new n rest both : ℕ) → all ≡ new + rest → new ≡ old + n → both ≡ n + rest → all ≡ old + both
      joined-on all old new n rest both total more two = omega arith

      apart : (all first others old n rest both : ℕ) → all ≡ first + others → first ≡ old → others ≡ 0 + n + rest → both ≡ n + rest → all ≡ old + both
      apart all first others old n rest both total first-is others-are two = omega arith

      split : (q : Bool) → sum_by len (cut_from limits (with_block c b) bs) ≡ sum_by f (c.blocks ++ b ∷ []) + sum_by f bs → sum_by len (cut_from limits (begun b) bs) ≡ 0 + f b + sum_by f bs
          → sum_by len (if q then cut_from limits (with_block c b) bs else c ∷ cut_from limits (begun b) bs) ≡ sum_by f c.blocks + sum_by f (b ∷ bs)
      split true on new = joined-on _ _ _ _ _ _ on (sum_by_push f c.blocks b) (sum_by-cons f b bs)
      split false on new = apart _ _ _ _ _ _ _ (sum_by-cons len c (cut_from limits (begun b) bs)) (is c) new (sum_by-cons f b bs)

  all-clusters : (bs : List OutputBlock) → sum_by len (clusters limits bs) ≡ sum_by f bs
  all-clusters [] = refl
  all-clusters (b ∷ bs) = behind bs (begun b) ∙ ap (λ (n : ℕ). n + sum_by f bs) (zero-add (f b)) ∙ sym (sum_by-cons f b bs)

pub loads-written : LoadsAreWritten
loads-written limits blocks = all-clusters octets_taken blocks_len (λ c. in-cluster c.timestamp c.blocks) limits blocks
