-- Cue points follow their Clusters.
use Rattle.std.proofs.Common.{◌≡◌, ℕ, ◌+◌, Bool, true, false, List, [], ◌∷◌, ◌++◌, length, map, refl, sym, ap, ap₂, ◌∙◌, arith}
use Rattle.std.proofs.lemmas.List.{map-append}
use Rattle.output_model.specs.Element.{octets_of}
use Rattle.output_model.specs.OutputBlock.{OutputBlock}
use Rattle.output_model.specs.Block.{block_element}
use Rattle.output_model.specs.Cluster.{OutputCluster, timestamp_element, cluster_element}
use Rattle.output_model.specs.Cues.{point_of, points_where, points_in, cluster_points, points_from}
use Rattle.duration_laws.specs.Changes.{later_by}

point-later : (cued : Bool) (k cluster relative : ℕ) (b : OutputBlock) → points_where cued (point_of (cluster + k) relative b) ≡ map (later_by k) (points_where cued (point_of cluster relative b))
point-later true k cluster relative b = refl
point-later false k cluster relative b = refl

points_in-later : (cued : OutputBlock → Bool) (k cluster timestamp relative : ℕ) (bs : List OutputBlock)
    → points_in cued (cluster + k) timestamp relative bs ≡ map (later_by k) (points_in cued cluster timestamp relative bs)
points_in-later cued k cluster timestamp relative [] = refl
points_in-later cued k cluster timestamp relative (b ∷ bs) =
    let next : ℕ = relative + length (octets_of (block_element timestamp b)) in
    ap₂ (λ first rest. first ++ rest) (point-later (cued b) k cluster relative b) (points_in-later cued k cluster timestamp next bs)
    ∙ sym (map-append (later_by k) (points_where (cued b) (point_of cluster relative b)) (points_in cued cluster timestamp next bs))

-- If the first Cluster begins `k` bytes later, all cue points have their Clusters `k` bytes later.
pub points_from-later : (cued : OutputBlock → Bool) (k cluster : ℕ) (cs : List OutputCluster) → points_from cued (cluster + k) cs ≡ map (later_by k) (points_from cued cluster cs)
points_from-later cued k cluster [] = refl
points_from-later cued k cluster (c ∷ cs) =
    let len : ℕ = length (octets_of (cluster_element c)) in
    let next : cluster + k + len ≡ cluster + len + k = omega arith in
    ap₂ (λ first rest. first ++ rest)
    (points_in-later cued k cluster c.timestamp (length (octets_of (timestamp_element c.timestamp))) c.blocks)
    (ap (λ p. points_from cued p cs) next ∙ points_from-later cued k (cluster + len) cs)
    ∙ sym (map-append (later_by k) (cluster_points cued cluster c) (points_from cued (cluster + len) cs))
