-- The cue points of an output, one block at a time.
use Rattle.std.proofs.Common.{◌≡◌, ◌≤◌, ◌<◌, ℕ, ◌+◌, List, [], ◌∷◌, ◌++◌, length, take, sym, ap, ◌∙◌, append_assoc, append-nil, arith, Option, Some, None, Bool, inl, inr, ◌⊎◌}
use Rattle.std.proofs.lemmas.List.{length-append, length_push, take_all, take-append-le, length-take-le}
use Rattle.std.proofs.lemmas.Bool.{cases_lt}
use Rattle.output_model.specs.Element.{joined, octets_of}
use Rattle.output_model.specs.declared.heads.ClusterLimits.{ClusterLimits}
use Rattle.output_model.specs.declared.places.CuePoint.{CuePoint}
use Rattle.output_model.specs.OutputBlock.{OutputBlock}
use Rattle.output_model.specs.Block.{block_element}
use Rattle.output_model.specs.Cluster.{OutputCluster, block_elements, cluster_element, timestamp_element}
use Rattle.output_model.specs.Cues.{cluster_points, point_of, points_from, points_in, points_where}
use Rattle.output_model.specs.Document.{clusters_elements}
use Rattle.cluster_writer.specs.Gathered.{gathered_with, place_in, with_next}
use Rattle.remuxer.specs.Stands.{clusters_held}

module _ (cued : OutputBlock → Bool) where
  -- One more block adds its point, if any.
  points_in-push : (c t r : ℕ) (bs : List OutputBlock) (b : OutputBlock)
      → points_in cued c t r (bs ++ b ∷ []) ≡ points_in cued c t r bs ++ points_where (cued b) (point_of c (r + length (joined (block_elements t bs))) b)
  points_in-push c t r [] b = append-nil (points_where (cued b) (point_of c r b)) ∙ ap (λ n. points_where (cued b) (point_of c n b)) (let same : r ≡ r + 0 = omega arith in same)
  points_in-push c t r (x ∷ bs) b =
      let one = length (octets_of (block_element t x)) in
      let place : r + one + length (joined (block_elements t bs)) ≡ r + length (joined (block_elements t (x ∷ bs))) =
      omega (arith, length-append (octets_of (block_element t x)) (joined (block_elements t bs))) in
      ap (λ ps. points_where (cued x) (point_of c r x) ++ ps) (points_in-push c t (r + one) bs b)
      ∙ sym (append_assoc (points_where (cued x) (point_of c r x)) (points_in cued c t (r + one) bs) (points_where (cued b) (point_of c (r + one + length (joined (block_elements t bs))) b)))
      ∙ ap (λ n. points_in cued c t r (x ∷ bs) ++ points_where (cued b) (point_of c n b)) place

  -- The block begins a Cluster or joins it.
  cluster_points-push : (limits : ClusterLimits) (spare c : ℕ) (cl : Option OutputCluster) (b : OutputBlock)
      → cluster_points cued c (with_next cl b) ≡ points_from cued c (clusters_held cl) ++ points_where (cued b) (point_of c (place_in (gathered_with limits spare cl) b.tick) b)
  cluster_points-push limits spare c None b =
      append-nil (points_where (cued b) (point_of c (length (octets_of (timestamp_element b.tick))) b))
      ∙ ap (λ n. points_where (cued b) (point_of c n b)) (let n = length (octets_of (timestamp_element b.tick)) in let same : n ≡ n + 0 = omega arith in same)
  cluster_points-push limits spare c (Some x) b =
      points_in-push c x.timestamp (length (octets_of (timestamp_element x.timestamp))) x.blocks b
      ∙ ap (λ ps. ps ++ points_where (cued b) (point_of c (place_in (gathered_with limits spare (Some x)) b.tick) b)) (sym (append-nil (cluster_points cued c x)))

  pub points_from-append : (c : ℕ) (xs ys : List OutputCluster) → points_from cued c (xs ++ ys) ≡ points_from cued c xs ++ points_from cued (c + length (joined (clusters_elements xs))) ys
  points_from-append c [] ys = ap (λ n. points_from cued n ys) (let same : c ≡ c + 0 = omega arith in same)
  points_from-append c (x ∷ xs) ys =
      let one = length (octets_of (cluster_element x)) in
      let place : c + one + length (joined (clusters_elements xs)) ≡ c + length (joined (clusters_elements (x ∷ xs))) =
      omega (arith, length-append (octets_of (cluster_element x)) (joined (clusters_elements xs))) in
      ap (λ ps. cluster_points cued c x ++ ps) (points_from-append (c + one) xs ys ∙ ap (λ n. points_from cued (c + one) xs ++ points_from cued n ys) place)
      ∙ sym (append_assoc (cluster_points cued c x) (points_from cued (c + one) xs) (points_from cued (c + length (joined (clusters_elements (x ∷ xs)))) ys))

  -- The block joins the last Cluster.
  pub points_from-push : (limits : ClusterLimits) (spare c : ℕ) (xs : List OutputCluster) (cl : Option OutputCluster) (b : OutputBlock)
      → points_from cued c (xs ++ with_next cl b ∷ []) ≡ points_from cued c (xs ++ clusters_held cl) ++ points_where (cued b) (point_of (c + length (joined (clusters_elements xs))) (place_in (gathered_with limits spare cl) b.tick) b)
  points_from-push limits spare c xs cl b =
      let at = c + length (joined (clusters_elements xs)) in
      let point = points_where (cued b) (point_of at (place_in (gathered_with limits spare cl) b.tick) b) in
      points_from-append c xs (with_next cl b ∷ [])
      ∙ ap (λ ps. points_from cued c xs ++ ps) (append-nil (cluster_points cued at (with_next cl b)) ∙ cluster_points-push limits spare at cl b)
      ∙ sym (append_assoc (points_from cued c xs) (points_from cued at (clusters_held cl)) point)
      ∙ ap (λ ps. ps ++ point) (sym (points_from-append c xs (clusters_held cl)))

-- One more point is kept up to the limit.
pub kept-more : (most : ℕ) (ps old new : List CuePoint) (p : CuePoint) → old ≡ take most ps → (length old < most → new ≡ old ++ p ∷ []) → (most ≤ length old → new ≡ old) → new ≡ take most (ps ++ p ∷ [])
kept-more most ps old new p is added full = either (cases_lt (length ps) most)
  where
    either : (length ps < most) ⊎ (most ≤ length ps) → new ≡ take most (ps ++ p ∷ [])
    either (inl less) =
        let all = take_all most ps (omega (arith, less)) in
        added (omega (arith, ap length (is ∙ all), less)) ∙ ap (λ qs. qs ++ p ∷ []) (is ∙ all) ∙ sym (take_all most (ps ++ p ∷ []) (omega (arith, less, length_push ps p)))
    either (inr more) =
        full (omega (arith, ap length is, length-take-le most ps more)) ∙ is ∙ sym (take-append-le most ps (p ∷ []) more)
