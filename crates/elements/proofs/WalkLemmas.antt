-- The children of a Cluster of unknown size, one step at a time.
use Rattle.std.proofs.Common.{◌≡◌, ℕ, ◌<◌, ◌≤◌, true, false, if◌then◌else◌, List, Result, Ok, Err, ◌∙◌, ap, subst}
use Rattle.mkv_io.specs.declared.damage.Damage.{Damage}
use Rattle.mkv_schema.specs.declared.element.Header.{Header}
use Rattle.mkv_schema.specs.Element.{in_master, element_at, end_in}
use Rattle.mkv_schema.specs.Elements.{ends_at, step, id_of, ends_cluster, open_cluster}
use Rattle.mkv_schema.proofs.ElementsLemmas.{elements-end, elements-more, Advances-known}
use Rattle.elements.specs.Walk.{run_end, cluster_end}

-- At the parent's end the children end.
pub cluster_end-at_end : (bytes : List ℕ) (p e : ℕ) → e ≤ p → cluster_end bytes p e ≡ Ok p
cluster_end-at_end bytes p e past = ap run_end (elements-end in_master ends_cluster (λ h. Ok (end_in e h)) bytes p e past)

-- Before it, the Element or the damage that is found decides.
cluster_end-step : (bytes : List ℕ) (p e : ℕ) → p < e → cluster_end bytes p e ≡ run_end (if ends_cluster (id_of (element_at in_master bytes p e)) then ends_at p else step p (λ h. Ok (end_in e h)) (element_at in_master bytes p e) (λ q. open_cluster bytes q e))
cluster_end-step bytes p e inside =
    ap run_end (elements-more in_master ends_cluster (λ h. Ok (end_in e h)) bytes p e (Advances-known in_master bytes e) inside)

-- An ID of level 1 or 0 ends the children.
pub cluster_end-stops : (bytes : List ℕ) (p e : ℕ) (found : Result Header Damage) → p < e → found ≡ element_at in_master bytes p e → ends_cluster (id_of found) ≡ true → cluster_end bytes p e ≡ Ok p
cluster_end-stops bytes p e found inside is stops =
    cluster_end-step bytes p e inside
    ∙ ap (λ stop. run_end (if stop then ends_at p else step p (λ h. Ok (end_in e h)) (element_at in_master bytes p e) (λ q. open_cluster bytes q e)))
    (subst (λ (r : Result Header Damage). ends_cluster (id_of r) ≡ true) is stops)

-- A damage ends the children.
pub cluster_end-breaks : (bytes : List ℕ) (p e : ℕ) (d : Damage) → p < e → Err d ≡ element_at in_master bytes p e → ends_cluster (id_of (Err d)) ≡ false → cluster_end bytes p e ≡ Err d
cluster_end-breaks bytes p e d inside is goes =
    cluster_end-step bytes p e inside
    ∙ subst (λ (r : Result Header Damage). run_end (if ends_cluster (id_of r) then ends_at p else step p (λ h. Ok (end_in e h)) r (λ q. open_cluster bytes q e)) ≡ Err d) is
    (ap (λ stop. run_end (if stop then ends_at p else step p (λ h. Ok (end_in e h)) (Err d) (λ q. open_cluster bytes q e))) goes)

-- Any other Element is one of the children.
pub cluster_end-goes_on : (bytes : List ℕ) (p e : ℕ) (h : Header) → p < e → Ok h ≡ element_at in_master bytes p e → ends_cluster (id_of (Ok h)) ≡ false → cluster_end bytes p e ≡ cluster_end bytes (end_in e h) e
cluster_end-goes_on bytes p e h inside is goes =
    cluster_end-step bytes p e inside
    ∙ subst (λ (r : Result Header Damage). run_end (if ends_cluster (id_of r) then ends_at p else step p (λ c. Ok (end_in e c)) r (λ q. open_cluster bytes q e)) ≡ cluster_end bytes (end_in e h) e) is
    (ap (λ stop. run_end (if stop then ends_at p else step p (λ c. Ok (end_in e c)) (Ok h) (λ q. open_cluster bytes q e))) goes)

-- The laws on the end of the children, by the Element or damage that is found.
pub ruleset ends = (cluster_end-at_end, cluster_end-stops, cluster_end-breaks, cluster_end-goes_on)
