-- Events that are left after one turn of a walk.
use Rattle.std.proofs.Common.{◌≡◌, ℕ, ◌<◌, Bool, true, false, not, List, [], ◌∷◌, length, Some, None, Result, Ok, Err, refl, sym, ◌∙◌, ap, arith}
use Rattle.std.proofs.lemmas.Bool.{cond-true, cond-false}
use Rattle.mkv_io.specs.declared.damage.Damage.{Damage}
use Rattle.mkv_schema.specs.declared.element.Header.{Header}
use Rattle.mkv_schema.specs.Element.{in_master, element_at}
use Rattle.mkv_schema.specs.Elements.{id_of, ends_cluster}
use Rattle.block_format.specs.Elements.{Rules}
use Rattle.block_format.specs.Events.{damaged, stopped, found_at, events_of}
use Rattle.cluster_reader.specs.Left.{left, left_in, ends_children}
use Rattle.cluster_reader.specs.Places.{first_place, IsInCluster, behind_damage}
use Rattle.cluster_reader.specs.Reading.{damage_event}
use Rattle.cluster_reader.specs.declared.place.Place.{Place}
use Rattle.cluster_reader.specs.declared.place.OpenCluster.{OpenCluster}
use Rattle.cluster_reader.proofs.LeftLemmas.{left-end, left-gives_way, left-child_breaks, left-child_stops, left-bad, left-bad_stops}

-- At the first place all events are left.
pub left-first : (r : Rules) (bytes : List ℕ) (segment : Header) (total : ℕ) → total ≡ length bytes → left r bytes (first_place segment total) ≡ events_of r bytes segment
unfolding left events_of
left-first r bytes segment total whole = ap (λ n. left_in r bytes (first_place segment n) None) whole

-- Only in a Cluster of unknown size does an ID end the children.
ended : (unknown : Bool) (id : ℕ) → ends_children unknown id ≡ true → (unknown ≡ true) × (ends_cluster id ≡ true)
ended true id ends = (refl, ends)
ended false id ends = absurd (cc)

pub left-child_ends : (r : Rules) (bytes : List ℕ) (p q : Place) (c : OpenCluster) (found : Result Header Damage) → p.cluster ≡ Some c → p.at < c.end → found ≡ element_at in_master bytes p.at c.end → ends_children c.unknown (id_of found) ≡ true → q ≡ record p { cluster = None } → left r bytes p ≡ left r bytes q
left-child_ends r bytes p q c found inside before is ends moves =
    let both = ended c.unknown (id_of found) ends in
    left-gives_way r bytes p q c found inside before is both.0 both.1 moves

-- After damage the events after the Cluster are left if it is closed, otherwise none.
broken : (r : Rules) (bytes : List ℕ) (p : Place) (c : OpenCluster) (d : Damage) → ((q : Place) → c.closed ≡ true → q ≡ record p { at = c.end; cluster = None } → left r bytes p ≡ damaged d ∷ left r bytes q) → (c.closed ≡ false → left r bytes p ≡ stopped d ∷ []) → left r bytes p ≡ damage_event (not c.closed) d ∷ left r bytes (behind_damage p c)
broken r bytes p c d goes_on ends = split c.closed refl
  where
    q : Place
    q = behind_damage p c

    split : (closed : Bool) → c.closed ≡ closed → left r bytes p ≡ damage_event (not c.closed) d ∷ left r bytes q
    split true is =
        goes_on q is (ap (λ n. record p { at = n; cluster = None }) (cond-true c.closed _ _ is))
        ∙ ap (λ b. damage_event (not b) d ∷ left r bytes q) (sym is)
    split false is =
        let at : q.at ≡ p.end = cond-false c.closed _ _ is in
        let none = left-end r bytes q refl (omega arith) in
        ends is
        ∙ ap (λ l. stopped d ∷ l) (sym none)
        ∙ ap (λ b. damage_event (not b) d ∷ left r bytes q) (sym is)

-- Damage between children is taken.
pub left-child_damaged : (r : Rules) (bytes : List ℕ) (p : Place) (c : OpenCluster) (d : Damage) → p.cluster ≡ Some c → IsInCluster p.at p.end c → p.at < c.end → Err d ≡ element_at in_master bytes p.at c.end → ends_children c.unknown (id_of (Err d)) ≡ false → left r bytes p ≡ damage_event (not c.closed) d ∷ left r bytes (behind_damage p c)
left-child_damaged r bytes p c d inside place before is goes =
    broken r bytes p c d
    (λ q closed moves. left-child_breaks r bytes p q c d inside before is goes closed (place.closed closed) moves)
    (λ cut. left-child_stops r bytes p c d inside before is goes cut)

-- A damaged child is taken.
pub left-bad_child : (r : Rules) (bytes : List ℕ) (p : Place) (c : OpenCluster) (h : Header) (d : Damage) → p.cluster ≡ Some c → IsInCluster p.at p.end c → p.at < c.end → Ok h ≡ element_at in_master bytes p.at c.end → ends_children c.unknown (id_of (Ok h)) ≡ false → found_at r bytes c.timestamp h ≡ Err d ∷ [] → left r bytes p ≡ damage_event (not c.closed) d ∷ left r bytes (behind_damage p c)
left-bad_child r bytes p c h d inside place before is goes gives =
    broken r bytes p c d
    (λ q closed moves. left-bad r bytes p q c h d inside before is goes gives closed (place.closed closed) moves)
    (λ cut. left-bad_stops r bytes p c h d inside before is goes gives cut)
