-- Events that are left of a file, one element at a time.
use Rattle.std.proofs.Common.{eq-eqb, ◌≡◌, ℕ, ◌<◌, ◌≤◌, ◌==◌, nat_le, Bool, true, false, not, ◌&&◌, if◌then◌else◌, List, [], ◌∷◌, ◌++◌, length, Option, Some, None, Result, Ok, Err, refl, sym, ◌∙◌, ap, arith}
use Rattle.std.proofs.lemmas.Bool.{cond-true, cond-false}
use Rattle.std.proofs.lemmas.Bool.Decides.{nat_tests}
use Rattle.mkv_schema.specs.declared.ids.TheConstants.{CLUSTER, TIMESTAMP}
use Rattle.mkv_io.specs.declared.damage.Damage.{Damage}
use Rattle.mkv_schema.specs.declared.element.Header.{Header}
use Rattle.mkv_schema.specs.Element.{in_segment, in_master, element_at, end_in, stated_end, is_unknown}
use Rattle.mkv_schema.specs.Elements.{Run, ends_at, breaks_at, in_front, step, id_of, ends_segment, ends_cluster, end_of_run, behind_in_segment, children_in, open_cluster, level_1}
use Rattle.mkv_schema.proofs.ElementsLemmas.{elements-end, elements-more, Advances-known}
use Rattle.elements.proofs.LevelOneLemmas.{level_1-end, level_1-stops, level_1-breaks, level_1-goes_on}
use Rattle.block_format.specs.Block.{Block}
use Rattle.block_format.specs.Elements.{Rules}
use Rattle.block_format.specs.Events.{Event, Found, block, damaged, stopped, found_at, found_among, found_in_run, found_behind, timestamp_behind, is_closed, events_then, events_in_run}
use Rattle.cluster_reader.specs.Left.{left, left_in, left_inside, left_at_level_1, place_behind, ends_children, children_from}
use Rattle.cluster_reader.specs.declared.place.Place.{Place}
use Rattle.cluster_reader.specs.declared.place.OpenCluster.{OpenCluster}

-- Outside Clusters, the elements of level 1 decide.
outside_is : (r : Rules) (bytes : List ℕ) (p : Place) (run : Run) → p.cluster ≡ None → level_1 bytes p.size p.at p.end ≡ run → left r bytes p ≡ events_in_run r bytes p.end run
unfolding left
outside_is r bytes p run outside is = ap (left_in r bytes p) outside ∙ ap (events_in_run r bytes p.end) is

-- Inside a Cluster, its children decide first.
inside_is : (r : Rules) (bytes : List ℕ) (p : Place) (c : OpenCluster) (run : Run) → p.cluster ≡ Some c → children_from bytes p.at c ≡ run → left r bytes p ≡ left_inside r bytes p.size p.end c run
unfolding left
inside_is r bytes p c run inside is = ap (left_in r bytes p) inside ∙ ap (left_inside r bytes p.size p.end c) is

-- ---- at level 1

-- At the Segment's end nothing is left.
pub left-end : (r : Rules) (bytes : List ℕ) (p : Place) → p.cluster ≡ None → p.end ≤ p.at → left r bytes p ≡ []
left-end r bytes p outside past = outside_is r bytes p (ends_at p.at) outside (level_1-end bytes p.size p.at p.end past)

-- An ID of level 0 ends a Segment of unknown size.
pub left-stops : (r : Rules) (bytes : List ℕ) (p : Place) (found : Result Header Damage) → p.cluster ≡ None → p.at < p.end → found ≡ element_at in_segment bytes p.at p.end → ends_segment p.size (id_of found) ≡ true → left r bytes p ≡ []
left-stops r bytes p found outside inside is stops = outside_is r bytes p (ends_at p.at) outside (level_1-stops bytes p.size p.at p.end found inside is stops)

-- Damage at level 1 ends the reading.
pub left-breaks : (r : Rules) (bytes : List ℕ) (p : Place) (d : Damage) → p.cluster ≡ None → p.at < p.end → Err d ≡ element_at in_segment bytes p.at p.end → ends_segment p.size (id_of (Err d)) ≡ false → left r bytes p ≡ stopped d ∷ []
left-breaks r bytes p d outside inside is goes = outside_is r bytes p (breaks_at p.at d) outside (level_1-breaks bytes p.size p.at p.end (Err d) d refl inside is goes)

-- Another element is skipped.
pub left-skips : (r : Rules) (bytes : List ℕ) (p q : Place) (h : Header) → p.cluster ≡ None → p.at < p.end → Ok h ≡ element_at in_segment bytes p.at p.end → ends_segment p.size (id_of (Ok h)) ≡ false → (h.id ≡ CLUSTER → ⊥) → is_unknown h.size ≡ false → q ≡ record p { at = end_in p.end h } → left r bytes p ≡ left r bytes q
unfolding left
left-skips r bytes p q h outside inside is goes other known moves =
    let next : Ok (end_in p.end h) ≡ behind_in_segment bytes p.end h = sym (cond-false (is_unknown h.size) _ _ known) in
    let test : (h.id == CLUSTER) ≡ false = grind (arith, nat_tests) in
    outside_is r bytes p _ outside (level_1-goes_on bytes p.size p.at p.end (Ok h) h (Ok (end_in p.end h)) refl inside is goes next)
    ∙ cond-false (h.id == CLUSTER) _ _ test
    ∙ sym (ap (left r bytes) moves ∙ ap (left_in r bytes (record p { at = end_in p.end h })) outside)

-- a Cluster that is entered, in a file of `total` bytes
abbrev entered_cluster : Place → Header → ℕ → Bool → OpenCluster
entered_cluster p h total unknown = record {
  end = if unknown then p.end else end_in p.end h;
  closed = not unknown && nat_le (stated_end h) total;
  unknown = unknown;
  timestamp = None;
}

abbrev entered_left : Rules → List ℕ → Place → Header → ℕ → Bool → List Event
entered_left r bytes p h total unknown =
    let c = entered_cluster p h total unknown in
    left_inside r bytes p.size p.end c (children_from bytes h.body c)

-- the events of a Cluster, and `rest` after it
abbrev given_then : Rules → List ℕ → ℕ → Header → List Event → Bool → List Event
given_then r bytes e h rest unknown =
    events_then (not unknown && nat_le (stated_end h) (length bytes))
    (found_in_run r bytes None (if unknown then open_cluster bytes h.body e else children_in in_master bytes h.body (end_in e h)))
    rest

-- A Cluster is next, then the elements after it.
cluster_left : (r : Rules) (bytes : List ℕ) (p : Place) (h : Header) (run : Run) (unknown : Bool) → p.cluster ≡ None → level_1 bytes p.size p.at p.end ≡ in_front h run → h.id ≡ CLUSTER → is_unknown h.size ≡ unknown → left r bytes p ≡ given_then r bytes p.end h (events_in_run r bytes p.end run) unknown
cluster_left r bytes p h run unknown outside is cluster sized =
    outside_is r bytes p (in_front h run) outside is
    ∙ cond-true (h.id == CLUSTER) _ _ (eq-eqb h.id CLUSTER cluster)
    ∙ ap (given_then r bytes p.end h (events_in_run r bytes p.end run)) sized

-- Events after damage don't matter if it ends the reading.
events_then-stopped : (found : List Found) (d : Damage) (one other : List Event) → events_then false (found ++ Err d ∷ []) one ≡ events_then false (found ++ Err d ∷ []) other
events_then-stopped [] d one other = refl
events_then-stopped (Ok b ∷ found) d one other = ap (λ events. block b ∷ events) (events_then-stopped found d one other)
events_then-stopped (Err wrong ∷ found) d one other = refl

-- Entering a Cluster keeps the events that are left.
entered : (r : Rules) (bytes : List ℕ) (p : Place) (h : Header) (unknown : Bool) → p.cluster ≡ None → p.at < p.end → Ok h ≡ element_at in_segment bytes p.at p.end → ends_segment p.size (id_of (Ok h)) ≡ false → h.id ≡ CLUSTER → is_unknown h.size ≡ unknown → left r bytes p ≡ entered_left r bytes p h (length bytes) (is_unknown h.size)
entered r bytes p h false outside inside is goes cluster sized =
    let next : Ok (end_in p.end h) ≡ behind_in_segment bytes p.end h = sym (cond-false (is_unknown h.size) _ _ sized) in
    cluster_left r bytes p h _ false outside (level_1-goes_on bytes p.size p.at p.end (Ok h) h (Ok (end_in p.end h)) refl inside is goes next) cluster sized
    ∙ sym (ap (entered_left r bytes p h (length bytes)) sized)
entered r bytes p h true outside inside is goes cluster sized = by_damage children.damage refl
  where
    children : Run
    children = open_cluster bytes h.body p.end

    next : (wrong : Option Damage) → children.damage ≡ wrong → end_of_run children wrong ≡ behind_in_segment bytes p.end h
    next wrong damage = sym (cond-true (is_unknown h.size) _ _ sized ∙ ap (end_of_run children) damage)

    by_damage : (wrong : Option Damage) → children.damage ≡ wrong → left r bytes p ≡ entered_left r bytes p h (length bytes) (is_unknown h.size)
    by_damage None damage =
        cluster_left r bytes p h _ true outside (level_1-goes_on bytes p.size p.at p.end (Ok h) h (Ok children.end) refl inside is goes (next None damage)) cluster sized
        ∙ sym (ap (entered_left r bytes p h (length bytes)) sized)
    by_damage (Some d) damage =
        cluster_left r bytes p h _ true outside (level_1-goes_on bytes p.size p.at p.end (Ok h) h (Err d) refl inside is goes (next (Some d) damage)) cluster sized
        ∙ ap (λ wrong. events_then false (found_among r bytes None children.list ++ found_behind wrong) (stopped d ∷ [])) damage
        ∙ events_then-stopped (found_among r bytes None children.list) d (stopped d ∷ []) (left_at_level_1 r bytes p.size children.end p.end)
        ∙ ap (λ wrong. events_then false (found_among r bytes None children.list ++ found_behind wrong) (left_at_level_1 r bytes p.size children.end p.end)) (sym damage)
        ∙ sym (ap (entered_left r bytes p h (length bytes)) sized)

-- A Cluster is entered.
pub left-enters : (r : Rules) (bytes : List ℕ) (p q : Place) (h : Header) (total : ℕ) → total ≡ length bytes → p.cluster ≡ None → p.at < p.end → Ok h ≡ element_at in_segment bytes p.at p.end → ends_segment p.size (id_of (Ok h)) ≡ false → h.id ≡ CLUSTER
    → q ≡ record p { at = h.body; cluster = Some (record { end = if is_unknown h.size then p.end else end_in p.end h; closed = is_closed total h; unknown = is_unknown h.size; timestamp = None }) } → left r bytes p ≡ left r bytes q
unfolding left
left-enters r bytes p q h total whole outside inside is goes cluster moves =
    entered r bytes p h (is_unknown h.size) outside inside is goes cluster refl
    ∙ ap (λ n. entered_left r bytes p h n (is_unknown h.size)) (sym whole)
    ∙ sym (ap (left r bytes) moves)

-- ---- inside a Cluster

-- At the Cluster's end no child is left.
children-end : (bytes : List ℕ) (at : ℕ) (c : OpenCluster) → c.end ≤ at → children_from bytes at c ≡ ends_at at
children-end bytes at c past = elements-end in_master (ends_children c.unknown) (λ h. Ok (end_in c.end h)) bytes at c.end past

-- the children from the offset `at` on, given the element or damage there
at_place : List ℕ → ℕ → OpenCluster → Result Header Damage → Run
at_place bytes at c found = if ends_children c.unknown (id_of found) then ends_at at else step at (λ h. Ok (end_in c.end h)) found (λ q. children_from bytes q c)

children-step : (bytes : List ℕ) (at : ℕ) (c : OpenCluster) (found : Result Header Damage) → at < c.end → found ≡ element_at in_master bytes at c.end → children_from bytes at c ≡ at_place bytes at c found
unfolding at_place
children-step bytes at c found earlier is =
    elements-more in_master (ends_children c.unknown) (λ h. Ok (end_in c.end h)) bytes at c.end (Advances-known in_master bytes c.end) earlier
    ∙ ap (at_place bytes at c) (sym is)

-- An ID of level 1 or 0 ends the children.
children-stops : (bytes : List ℕ) (at : ℕ) (c : OpenCluster) (found : Result Header Damage) → at < c.end → found ≡ element_at in_master bytes at c.end → ends_children c.unknown (id_of found) ≡ true → children_from bytes at c ≡ ends_at at
unfolding at_place
children-stops bytes at c found earlier is stops = children-step bytes at c found earlier is ∙ cond-true (ends_children c.unknown (id_of found)) _ _ stops

-- Damage ends the children.
children-breaks : (bytes : List ℕ) (at : ℕ) (c : OpenCluster) (d : Damage) → at < c.end → Err d ≡ element_at in_master bytes at c.end → ends_children c.unknown (id_of (Err d)) ≡ false → children_from bytes at c ≡ breaks_at at d
unfolding at_place
children-breaks bytes at c d earlier is goes = children-step bytes at c (Err d) earlier is ∙ cond-false (ends_children c.unknown d.id) _ _ goes

-- A child is followed by the rest.
children-goes_on : (bytes : List ℕ) (at : ℕ) (c : OpenCluster) (h : Header) → at < c.end → Ok h ≡ element_at in_master bytes at c.end → ends_children c.unknown (id_of (Ok h)) ≡ false → children_from bytes at c ≡ in_front h (children_from bytes (end_in c.end h) c)
unfolding at_place
children-goes_on bytes at c h earlier is goes = children-step bytes at c (Ok h) earlier is ∙ cond-false (ends_children c.unknown h.id) _ _ goes

-- the events that are left, given a child's events
abbrev after_child : Rules → List ℕ → Place → OpenCluster → Header → List Found → List Event
after_child r bytes p c h found =
    let run = children_from bytes (end_in c.end h) c in
    events_then c.closed ((found ++ found_among r bytes (timestamp_behind bytes c.timestamp h) run.list) ++ found_behind run.damage)
    (left_at_level_1 r bytes p.size (place_behind c run) p.end)

-- Only the first Timestamp changes the Cluster's Timestamp.
timestamp-same : (bytes : List ℕ) (timestamp : Option ℕ) (h : Header) → (h.id ≡ TIMESTAMP → ⊥) → timestamp_behind bytes timestamp h ≡ timestamp
timestamp-same bytes (Some ticks) h other = refl
timestamp-same bytes None h other =
    let test : (h.id == TIMESTAMP) ≡ false = grind (arith, nat_tests) in
    cond-false (h.id == TIMESTAMP) _ _ test

-- After damage the reading continues at the Cluster's end.
breaks_closed : (r : Rules) (bytes : List ℕ) (p q : Place) (c : OpenCluster) (d : Damage) (found : List Found) (end : ℕ) → c.closed ≡ true → c.unknown ≡ false → q ≡ record p { at = c.end; cluster = None } → events_then c.closed (Err d ∷ found) (left_at_level_1 r bytes p.size (if c.unknown then end else c.end) p.end) ≡ damaged d ∷ left r bytes q
unfolding left
breaks_closed r bytes p q c d found end closed known moves =
    cond-true c.closed _ _ closed
    ∙ ap (λ at. damaged d ∷ left_at_level_1 r bytes p.size at p.end) (cond-false c.unknown end c.end known)
    ∙ sym (ap (λ l. damaged d ∷ left r bytes l) moves)

-- At its end a Cluster is left.
pub left-leaves : (r : Rules) (bytes : List ℕ) (p q : Place) (c : OpenCluster) → p.cluster ≡ Some c → p.at ≡ c.end → q ≡ record p { at = c.end; cluster = None } → left r bytes p ≡ left r bytes q
unfolding left
left-leaves r bytes p q c inside past moves =
    inside_is r bytes p c (ends_at p.at) inside (children-end bytes p.at c (omega arith))
    ∙ ap (λ at. left_at_level_1 r bytes p.size at p.end) (behind c.unknown)
    ∙ sym (ap (left r bytes) moves)
  where
    behind : (unknown : Bool) → (if unknown then p.at else c.end) ≡ c.end
    behind true = past
    behind false = refl

-- A Cluster of unknown size is left before an ID of level 1 or 0.
pub left-gives_way : (r : Rules) (bytes : List ℕ) (p q : Place) (c : OpenCluster) (found : Result Header Damage) → p.cluster ≡ Some c → p.at < c.end → found ≡ element_at in_master bytes p.at c.end → c.unknown ≡ true → ends_cluster (id_of found) ≡ true → q ≡ record p { cluster = None } → left r bytes p ≡ left r bytes q
unfolding left
left-gives_way r bytes p q c found inside earlier is unknown stops moves =
    let ends : ends_children c.unknown (id_of found) ≡ true = ap (λ u. ends_children u (id_of found)) unknown ∙ stops in
    inside_is r bytes p c (ends_at p.at) inside (children-stops bytes p.at c found earlier is ends)
    ∙ ap (λ at. left_at_level_1 r bytes p.size at p.end) (cond-true c.unknown p.at c.end unknown)
    ∙ sym (ap (left r bytes) moves)

-- After damage between children the reading continues after a closed Cluster.
pub left-child_breaks : (r : Rules) (bytes : List ℕ) (p q : Place) (c : OpenCluster) (d : Damage) → p.cluster ≡ Some c → p.at < c.end → Err d ≡ element_at in_master bytes p.at c.end → ends_children c.unknown (id_of (Err d)) ≡ false → c.closed ≡ true → c.unknown ≡ false → q ≡ record p { at = c.end; cluster = None } → left r bytes p ≡ damaged d ∷ left r bytes q
unfolding left
left-child_breaks r bytes p q c d inside earlier is goes closed known moves =
    inside_is r bytes p c (breaks_at p.at d) inside (children-breaks bytes p.at c d earlier is goes)
    ∙ breaks_closed r bytes p q c d [] p.at closed known moves

-- After damage between children the reading ends if the Cluster isn't closed.
pub left-child_stops : (r : Rules) (bytes : List ℕ) (p : Place) (c : OpenCluster) (d : Damage) → p.cluster ≡ Some c → p.at < c.end → Err d ≡ element_at in_master bytes p.at c.end → ends_children c.unknown (id_of (Err d)) ≡ false → c.closed ≡ false → left r bytes p ≡ stopped d ∷ []
left-child_stops r bytes p c d inside earlier is goes open_cluster =
    inside_is r bytes p c (breaks_at p.at d) inside (children-breaks bytes p.at c d earlier is goes)
    ∙ cond-false c.closed _ _ open_cluster

-- A child without an event is passed; it may be the first Timestamp.
pub left-passes : (r : Rules) (bytes : List ℕ) (p q : Place) (c : OpenCluster) (h : Header) → p.cluster ≡ Some c → p.at < c.end → Ok h ≡ element_at in_master bytes p.at c.end → ends_children c.unknown (id_of (Ok h)) ≡ false → found_at r bytes c.timestamp h ≡ [] → q ≡ record p { at = end_in c.end h; cluster = Some (record c { timestamp = timestamp_behind bytes c.timestamp h }) } → left r bytes p ≡ left r bytes q
unfolding left
left-passes r bytes p q c h inside earlier is goes nothing moves =
    inside_is r bytes p c _ inside (children-goes_on bytes p.at c h earlier is goes)
    ∙ ap (λ found. after_child r bytes p c h found) nothing
    ∙ sym (ap (left r bytes) moves)

-- A block is taken.
pub left-block : (r : Rules) (bytes : List ℕ) (p q : Place) (c : OpenCluster) (h : Header) (b : Block) → p.cluster ≡ Some c → p.at < c.end → Ok h ≡ element_at in_master bytes p.at c.end → ends_children c.unknown (id_of (Ok h)) ≡ false → (h.id ≡ TIMESTAMP → ⊥) → found_at r bytes c.timestamp h ≡ Ok b ∷ [] → q ≡ record p { at = end_in c.end h } → left r bytes p ≡ block b ∷ left r bytes q
unfolding left
left-block r bytes p q c h b inside earlier is goes other gives moves =
    inside_is r bytes p c _ inside (children-goes_on bytes p.at c h earlier is goes)
    ∙ ap (λ found. after_child r bytes p c h found) gives
    ∙ ap (λ t. block b ∷ left_inside r bytes p.size p.end (record c { timestamp = t }) (children_from bytes (end_in c.end h) c)) (timestamp-same bytes c.timestamp h other)
    ∙ sym (ap (λ l. block b ∷ left r bytes l) moves ∙ ap (λ i. block b ∷ left_in r bytes (record p { at = end_in c.end h }) i) inside)

-- After a damaged child the reading continues after a closed Cluster.
pub left-bad : (r : Rules) (bytes : List ℕ) (p q : Place) (c : OpenCluster) (h : Header) (d : Damage) → p.cluster ≡ Some c → p.at < c.end → Ok h ≡ element_at in_master bytes p.at c.end → ends_children c.unknown (id_of (Ok h)) ≡ false → found_at r bytes c.timestamp h ≡ Err d ∷ [] → c.closed ≡ true → c.unknown ≡ false → q ≡ record p { at = c.end; cluster = None } → left r bytes p ≡ damaged d ∷ left r bytes q
unfolding left
left-bad r bytes p q c h d inside earlier is goes gives closed known moves =
    let run = children_from bytes (end_in c.end h) c in
    inside_is r bytes p c _ inside (children-goes_on bytes p.at c h earlier is goes)
    ∙ ap (λ found. after_child r bytes p c h found) gives
    ∙ breaks_closed r bytes p q c d (found_among r bytes (timestamp_behind bytes c.timestamp h) run.list ++ found_behind run.damage) run.end closed known moves

-- After a damaged child the reading ends if the Cluster isn't closed.
pub left-bad_stops : (r : Rules) (bytes : List ℕ) (p : Place) (c : OpenCluster) (h : Header) (d : Damage) → p.cluster ≡ Some c → p.at < c.end → Ok h ≡ element_at in_master bytes p.at c.end → ends_children c.unknown (id_of (Ok h)) ≡ false → found_at r bytes c.timestamp h ≡ Err d ∷ [] → c.closed ≡ false → left r bytes p ≡ stopped d ∷ []
left-bad_stops r bytes p c h d inside earlier is goes gives open_cluster =
    inside_is r bytes p c _ inside (children-goes_on bytes p.at c h earlier is goes)
    ∙ ap (λ found. after_child r bytes p c h found) gives
    ∙ cond-false c.closed _ _ open_cluster
