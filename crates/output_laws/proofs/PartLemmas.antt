-- The Elements of a document: their IDs, and that they are valid if their sizes fit.
use Rattle.std.proofs.Common.{◌≡◌, ℕ, ◌-◌, ◌≤◌, ◌==◌, nat_le, Bool, true, false, if◌then◌else◌, List, [], ◌∷◌, ◌++◌, length, map, replicate, All, IfSome, Option, None, Some, refl, sym, ap, ◌∙◌, arith}
use Rattle.std.proofs.lemmas.Bool.{leb-true}
use Rattle.std.proofs.lemmas.List.{length-replicate}
use Rattle.std.proofs.lemmas.List.Elements.{All-nil, All-cons, All-head, All-tail, All-weaker}
use Rattle.ebml_numbers.specs.Number.{is_id, least_size_width}
use Rattle.ebml_numbers.proofs.WidthLemmas.{least_size_width-IsLeast}
use Rattle.mkv_schema.specs.declared.ids.TheConstants.{INFO, ATTACHMENTS, CLUSTER, CUES, VOID}
use Rattle.tree_format.specs.Node.{Node, id_of}
use Rattle.output_model.specs.Element.{Element, IsElement, void_element}
use Rattle.output_model.specs.declared.places.CuePoint.{CuePoint}
use Rattle.output_model.specs.Cluster.{OutputCluster, cluster_element}
use Rattle.output_model.specs.Cues.{cues_elements}
use Rattle.output_model.specs.Document.{tree_element, tree_elements, info_element, info_told, attachments_elements, clusters_elements}
use Rattle.output_model.specs.Sound.{IsRecord}
use Rattle.output_laws.specs.Places.{HasSize, IsOther}
use Rattle.output_laws.proofs.InfoLemmas.{told-id}

-- ---- lists of two parts

pub All-parts : {X : Type 0} (P : X → Type 0) (xs ys : List X) → All P (xs ++ ys) → All P xs × All P ys
All-parts P [] ys all = (All-nil P, all)
All-parts P (x ∷ xs) ys all =
    let parts = All-parts P xs ys (All-tail P x (xs ++ ys) all) in
    (All-cons P x xs (All-head P x (xs ++ ys) all) parts.0, parts.1)

-- ---- IDs

-- `e` is an Element with the ID `own` and the shortest header.
pub record IsShortest (own : ℕ) (e : Element) : Type 0 where
  pub id : e.id ≡ own
  pub width : e.width ≡ least_size_width (length e.body)

pub shortest-record : (own : ℕ) (n : Node) → IsRecord own n → IsShortest own (tree_element n)
shortest-record own n is = record { id = is.id; width = refl }

pub shortest-info : (info : Node) (lasting : Option ℕ) → IsRecord INFO (info_told info lasting) → IsShortest INFO (info_element info lasting)
shortest-info info lasting is = of lasting (sym (told-id info lasting) ∙ is.id)
  where
    of : (o : Option ℕ) → id_of info ≡ INFO → IsShortest INFO (info_element info o)
    of None own = record { id = own; width = refl }
    of (Some end) own = record { id = own; width = refl }

pub shortest-records : (own : ℕ) (n : Option Node) → IfSome n (IsRecord own) → All (IsShortest own) (tree_elements n)
shortest-records own None is = All-nil (IsShortest own)
shortest-records own (Some n) is = All-cons (IsShortest own) (tree_element n) [] (shortest-record own n is) (All-nil (IsShortest own))

pub shortest-attachments : (ns : List Node) → All (IsShortest ATTACHMENTS) (attachments_elements ns)
shortest-attachments [] = All-nil (IsShortest ATTACHMENTS)
shortest-attachments (n ∷ ns) = All-cons (IsShortest ATTACHMENTS) _ [] (record { id = refl; width = refl }) (All-nil (IsShortest ATTACHMENTS))

pub shortest-cues : (points : List CuePoint) → All (IsShortest CUES) (cues_elements points)
shortest-cues [] = All-nil (IsShortest CUES)
shortest-cues (point ∷ points) = All-cons (IsShortest CUES) _ [] (record { id = refl; width = refl }) (All-nil (IsShortest CUES))

pub shortest-clusters : (cs : List OutputCluster) → All (IsShortest CLUSTER) (clusters_elements cs)
shortest-clusters [] = All-nil (IsShortest CLUSTER)
shortest-clusters (c ∷ cs) = All-cons (IsShortest CLUSTER) (cluster_element c) (clusters_elements cs) (record { id = refl; width = refl }) (shortest-clusters cs)

-- the Element has another ID
abbrev pub IsNot : ℕ → Element → Type 0
IsNot id e = (e.id == id) ≡ false

pub not-shortest : (own id : ℕ) (e : Element) → (own == id) ≡ false → IsShortest own e → IsNot id e
not-shortest own id e differs is = ap (λ x. x == id) is.id ∙ differs

pub none-shortest : (own id : ℕ) (es : List Element) → (own == id) ≡ false → All (IsShortest own) es → All (IsNot id) es
none-shortest own id es differs are = All-weaker (IsShortest own) (IsNot id) (λ e is. not-shortest own id e differs is) es are

-- ---- Elements

IsElement-shortest : (own : ℕ) (e : Element) → is_id own ≡ true → IsShortest own e → HasSize e → IsElement e
IsElement-shortest own e valid is short =
    let least = least_size_width-IsLeast (length e.body) short in
    let width = is.width in
    let some = least.some in
    let most = least.most in
    record { id_stands = ap is_id is.id ∙ valid; some = omega arith; most = omega arith; fits = rw width least.fits }

-- An Element with the ID besides the Clusters.
pub other-shortest : (own : ℕ) (e : Element) → is_id own ≡ true → (own == CLUSTER) ≡ false → IsShortest own e → HasSize e → IsOther e
other-shortest own e valid differs is short = record { element = IsElement-shortest own e valid is short; other = not-shortest own CLUSTER e differs is }

pub others-shortest : (own : ℕ) (es : List Element) → is_id own ≡ true → (own == CLUSTER) ≡ false → All (IsShortest own) es → All HasSize es → All IsOther es
others-shortest own [] valid differs are short = All-nil IsOther
others-shortest own (e ∷ es) valid differs are short =
    All-cons IsOther e es (other-shortest own e valid differs (All-head (IsShortest own) e es are) (All-head HasSize e es short))
    (others-shortest own es valid differs (All-tail (IsShortest own) e es are) (All-tail HasSize e es short))

-- Records with one ID, in sequence.
pub records-are_elements : (own : ℕ) (ns : List Node) → is_id own ≡ true → All (IsRecord own) ns → All HasSize (map tree_element ns) → All IsElement (map tree_element ns)
records-are_elements own [] valid are short = All-nil IsElement
records-are_elements own (n ∷ ns) valid are short =
    All-cons IsElement (tree_element n) (map tree_element ns)
    (IsElement-shortest own (tree_element n) valid (shortest-record own n (All-head (IsRecord own) n ns are)) (All-head HasSize (tree_element n) (map tree_element ns) short))
    (records-are_elements own ns valid (All-tail (IsRecord own) n ns are) (All-tail HasSize (tree_element n) (map tree_element ns) short))

-- ---- a Void

pub void-id : (total : ℕ) → (void_element total).id ≡ VOID
void-id total = split (nat_le total 128)
  where
    split : (t : Bool) → (let e : Element = if t then record { id = VOID; width = 1; body = replicate (total - 2) 0 } else record { id = VOID; width = 8; body = replicate (total - 9) 0 } in e.id ≡ VOID)
    split true = refl
    split false = refl

pub void-other : (total : ℕ) → HasSize (void_element total) → IsOther (void_element total)
unfolding is_id
void-other total short = split (nat_le total 128) refl short
  where
    split : (t : Bool) → nat_le total 128 ≡ t → HasSize (if t then record { id = VOID; width = 1; body = replicate (total - 2) 0 } else record { id = VOID; width = 8; body = replicate (total - 9) 0 })
        → IsOther (if t then record { id = VOID; width = 1; body = replicate (total - 2) 0 } else record { id = VOID; width = 8; body = replicate (total - 9) 0 })
    split true is small =
        let few : total ≤ 128 = leb-true total 128 is in
        let long : length (replicate {A = ℕ} (total - 2) 0) ≡ total - 2 = length-replicate {A = ℕ} (total - 2) 0 in
        record { element = record { id_stands = refl; some = omega arith; most = omega arith; fits = omega arith }; other = refl }
    split false is small = record { element = record { id_stands = refl; some = omega arith; most = omega arith; fits = small }; other = refl }
