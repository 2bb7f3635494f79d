-- The bytes of a document depend only on the bytes of its records.
use Rattle.std.proofs.Common.{◌≡◌, ℕ, ◌+◌, Bool, cond, List, [], ◌∷◌, ◌++◌, length, map, Option, None, Some, refl, sym, ap, ap₂, ◌∙◌, subst}
use Rattle.std.specs.List.{AllZip}
use Rattle.mkv_schema.specs.declared.ids.TheConstants.{ATTACHMENTS}
use Rattle.tree_format.specs.Node.{Node}
use Rattle.tree_format.proofs.WrittenLemmas.{octets-kept}
use Rattle.tree_format.specs.NormalForm.{is_filler}
use Rattle.output_model.specs.Element.{Element, element, octets_of, joined}
use Rattle.output_model.specs.declared.TheConstants.{AREA}
use Rattle.output_model.specs.declared.places.CuePoint.{CuePoint}
use Rattle.output_model.specs.declared.places.Seek.{Seek}
use Rattle.output_model.specs.Cluster.{OutputCluster}
use Rattle.output_model.specs.Cues.{cues_elements}
use Rattle.output_model.specs.SeekHead.{area_elements, seeks_from}
use Rattle.output_model.specs.Document.{info_element, Front, attachments_elements, back_at, back_elements, clusters_elements, elements_behind_area, file_with, front_elements, segment_size, seeks_of, tree_element, tree_elements}
use Rattle.remerge_laws.specs.Alike.{AlikeDocumentsAreOne, AreAlike, MayBeAlike}

-- ---- Elements that are written alike

record IsSame (a b : Element) : Type 0 where
  id : a.id ≡ b.id
  octets_are : octets_of a ≡ octets_of b

abbrev AreSame : List Element → List Element → Type 0
AreSame = AllZip IsSame

same-itself : (es : List Element) → AreSame es es
same-itself [] = tt
same-itself (e ∷ es) = (record { id = refl; octets_are = refl }, same-itself es)

same-append : (xs ys cs ds : List Element) → AreSame xs ys → AreSame cs ds → AreSame (xs ++ cs) (ys ++ ds)
same-append [] [] cs ds one two = two
same-append (a ∷ xs) (b ∷ ys) cs ds one two = (one.0, same-append xs ys cs ds one.1 two)
same-append _ _ _ _ one _ = absurd one

joined-same : (xs ys : List Element) → AreSame xs ys → joined xs ≡ joined ys
joined-same [] [] are = refl
joined-same (a ∷ xs) (b ∷ ys) are = ap₂ (λ (x y : List ℕ). x ++ y) are.0.octets_are (joined-same xs ys are.1)
joined-same _ _ are = absurd are

seeks-same : (p : ℕ) (xs ys : List Element) → AreSame xs ys → seeks_from p xs ≡ seeks_from p ys
seeks-same p [] [] are = refl
seeks-same p (a ∷ xs) (b ∷ ys) are =
    ap₂ (λ (i : ℕ) (o : List ℕ). let s : Seek = record { id = i; position = p } in s ∷ seeks_from (p + length o) xs) are.0.id are.0.octets_are
    ∙ ap (λ (l : List Seek). let s : Seek = record { id = b.id; position = p } in s ∷ l) (seeks-same (p + length (octets_of b)) xs ys are.1)
seeks-same _ _ _ are = absurd are

-- ---- Elements of a document

tree-octets : (m n : Node) → AreAlike m n → octets_of (tree_element m) ≡ octets_of (tree_element n)
tree-octets m n alike =
    sym (octets-kept m ∙ ap (λ (t : Bool). cond t [] (octets_of (tree_element m))) alike.some)
    ∙ alike.same
    ∙ octets-kept n ∙ ap (λ (t : Bool). cond t [] (octets_of (tree_element n))) (ap is_filler (sym alike.id) ∙ alike.some)

tree-same : (m n : Node) → AreAlike m n → IsSame (tree_element m) (tree_element n)
tree-same m n alike = record { id = alike.id; octets_are = tree-octets m n alike }

trees-same : (ms ns : List Node) → AllZip AreAlike ms ns → AreSame (map tree_element ms) (map tree_element ns)
trees-same [] [] are = tt
trees-same (m ∷ ms) (n ∷ ns) are = (tree-same m n are.0, trees-same ms ns are.1)
trees-same _ _ are = absurd are

may-same : (o p : Option Node) → MayBeAlike o p → AreSame (tree_elements o) (tree_elements p)
may-same None None alike = tt
may-same None (Some n) alike = absurd alike
may-same (Some m) None alike = absurd alike
may-same (Some m) (Some n) alike = (tree-same m n alike, tt)

attachments-same : (ms ns : List Node) → AllZip AreAlike ms ns → AreSame (attachments_elements ms) (attachments_elements ns)
attachments-same [] [] are = tt
attachments-same (m ∷ ms) (n ∷ ns) are = (
  record {
    id = refl;
    octets_are = ap (λ (o : List ℕ). octets_of (element ATTACHMENTS o)) (joined-same (map tree_element (m ∷ ms)) (map tree_element (n ∷ ns)) (trees-same (m ∷ ms) (n ∷ ns) are));
  },
  tt,
)
attachments-same _ _ are = absurd are

-- An Info without a Duration.
info-same : (f g : Front) → f.lasting ≡ None → g.lasting ≡ None → AreAlike f.info g.info → IsSame (info_element f.info f.lasting) (info_element g.info g.lasting)
info-same f g none none_too alike =
    subst (λ (e : Element). IsSame e (info_element g.info g.lasting)) (sym (ap (info_element f.info) none))
    (subst (IsSame (tree_element f.info)) (sym (ap (info_element g.info) none_too)) (tree-same f.info g.info alike))

-- The Elements before the Clusters.
pub fronts-same : (f g : Front) → f.lasting ≡ None → g.lasting ≡ None → AreAlike f.info g.info → AreAlike f.tracks g.tracks → AllZip AreAlike f.attachments g.attachments → joined (front_elements f) ≡ joined (front_elements g)
fronts-same f g none none_too info tracks files =
    joined-same (front_elements f) (front_elements g) (info-same f g none none_too info, (tree-same f.tracks g.tracks tracks, attachments-same f.attachments g.attachments files))

-- the bytes of a file, by the Elements after the area and the Seeks
abbrev laid : Bool → List Seek → List ℕ → List ℕ
laid webm seeks rest = file_with webm (segment_size (length rest)) (area_elements seeks) rest

pub alike-one : AlikeDocumentsAreOne
alike-one d e alike =
    let one : List Element = front_elements d.front in
    let two : List Element = front_elements e.front in
    let middle : List Element = clusters_elements d.clusters in
    let middle_too : List Element = clusters_elements e.clusters in
    let back : List Element = back_elements d in
    let back_too : List Element = back_elements e in
    let fronts : AreSame one two =
    (info-same d.front e.front alike.lasting alike.lasting_too alike.info, (tree-same d.front.tracks e.front.tracks alike.tracks, attachments-same d.front.attachments e.front.attachments alike.attachments)) in
    let middles : AreSame middle middle_too = subst (λ (cs : List OutputCluster). AreSame middle (clusters_elements cs)) alike.clusters (same-itself middle) in
    let cues : AreSame (cues_elements d.cues) (cues_elements e.cues) = subst (λ (ps : List CuePoint). AreSame (cues_elements d.cues) (cues_elements ps)) alike.cues (same-itself (cues_elements d.cues)) in
    let ends : AreSame (tree_elements d.chapters ++ tree_elements d.tags) (tree_elements e.chapters ++ tree_elements e.tags) =
    same-append (tree_elements d.chapters) (tree_elements e.chapters) (tree_elements d.tags) (tree_elements e.tags) (may-same d.chapters e.chapters alike.chapters) (may-same d.tags e.tags alike.tags) in
    let backs : AreSame back back_too =
    same-append (cues_elements d.cues) (cues_elements e.cues) (tree_elements d.chapters ++ tree_elements d.tags) (tree_elements e.chapters ++ tree_elements e.tags) cues ends in
    let rest : joined (elements_behind_area d) ≡ joined (elements_behind_area e) =
    joined-same (elements_behind_area d) (elements_behind_area e) (same-append one two (middle ++ back) (middle_too ++ back_too) fronts (same-append middle middle_too back back_too middles backs)) in
    let place : back_at d ≡ back_at e = ap₂ (λ (x y : List ℕ). AREA + length x + length y) (joined-same one two fronts) (joined-same middle middle_too middles) in
    let seeks : seeks_of d ≡ seeks_of e =
    ap₂ (λ (x y : List Seek). x ++ y) (seeks-same AREA one two fronts) (ap (λ (p : ℕ). seeks_from p back) place ∙ seeks-same (back_at e) back back_too backs) in
    ap (λ (webm : Bool). laid webm (seeks_of d) (joined (elements_behind_area d))) alike.webm
    ∙ ap₂ (λ (s : List Seek) (r : List ℕ). laid e.front.webm s r) seeks rest
