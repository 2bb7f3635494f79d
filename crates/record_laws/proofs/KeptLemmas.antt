-- Elements that are the same are written as the same bytes.
use Rattle.std.proofs.Common.{◌≡◌, ℕ, ◌==◌, Bool, true, false, not, ◌&&◌, if◌then◌else◌, cond, List, [], ◌∷◌, ◌++◌, flat_map, refl, sym, ap, ap₂, ◌∙◌, append-nil, eqb-true}
use Rattle.std.specs.Str.{bytes_eq}
use Rattle.std.proofs.lemmas.Slice.Eq.{bytes_eq-Decides}
use Rattle.tree_format.specs.Node.{Node, Nodes, leaf, master, none, node, list_of, id_of, body_of, children}
use Rattle.tree_format.specs.NormalForm.{is_filler, kept_octets, octets, octets_all, content}
use Rattle.tree_format.proofs.NodeLemmas.{nodes-list, octets_all-flat}
use Rattle.tree_format.proofs.WrittenLemmas.{octets-kept}
use Rattle.track_records.specs.Same.{without_fillers, is_end, is_same, are_same}
use Rattle.record_laws.specs.Entries.{SameElementsAreWrittenAlike}
use Rattle.record_laws.proofs.StayLemmas.{octets-filler}

all-three : (a b c : Bool) → (a && b && c) ≡ true → (a ≡ true) × (b ≡ true) × (c ≡ true)
all-three true true true is = (refl, refl, refl)
all-three true true false is = absurd (cc)
all-three true false c is = absurd (cc)
all-three false b c is = absurd (cc)

-- Elements that aren't written have no bytes.
without-octets : (ns : List Node) → flat_map octets (without_fillers ns) ≡ flat_map octets ns
without-octets [] = refl
without-octets (n ∷ ns) = split (is_filler (id_of n)) (octets-filler n) (without-octets ns)
  where
    split : (f : Bool) → (f ≡ true → octets n ≡ []) → flat_map octets (without_fillers ns) ≡ flat_map octets ns
        → flat_map octets (cond (not f) (n ∷ without_fillers ns) (without_fillers ns)) ≡ octets n ++ flat_map octets ns
    split true nothing rest = rest ∙ ap (λ l. l ++ flat_map octets ns) (sym (nothing refl))
    split false nothing rest = ap (λ l. octets n ++ l) rest

-- The content of an Element is its data, or its children.
content-is : (n : Node) → content n ≡ body_of n ++ flat_map octets (children n)
content-is (leaf id at body) = sym (append-nil body)
content-is (master id at kids) = ap octets_all (sym (nodes-list kids)) ∙ octets_all-flat (list_of kids)

-- The same data, or the same children, make the same Element.
made-same : (id : ℕ) (body inside : List ℕ) (n : Node) (same : Bool) → (id == id_of n && bytes_eq body (body_of n) && same) ≡ true → (same ≡ true → inside ≡ flat_map octets (without_fillers (children n)))
    → kept_octets id (body ++ inside) ≡ octets n
made-same id body inside n same is rest =
    let three = all-three (id == id_of n) (bytes_eq body (body_of n)) same is in
    ap₂ (λ i l. kept_octets i (l ++ inside)) (eqb-true id (id_of n) three.0) ((bytes_eq-Decides body (body_of n)).0 three.1)
    ∙ ap (λ l. kept_octets (id_of n) (body_of n ++ l)) (rest three.2 ∙ without-octets (children n))
    ∙ ap (kept_octets (id_of n)) (sym (content-is n)) ∙ sym (octets-kept n)

end-octets : (ns : List Node) → is_end ns ≡ true → [] ≡ flat_map octets ns
end-octets [] is = refl
end-octets (n ∷ ns) is = absurd (cc)

leaf-same : (id at : ℕ) (body : List ℕ) (n : Node) → is_same (leaf id at body) n ≡ true → octets (leaf id at body) ≡ octets n
leaf-same id at body n is =
    ap (kept_octets id) (sym (append-nil body)) ∙ made-same id body [] n (is_end (without_fillers (children n))) is (end-octets (without_fillers (children n)))

master-same : (id at : ℕ) (kids : Nodes) (n : Node) → ((ns : List Node) → are_same kids ns ≡ true → octets_all kids ≡ flat_map octets ns) → is_same (master id at kids) n ≡ true → octets (master id at kids) ≡ octets n
master-same id at kids n each is = made-same id [] (octets_all kids) n (are_same kids (without_fillers (children n))) is (each (without_fillers (children n)))

-- ---- the children

step-end : (f rest : Bool) (written others : List ℕ) → (f && rest) ≡ true → (f ≡ true → written ≡ []) → (rest ≡ true → others ≡ []) → written ++ others ≡ []
step-end true true written others is nothing same = ap₂ (λ l m. l ++ m) (nothing refl) (same refl)
step-end true false written others is nothing same = absurd (cc)
step-end false rest written others is nothing same = absurd (cc)

step-next : (f passed same rest : Bool) (written others first behind : List ℕ) → (if f then passed else (same && rest)) ≡ true → (f ≡ true → written ≡ []) → (passed ≡ true → others ≡ first ++ behind)
    → (same ≡ true → written ≡ first) → (rest ≡ true → others ≡ behind) → written ++ others ≡ first ++ behind
step-next true passed same rest written others first behind is nothing pass one more = ap (λ l. l ++ others) (nothing refl) ∙ pass is
step-next false passed true true written others first behind is nothing pass one more = ap₂ (λ l m. l ++ m) (one refl) (more refl)
step-next false passed true false written others first behind is nothing pass one more = absurd (cc)
step-next false passed false rest written others first behind is nothing pass one more = absurd (cc)

all-same : (ms : Nodes) (ns : List Node) → are_same ms ns ≡ true → octets_all ms ≡ flat_map octets ns
all-same none ns is = end-octets ns is
all-same (node m ms) [] is = step-end (is_filler (id_of m)) (are_same ms []) (octets m) (octets_all ms) is (octets-filler m) (λ end. all-same ms [] end)
all-same (node (leaf id at body) ms) (n ∷ ns) is =
    step-next (is_filler id) (are_same ms (n ∷ ns)) (is_same (leaf id at body) n) (are_same ms ns) (octets (leaf id at body)) (octets_all ms) (octets n) (flat_map octets ns) is
    (octets-filler (leaf id at body)) (λ pass. all-same ms (n ∷ ns) pass) (leaf-same id at body n) (λ more. all-same ms ns more)
all-same (node (master id at kids) ms) (n ∷ ns) is =
    step-next (is_filler id) (are_same ms (n ∷ ns)) (is_same (master id at kids) n) (are_same ms ns) (octets (master id at kids)) (octets_all ms) (octets n) (flat_map octets ns) is
    (octets-filler (master id at kids)) (λ pass. all-same ms (n ∷ ns) pass) (master-same id at kids n (λ l same. all-same kids l same)) (λ more. all-same ms ns more)

pub written-alike : SameElementsAreWrittenAlike
written-alike (leaf id at body) b is = leaf-same id at body b is
written-alike (master id at kids) b is = master-same id at kids b (all-same kids) is
