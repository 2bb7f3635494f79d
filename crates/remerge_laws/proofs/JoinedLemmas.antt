-- Tags that were written are written unchanged with the identifiers of their targets.
use Rattle.std.proofs.Common.{◌≡◌, ℕ, ◌<◌, ◌^◌, ◌==◌, nat_lt, Bool, true, false, ◌&&◌, if◌then◌else◌, List, [], ◌∷◌, ◌++◌, map, filter, flat_map, All, IfSome, Option, None, Some, refl, sym, ap, ap₂, ◌∙◌, subst, inl, inr, slice_index_or}
use Rattle.std.proofs.lemmas.Bool.{cond-true, lt-ltb, ltb-true, cases_Bool}
use Rattle.std.proofs.lemmas.List.Elements.{All-nil, All-cons, All-head, All-tail, All-append, All-map}
use Rattle.ebml_numbers.specs.Number.{uint_octets}
use Rattle.mkv_schema.specs.declared.ids.TheConstants.{TAG, TAGS, TARGETS}
use Rattle.tree_format.specs.Node.{Node, leaf, master, nodes_of, list_of, id_of, children}
use Rattle.tree_format.specs.NormalForm.{octets}
use Rattle.tree_format.specs.Standing.{placed}
use Rattle.tree_format.specs.Children.{uint_leaf, given}
use Rattle.tree_format.specs.Values.{integer_of}
use Rattle.tree_format.proofs.NodeLemmas.{list-nodes}
use Rattle.tree_format.proofs.ValueLemmas.{uint_value-octets}
use Rattle.record_changes.specs.Tags.{is_target, number_of, targets_in, written_child, written_part, written_tag, written_tags, written_target}
use Rattle.record_laws.specs.Tags.{AreSmall, KeepsTarget, TagsStay, keep_all, targets_of}
use Rattle.remerge_laws.specs.Joined.{IsWrittenTag, JoinedTagsStay}
use Rattle.record_laws.proofs.TagLemmas.{kept-all, all-made}

-- each identifier of 64 bits, unchanged
abbrev itself : ℕ → ℕ → Option ℕ
itself id uid = if nat_lt uid (2 ^ 64) then Some uid else None

itself-small : AreSmall itself
itself-small id uid = elim (cases_Bool (nat_lt uid (2 ^ 64))) [ inl is ↦ rw is (ltb-true uid (2 ^ 64) is) | inr is ↦ rw is tt ]

itself-keeps : (id uid : ℕ) → uid < 2 ^ 64 → itself id uid ≡ Some uid
itself-keeps id uid small = cond-true (nat_lt uid (2 ^ 64)) (Some uid) None (lt-ltb uid (2 ^ 64) small)

-- ---- a child of Targets

-- The child is written unchanged, and if it is a target it keeps its identifier.
record Settles (m : Node) : Type 0 where
  same : written_target itself m ≡ m ∷ []
  keeps : (is_target m ≡ true → KeepsTarget itself m)

module _ (numbers : ℕ → ℕ → Option ℕ) (small : AreSmall numbers) where
  -- A target with its number.
  made-settles : (id v : ℕ) → v < 2 ^ 64 → Settles (uint_leaf id v)
  made-settles id v fits =
      let m : Node = uint_leaf id v in
      let value : integer_of m ≡ v = uint_value-octets id v (uint_octets v) fits refl in
      let own : number_of itself m ≡ Some v = ap (itself id) value ∙ itself-keeps id v fits in
      record {
        same = elim (cases_Bool (is_target m)) [ inl is ↦ rw is (ap (given (uint_leaf id)) own) | inr is ↦ rw is refl ];
        keeps = λ target. own ∙ ap (λ (k : ℕ). Some k) (sym value);
      }

  target-settles : (k : Node) → All Settles (written_target numbers k)
  target-settles k = elim (cases_Bool (is_target k)) [
    | inl is ↦ rw is (made (number_of numbers k) (small (id_of k) (integer_of k)))
    | inr is ↦ rw is (All-cons Settles k [] (other is) (All-nil Settles))
  ]
    where
      made : (o : Option ℕ) → IfSome o (λ n. n < 2 ^ 64) → All Settles (given (uint_leaf (id_of k)) o)
      made None fits = All-nil Settles
      made (Some v) fits = All-cons Settles (uint_leaf (id_of k) v) [] (made-settles (id_of k) v fits) (All-nil Settles)

      other : is_target k ≡ false → Settles k
      other is = record { same = rw is refl; keeps = λ target. absurd (let never : true ≡ false = sym target ∙ is in cc) }

flat-same : (ms : List Node) → All Settles ms → flat_map (written_target itself) ms ≡ ms
flat-same [] are = refl
flat-same (m ∷ ms) are = ap₂ (λ (a b : List Node). a ++ b) (All-head Settles m ms are).same (flat-same ms (All-tail Settles m ms are))

targets-keep : (ms : List Node) → All Settles ms → All (KeepsTarget itself) (filter is_target ms)
targets-keep [] are = All-nil (KeepsTarget itself)
targets-keep (m ∷ ms) are =
    let rest = targets-keep ms (All-tail Settles m ms are) in
    elim (cases_Bool (is_target m)) [
      | inl is ↦ rw is (All-cons (KeepsTarget itself) m (filter is_target ms) ((All-head Settles m ms are).keeps is) rest)
      | inr is ↦ rw is rest
    ]

-- ---- a child of a Tag

record PartSettles (p : Node) : Type 0 where
  same : written_part itself p ≡ p
  keep : All (KeepsTarget itself) (targets_in p)

module _ (numbers : ℕ → ℕ → Option ℕ) (small : AreSmall numbers) where
  part-settles : (k : Node) → PartSettles (written_part numbers k)
  part-settles (leaf id at body) = elim (cases_Bool (id == TARGETS)) [
    | inl is ↦ rw is (record { same = rw is refl; keep = rw is (All-nil (KeepsTarget itself)) })
    | inr is ↦ rw is (record { same = rw is refl; keep = rw is (All-nil (KeepsTarget itself)) })
  ]
  part-settles (master id at kids) = elim (cases_Bool (id == TARGETS)) [
    | inl is ↦
        let list : List Node = flat_map (written_target numbers) (list_of kids) in
        let settle = all-made Settles (written_target numbers) (list_of kids) (target-settles numbers small) in
        rw is (record {
          same = rw is (ap (λ (l : List Node). master id at (nodes_of l)) (ap (flat_map (written_target itself)) (list-nodes list) ∙ flat-same list settle));
          keep = rw is (subst (λ (l : List Node). All (KeepsTarget itself) (filter is_target l)) (sym (list-nodes list)) (targets-keep list settle));
        })
    | inr is ↦ rw is (record { same = rw is refl; keep = rw is (All-nil (KeepsTarget itself)) })
  ]

parts-same : (ps : List Node) → All PartSettles ps → map (written_part itself) ps ≡ ps
parts-same [] are = refl
parts-same (p ∷ ps) are = ap₂ (λ (k : Node) ks. k ∷ ks) (All-head PartSettles p ps are).same (parts-same ps (All-tail PartSettles p ps are))

parts-keep : (ps : List Node) → All PartSettles ps → All (KeepsTarget itself) (flat_map targets_in ps)
parts-keep [] are = All-nil (KeepsTarget itself)
parts-keep (p ∷ ps) are = All-append (KeepsTarget itself) (targets_in p) (flat_map targets_in ps) (All-head PartSettles p ps are).keep (parts-keep ps (All-tail PartSettles p ps are))

-- ---- a Tag

-- A Tag whose parts settle is written unchanged.
tag-same : (n : Node) → id_of n ≡ TAG → All PartSettles (children n) → written_tag itself n ≡ n → written_child keep_all itself n ≡ n ∷ []
tag-same n is parts same =
    ap₂ (λ (i : ℕ) (b : Bool). if (i == TAG) && b then written_tag itself n ∷ [] else []) is (kept-all itself (flat_map targets_in (children n)) (parts-keep (children n) parts))
    ∙ ap (λ (k : Node). k ∷ []) same

written-same : (numbers : ℕ → ℕ → Option ℕ) (tag : Node) → AreSmall numbers → id_of tag ≡ TAG → written_child keep_all itself (written_tag numbers tag) ≡ written_tag numbers tag ∷ []
written-same numbers (leaf id at body) small is = tag-same (leaf id at body) is (All-nil PartSettles) refl
written-same numbers (master id at kids) small is =
    let list : List Node = map (written_part numbers) (list_of kids) in
    let n : Node = master id at (nodes_of list) in
    let settle = All-map PartSettles (written_part numbers) (list_of kids) (λ k d less. part-settles numbers small (slice_index_or (list_of kids) k d)) in
    tag-same n is (subst (All PartSettles) (sym (list-nodes list)) settle)
    (ap (λ (l : List Node). master id at (nodes_of l)) (ap (map (written_part itself)) (list-nodes list) ∙ parts-same list settle))

tags-same : (ns : List Node) → All IsWrittenTag ns → flat_map (written_child keep_all itself) ns ≡ ns
tags-same [] are = refl
tags-same (n ∷ ns) are =
    let is = All-head IsWrittenTag n ns are in
    let one : written_child keep_all itself n ≡ n ∷ [] = subst (λ (k : Node). written_child keep_all itself k ≡ k ∷ []) (sym is.written) (written-same is.numbers is.tag is.small is.is) in
    ap₂ (λ (a b : List Node). a ++ b) one (tags-same ns (All-tail IsWrittenTag n ns are))

-- Tags of several inputs stay if the Tags of one input do.
pub joined-stay : TagsStay → JoinedTagsStay
joined-stay stay again tags place are keep =
    let whole : Node = master TAGS 0 (nodes_of tags) in
    let same : written_tags keep_all itself whole ≡ whole = ap (λ (l : List Node). master TAGS 0 (nodes_of l)) (ap (flat_map (written_child keep_all itself)) (list-nodes tags) ∙ tags-same tags are) in
    let P : Node → Type 0 = λ t. All (KeepsTarget again) (targets_of (placed place t)) in
    subst (λ (t : Node). octets (written_tags keep_all again (placed place t)) ≡ octets t) same
    (stay keep_all itself again whole place itself-small (subst P (sym same) keep))
