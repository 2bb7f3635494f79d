-- The ends of Clusters.
use Rattle.std.proofs.Common.{◌≡◌, Bool, true, false, if◌then◌else◌, ◌⊎◌, inl, inr, List, [], ◌∷◌, ◌++◌, append-nil, append_assoc, refl, sym, subst, ap, ◌∙◌}
use Rattle.output_model.specs.declared.heads.ClusterLimits.{ClusterLimits}
use Rattle.output_model.specs.OutputBlock.{OutputBlock}
use Rattle.output_model.specs.Cluster.{OutputCluster, with_block, begun, joins, cut_from}
use Rattle.output_laws.specs.WholeLists.{AreCutWhole, EndsBefore, IsJoined}
use Rattle.output_laws.specs.Merges.{ClustersAreCut}
use Rattle.output_laws.proofs.MergedClusterLemmas.{begins-more}

-- ---- a block of a Cluster with one more block

-- An empty list has no items.
pub none-within : {X : Type 0} (ys zs : List X) (b : X) → [] ≡ ys ++ b ∷ zs → ⊥
none-within [] zs b is = cc
none-within (y ∷ ys) zs b is = cc

-- `c` is a block before the last one, or the last one.
record IsOld (xs ys : List OutputBlock) (c : OutputBlock) : Type 0 where
  behind : List OutputBlock
  is : xs ≡ ys ++ c ∷ behind

record IsLast (xs ys : List OutputBlock) (b c : OutputBlock) : Type 0 where
  same : b ≡ c
  before : xs ≡ ys

old-or-last : (xs ys zs : List OutputBlock) (b c : OutputBlock) → xs ++ b ∷ [] ≡ ys ++ c ∷ zs → IsOld xs ys c ⊎ IsLast xs ys b c
old-or-last [] [] zs b c is = inr (record { same = cc; before = refl })
old-or-last [] (y ∷ ys) zs b c is =
    let none : [] ≡ ys ++ c ∷ zs = cc in
    absurd (none-within ys zs c none)
old-or-last (x ∷ xs) [] zs b c is =
    let same : x ≡ c = cc in
    inl (record { behind = xs; is = ap (λ y. y ∷ xs) same })
old-or-last (x ∷ xs) (y ∷ ys) zs b c is =
    let same : x ≡ y = cc in
    let rest : xs ++ b ∷ [] ≡ ys ++ c ∷ zs = cc in
    elim (old-or-last xs ys zs b c rest) [
      | inl old ↦ inl (record { behind = old.behind; is = ap (λ z. z ∷ xs) same ∙ ap (λ l. y ∷ l) old.is })
      | inr new ↦ inr (record { same = new.same; before = ap (λ z. z ∷ xs) same ∙ ap (λ l. y ∷ l) new.before })
    ]

-- ---- one Cluster

begun-joined : (limits : ClusterLimits) (b : OutputBlock) → IsJoined limits (begun b)
begun-joined limits b = record {
  begins = refl;
  joined = λ first c before behind is. absurd (none-within before behind c (cc));
}

joined-more : (limits : ClusterLimits) (c : OutputCluster) (b : OutputBlock) → IsJoined limits c → joins limits c b ≡ true → IsJoined limits (with_block c b)
joined-more limits c b all here = record {
  begins = begins-more c.timestamp c.blocks b all.begins;
  joined = λ first d before behind is.
      elim (old-or-last c.blocks (first ∷ before) behind b d is) [
        | inl old ↦ all.joined first d before old.behind old.is
        | inr new ↦ ap (λ ds. joins limits (record { timestamp = c.timestamp; blocks = ds }) d) (sym new.before) ∙ ap (joins limits c) (sym new.same) ∙ here
      ];
}

-- ---- all Clusters

-- The first Cluster is the one to which blocks were added, with some of them.
record GoesOn (limits : ClusterLimits) (c : OutputCluster) (cs : List OutputCluster) : Type 0 where
  first : OutputCluster
  others : List OutputCluster
  rest : List OutputBlock
  is : cs ≡ first ∷ others
  blocks : first.blocks ≡ c.blocks ++ rest
  cut : AreCutWhole limits (first ∷ others)

abbrev AllGoOn : ClusterLimits → List OutputBlock → Type 0
AllGoOn limits bs = (c : OutputCluster) → IsJoined limits c → GoesOn limits c (cut_from limits c bs)

ends-before : (limits : ClusterLimits) (c d : OutputCluster) (b : OutputBlock) (rest : List OutputBlock) → d.blocks ≡ b ∷ rest → joins limits c b ≡ false → EndsBefore limits c d
ends-before limits c d b rest is apart first others here =
    let both : b ∷ rest ≡ first ∷ others = sym is ∙ here in
    let same : first ≡ b = cc in
    ap (joins limits c) same ∙ apart

cut-next : (limits : ClusterLimits) (b : OutputBlock) (bs : List OutputBlock) (c : OutputCluster) → AllGoOn limits bs → IsJoined limits c → (t : Bool) → joins limits c b ≡ t
    → GoesOn limits c (if t then cut_from limits (with_block c b) bs else c ∷ cut_from limits (begun b) bs)
cut-next limits b bs c more all true here =
    let next = more (with_block c b) (joined-more limits c b all here) in
    record {
      first = next.first;
      others = next.others;
      rest = b ∷ next.rest;
      is = next.is;
      blocks = next.blocks ∙ append_assoc c.blocks (b ∷ []) next.rest;
      cut = next.cut;
    }
cut-next limits b bs c more all false here =
    let next = more (begun b) (begun-joined limits b) in
    record {
      first = c;
      others = next.first ∷ next.others;
      rest = [];
      is = ap (λ cs. c ∷ cs) next.is;
      blocks = sym (append-nil c.blocks);
      cut = (all, ends-before limits c next.first b next.rest next.blocks here, next.cut);
    }

all-go-on : (limits : ClusterLimits) (bs : List OutputBlock) → AllGoOn limits bs
all-go-on limits [] c all = record { first = c; others = []; rest = []; is = refl; blocks = sym (append-nil c.blocks); cut = all }
all-go-on limits (b ∷ bs) c all = cut-next limits b bs c (all-go-on limits bs) all (joins limits c b) refl

pub clusters-cut : ClustersAreCut
clusters-cut limits [] = tt
clusters-cut limits (b ∷ bs) =
    let next = all-go-on limits bs (begun b) (begun-joined limits b) in
    subst (AreCutWhole limits) (sym next.is) next.cut
