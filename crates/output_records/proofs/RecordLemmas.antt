-- Records with children appended or set can be read again.
use Rattle.std.proofs.Common.{◌≡◌, ◌<◌, ℕ, true, List, [], ◌∷◌, ◌++◌, length, IfSome, refl, sym, ap, subst, ◌∙◌, arith, append-nil}
use Rattle.mkv_schema.specs.declared.ids.TheConstants.{CHAPTERS, TAGS, ATTACHED_FILE, FILE_DATA, FILE_UID}
use Rattle.mkv_schema.specs.Table.{table}
use Rattle.mkv_schema.specs.Schema.{entry_of, is_master}
use Rattle.ebml_numbers.specs.Number.{is_id}
use Rattle.tree_format.specs.Node.{Node, Nodes, leaf, master, nodes_of, list_of, id_of, offset_of, children, with_children, depth, depth_all, deepest, IsMaster}
use Rattle.tree_format.specs.Changes.{AreTooLong, part, with_child}
use Rattle.tree_format.specs.Standing.{StandsIn, AllStandIn, IsSound, KeepsLimits}
use Rattle.tree_format.proofs.NodeLemmas.{nodes-list, list-nodes}
use Rattle.tree_format.proofs.ChangeLemmas.{deep-with_child}
use Rattle.tree_format.proofs.PartLemmas.{part-other}
use Rattle.ebml_tree.specs.Building.{IsBuilt, IsRead}
use Rattle.ebml_tree.specs.Leaves.{IsUintIn}
use Rattle.ebml_tree.proofs.BuildLemmas.{built-limits}
use Rattle.output_model.specs.Sound.{IsRecord, IsAttachment}
use Rattle.output_records.proofs.KeptLemmas.{content-children}
use Rattle.tree_format.specs.Children.{uint_leaf}
use Rattle.output_records.specs.Inputs.{unless_empty, with_some}

-- ---- the table

pub chapters-master : is_master CHAPTERS ≡ true
unfolding entry_of table
chapters-master = refl

pub tags-master : is_master TAGS ≡ true
unfolding entry_of table
tags-master = refl

pub uid-in : IsUintIn ATTACHED_FILE FILE_UID
unfolding entry_of table is_id
uid-in = record { valid = refl; known = record { stands = refl; kind = refl } }

-- ---- a built record

pub built-record : (id at deep : ℕ) (ns : List Node) (t : Node) → IsBuilt id at deep ns t → deep < deepest → IsRecord id t
built-record id at deep ns t built low = record {
  id = ap id_of built.is;
  master = (let P : Node → Type 0 = IsMaster in subst P (sym built.is) refl);
  sound = (let P : Node → Type 0 = IsSound in subst P (sym built.is) built.stand);
  limits = built-limits id at deep ns t built low;
}

pub record-built : (own : ℕ) (n : Node) → IsRecord own n → IsBuilt own (offset_of n) 31 (children n) n
record-built own (leaf id at body) r = let never = r.master in absurd (cc)
record-built own (master id at kids) r =
    let P : ℕ → Type 0 = λ p. IsBuilt p at 31 (list_of kids) (master id at kids) in
    let Q : Nodes → Type 0 = AllStandIn id in
    let same : depth_all (nodes_of (list_of kids)) ≡ depth_all kids = ap depth_all (nodes-list kids) in
    let deep = r.limits.deep in
    let long = r.limits.long in
    subst P r.id (record {
      is = ap (master id at) (sym (nodes-list kids));
      stand = subst Q (sym (nodes-list kids)) r.sound;
      shallow = omega arith;
      short = λ more. omega (arith, more, long, ap length (content-children (master id at kids) refl));
    })

-- Children are appended to a master.
pub grown-in : (id : ℕ) (old new : Node) (ns more : List Node) → old ≡ master id 0 (nodes_of ns) → new ≡ with_children old (children old ++ more) → new ≡ master id 0 (nodes_of (ns ++ more))
grown-in id old new ns more is grown =
    grown ∙ ap (λ t. with_children t (children t ++ more)) is ∙ ap (λ l. master id 0 (nodes_of (l ++ more))) (list-nodes ns)

pub read-record : (own : ℕ) (n : Node) → IsRead own n → KeepsLimits n → IsRecord own n
read-record own n r keeps = record { id = r.id; master = r.master; sound = r.sound; limits = keeps }

-- Each child of a record is valid in it.
pub all-stand : (own : ℕ) (n : Node) → IsRead own n → AllStandIn own (nodes_of (children n))
all-stand own (leaf id at body) read = let never = read.master in absurd (cc)
all-stand own (master id at kids) read =
    let P : ℕ → Type 0 = λ p. AllStandIn p (nodes_of (list_of kids)) in
    let Q : Nodes → Type 0 = AllStandIn id in
    subst P read.id (subst Q (sym (nodes-list kids)) read.sound)

-- Nothing is appended.
pub none-grown : (n : Node) → n ≡ with_children n (children n ++ [])
none-grown (leaf id at body) = refl
none-grown (master id at kids) = ap (master id at) (sym (nodes-list kids)) ∙ ap (λ l. master id at (nodes_of l)) (sym (append-nil (list_of kids)))

-- A fact about a record also holds if it has children.
pub some-holds : (P : Node → Type 0) (n : Node) → P n → IfSome (with_some n) P
some-holds P n holds = of (children n)
  where
    of : (ns : List Node) → IfSome (unless_empty n ns) P
    of [] = tt
    of (m ∷ ns) = holds

-- ---- setting a child

module _ (own : ℕ) (child : Node) (flat : depth child ≡ 0) where
  set-built : (old new : Node) → IsRecord own old → new ≡ with_children old (with_child child (children old)) → IsSound new → (AreTooLong (with_child child (children old)) → ⊥)
      → IsBuilt (id_of old) (offset_of old) 31 (with_child child (children old)) new
  set-built (leaf id at body) new r same sound short = let never = r.master in absurd (cc)
  set-built (master id at kids) new r same sound short =
      let low = deep-with_child child (list_of kids) in
      let kept : depth_all (nodes_of (list_of kids)) ≡ depth_all kids = ap depth_all (nodes-list kids) in
      let deep = r.limits.deep in
      record { is = same; stand = subst IsSound same sound; shallow = omega arith; short = short }

  pub set-record : (old new : Node) → IsRecord own old → new ≡ with_children old (with_child child (children old)) → IsSound new → (AreTooLong (with_child child (children old)) → ⊥) → IsRecord own new
  set-record old new r same sound short =
      let P : ℕ → Type 0 = λ p. IsRecord p new in
      subst P r.id (built-record (id_of old) (offset_of old) 31 _ new (set-built old new r same sound short) (omega arith))

children-with : (n : Node) (ns : List Node) → IsMaster n → children (with_children n ns) ≡ ns
children-with (leaf id at body) ns is = absurd (cc)
children-with (master id at kids) ns is = list-nodes ns

-- The AttachedFile has a new FileUID.
pub attached-set : (old new child : Node) (uid : ℕ) → IsAttachment old → child ≡ uint_leaf FILE_UID uid → new ≡ with_children old (with_child child (children old))
    → (IsSound old → StandsIn (id_of old) child → IsSound new) → StandsIn ATTACHED_FILE child → (AreTooLong (with_child child (children old)) → ⊥) → IsAttachment new
attached-set old new child uid attached is same keeps stands short =
    let P : ℕ → Type 0 = λ p. StandsIn p child in
    let sound = keeps attached.is.sound (subst P (sym attached.is.id) stands) in
    let kids : children new ≡ with_child child (children old) = ap children same ∙ children-with old (with_child child (children old)) attached.is.master in
    let kept : part FILE_DATA (with_child (uint_leaf FILE_UID uid) (children old)) ≡ part FILE_DATA (children old) = part-other FILE_DATA (uint_leaf FILE_UID uid) (children old) refl in
    record {
      is = set-record ATTACHED_FILE child (ap depth is) old new attached.is same sound short;
      one = ap length (ap (part FILE_DATA) kids ∙ ap (λ c. part FILE_DATA (with_child c (children old))) is ∙ kept) ∙ attached.one;
    }
