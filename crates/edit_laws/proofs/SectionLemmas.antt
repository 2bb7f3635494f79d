-- Info and Tracks of a file, before and after edits.
use Rattle.std.proofs.Common.{◌≡◌, ◌<◌, ◌≤◌, ℕ, ◌+◌, List, [], ◌∷◌, All, Option, Some, None, IfSome, Ok, refl, sym, ◌∙◌, ap, subst, arith}
use Rattle.std.specs.Option.{is_some}
use Rattle.std.proofs.lemmas.List.Elements.{All-nil, All-cons, All-head, All-tail}
use Rattle.ebml_numbers.specs.Number.{AreOctets}
use Rattle.ebml_numbers.proofs.SpelledLemmas.{AreOctets-take, AreOctets-drop}
use Rattle.mkv_schema.specs.declared.ids.TheConstants.{CHAPTERS, INFO, TAGS, TRACKS}
use Rattle.requests.specs.declared.edit.Edit.{Edit}
use Rattle.mkv_schema.specs.declared.element.Header.{Header}
use Rattle.mkv_schema.specs.Element.{stated_end}
use Rattle.mkv_schema.specs.Outline.{segment_run}
use Rattle.mkv_io.specs.Results.{and_then}
use Rattle.mkv_schema.specs.Value.{body_of, first_of}
use Rattle.mkv_schema.proofs.OutlineLemmas.{and_then-ok, unless-ok}
use Rattle.tree_format.specs.declared.limits.TheConstants.{MAX_NODES}
use Rattle.tree_format.specs.Node.{Node, Nodes, leaf, master, none, node, nodes_of, list_of, children, depth, depth_all, deepest}
use Rattle.tree_format.specs.NormalForm.{octets}
use Rattle.tree_format.specs.Reading.{tree_of}
use Rattle.tree_format.specs.Standing.{AllStandIn, StandsIn}
use Rattle.tree_format.proofs.FoundLemmas.{tree_of-sound}
use Rattle.tree_format.proofs.NodeLemmas.{nodes-list}
use Rattle.file_format.specs.Entry.{entries_of}
use Rattle.file_format.specs.Refusal.{refusal_of}
use Rattle.file_format.specs.Tracks.{AreTracks}
use Rattle.file_format.proofs.TracksLemmas.{refusal-none}
use Rattle.meta_records.specs.Attached.{AttachedFile, first_attached}
use Rattle.meta_records.specs.Records.{first_tree, good_info, tree_at}
use Rattle.file_format.specs.Info.{info_refusal}
use Rattle.edit_changes.specs.declared.trees.Trees.{Trees}
use Rattle.edit_changes.specs.Change.{edited_from, edited_once, numbered}
use Rattle.edit_changes.specs.Records.{good_tracks, trees_of}
use Rattle.edit_plan.proofs.PartLemmas.{first-own}
use Rattle.edit_laws.proofs.DepthLemmas.{tree_of-deep}
use Rattle.edit_laws.proofs.GoodLemmas.{AreUnrefused, IsScaled, info-scaled}
use Rattle.edit_laws.proofs.TreeLemmas.{AreFit, IsFit, Once, of_info, of_tracks, numbered-ok, once-is, then-ok}

-- ---- trees that were read

-- The trees `t` were read from the first Elements of the Segment, and weren't refused.
pub record AreFirst (bytes : List ℕ) (segment : Header) (t : Trees) : Type 0 where
  pub info : first_tree INFO bytes segment ≡ Ok t.info
  pub whole : Node
  pub tracks : first_tree TRACKS bytes segment ≡ Ok (Some whole)
  pub children : t.tracks ≡ children whole
  pub files : List AttachedFile
  pub attached : first_attached bytes segment ≡ Ok files
  pub chapters : Option Node
  pub chapters_read : first_tree CHAPTERS bytes segment ≡ Ok chapters
  pub tags : Option Node
  pub tags_read : first_tree TAGS bytes segment ≡ Ok tags
  pub good : AreUnrefused t

good-same : (n m : Option Node) → good_info n ≡ Ok m → n ≡ m
good-same None m is = cc
good-same (Some n) m is = (unless-ok (info_refusal n) (Some n) m is).1

tracks-same : (segment : Header) (n : Option Node) (m : Node) → good_tracks segment n ≡ Ok m → n ≡ Some m
tracks-same segment None m is = absurd (cc)
tracks-same segment (Some n) m is = ap (λ x. Some x) (unless-ok (refusal_of n) n m is).1

good-scaled : (n m : Option Node) → good_info n ≡ Ok m → IfSome m IsScaled
good-scaled None m is = let same : None ≡ m = cc in subst (λ (x : Option Node). IfSome x IsScaled) same tt
good-scaled (Some n) m is =
    let good = unless-ok (info_refusal n) (Some n) m is in
    subst (λ (x : Option Node). IfSome x IsScaled) good.1 (info-scaled n good.0)

good-entries : (segment : Header) (n : Option Node) (m : Node) → good_tracks segment n ≡ Ok m → AreTracks (entries_of m)
good-entries segment None m is = absurd (cc)
good-entries segment (Some n) m is =
    let good = unless-ok (refusal_of n) n m is in
    subst (λ (x : Node). AreTracks (entries_of x)) good.1 ((refusal-none n).0 good.0)

pub trees-first : (bytes : List ℕ) (segment : Header) (t : Trees) → trees_of bytes segment ≡ Ok t → AreFirst bytes segment t
trees-first bytes segment t is =
    let info = and_then-ok (and_then (first_tree INFO bytes segment) good_info) _ t is in
    let first = and_then-ok (first_tree INFO bytes segment) good_info info.0 info.1.0 in
    let tracks = and_then-ok (and_then (first_tree TRACKS bytes segment) (good_tracks segment)) _ t info.1.1 in
    let second = and_then-ok (first_tree TRACKS bytes segment) (good_tracks segment) tracks.0 tracks.1.0 in
    let files = and_then-ok (first_attached bytes segment) _ t tracks.1.1 in
    let chapters = and_then-ok (first_tree CHAPTERS bytes segment) _ t files.1.1 in
    let tags = and_then-ok (first_tree TAGS bytes segment) _ t chapters.1.1 in
    let same : record { info = info.0; tracks = children tracks.0 } ≡ t = (let last = tags.1.1 in cc) in
    subst (AreFirst bytes segment) same (record {
      info = first.1.0 ∙ ap (λ n. Ok n) (good-same first.0 info.0 first.1.1);
      whole = tracks.0;
      tracks = second.1.0 ∙ ap (λ n. Ok n) (tracks-same segment second.0 tracks.0 second.1.1);
      children = refl;
      files = files.0;
      attached = files.1.0;
      chapters = chapters.0;
      chapters_read = chapters.1.0;
      tags = tags.0;
      tags_read = tags.1.0;
      good = record { info = good-scaled first.0 info.0 first.1.1; tracks = good-entries segment second.0 tracks.0 second.1.1 };
    })

-- A tree that was read has its ID.
read-fit : (id : ℕ) (bytes : List ℕ) (h : Header) (n : Node) → AreOctets bytes → h.id ≡ id → tree_of h.id h.offset (body_of bytes h) h.body MAX_NODES ≡ Ok n → IsFit id deepest n
read-fit id bytes h n are own is =
    let of = tree_of-deep h.id h.offset h.body MAX_NODES (body_of bytes h) n is in
    record {
      own = of.own ∙ own;
      master = of.master;
      sound = tree_of-sound h.id h.offset h.body MAX_NODES (body_of bytes h) n (AreOctets-drop h.body _ (AreOctets-take (stated_end h) bytes are)) is;
      deep = of.deep;
    }

pub first-fit : (id : ℕ) (bytes : List ℕ) (segment : Header) (n : Option Node) → AreOctets bytes → first_tree id bytes segment ≡ Ok n → IfSome n (IsFit id deepest)
first-fit id bytes segment n are is = of (first_of id (segment_run bytes segment).list) refl is
  where
    of : (first : Option Header) → first_of id (segment_run bytes segment).list ≡ first → tree_at bytes first ≡ Ok n → IfSome n (IsFit id deepest)
    of None nothing is = let same : None ≡ n = cc in subst (λ (x : Option Node). IfSome x (IsFit id deepest)) same tt
    of (Some h) some is =
        let read = and_then-ok (tree_of h.id h.offset (body_of bytes h) h.body MAX_NODES) (λ tree. Ok (Some tree)) n is in
        let same : Some read.0 ≡ n = (let last = read.1.1 in cc) in
        subst (λ (x : Option Node). IfSome x (IsFit id deepest)) same (read-fit id bytes h read.0 are (first-own id (segment_run bytes segment).list h some) read.1.0)

-- Children that are valid in a master.
all-stand : (parent : ℕ) (ns : Nodes) (most : ℕ) → AllStandIn parent ns → depth_all ns < most → All (λ (n : Node). StandsIn parent n × (depth n < most)) (list_of ns)
all-stand parent none most stand deep = All-nil (λ (n : Node). StandsIn parent n × (depth n < most))
all-stand parent (node n ns) most stand deep = All-cons (λ (n : Node). StandsIn parent n × (depth n < most)) n (list_of ns) (stand.0, omega arith) (all-stand parent ns most stand.1 (omega arith))

stand-all : (parent : ℕ) (ns : List Node) (most : ℕ) → All (λ (n : Node). StandsIn parent n × (depth n < most)) ns → 1 ≤ most → AllStandIn parent (nodes_of ns) × (depth_all (nodes_of ns) < most)
stand-all parent [] most all some = (tt, omega arith)
stand-all parent (n ∷ ns) most all some =
    let own = All-head (λ (n : Node). StandsIn parent n × (depth n < most)) n ns all in
    let rest = stand-all parent ns most (All-tail (λ (n : Node). StandsIn parent n × (depth n < most)) n ns all) some in
    let one = own.1 in let two = rest.1 in
    ((own.0, rest.0), omega arith)

pub trees-fit : (bytes : List ℕ) (segment : Header) (t : Trees) → AreOctets bytes → AreFirst bytes segment t → AreFit t
trees-fit bytes segment t are first = record {
  info = first-fit INFO bytes segment t.info are first.info;
  tracks = of first.whole (first-fit TRACKS bytes segment (Some first.whole) are first.tracks) first.children;
}
  where
    of : (n : Node) → IsFit TRACKS deepest n → t.tracks ≡ children n → All (λ (n : Node). StandsIn TRACKS n × (depth n < deepest)) t.tracks
    of (leaf id at body) fit is = let never = fit.master in absurd (cc)
    of (master id at kids) fit is =
        let sound : AllStandIn TRACKS kids = subst (λ k. AllStandIn k kids) fit.own fit.sound in
        let deep = fit.deep in
        subst (All (λ (n : Node). StandsIn TRACKS n × (depth n < deepest))) (sym is) (all-stand TRACKS kids deepest sound (omega arith))

-- ---- Elements to write

pub info-stands : (n : Node) → IsFit INFO deepest n → AllStandIn INFO (nodes_of (children n)) × (depth_all (nodes_of (children n)) < deepest)
info-stands (leaf id at body) fit = let never = fit.master in absurd (cc)
info-stands (master id at kids) fit =
    let same : nodes_of (list_of kids) ≡ kids = nodes-list kids in
    let sound : AllStandIn INFO kids = subst (λ k. AllStandIn k kids) fit.own fit.sound in
    let deep = fit.deep in
    let len : depth_all (nodes_of (list_of kids)) ≡ depth_all kids = ap depth_all same in
    (subst (AllStandIn INFO) (sym same) sound, omega arith)

pub fit-octets : (id : ℕ) (n : Node) → IsFit id deepest n → octets (master id 0 (nodes_of (children n))) ≡ octets n
fit-octets id (leaf own at body) fit = let never = fit.master in absurd (cc)
fit-octets id (master own at kids) fit = ap (λ (ks : Nodes). octets (master id 0 ks)) (nodes-list kids) ∙ ap (λ (i : ℕ). octets (master i 0 kids)) (sym fit.own)

pub tracks-stand : (t : Trees) → AreFit t → AllStandIn TRACKS (nodes_of t.tracks) × (depth_all (nodes_of t.tracks) < deepest)
tracks-stand t fit = stand-all TRACKS t.tracks deepest fit.tracks (omega arith)

-- ---- with an Info or without

-- The edited trees have an Info if and only if the old ones have.
pub info-there : (k : ℕ) (es : List Edit) (t u : Trees) → edited_from k es t ≡ Ok u → is_some t.info ≡ is_some u.info
info-there k [] t u is = let same : t ≡ u = cc in ap (λ (x : Trees). is_some x.info) same
info-there k (e ∷ es) t u is =
    let made = then-ok (numbered (k + 1) (edited_once e t)) (edited_from (k + 1) es) u is in
    once made.0 (once-is e t made.0 (numbered-ok (k + 1) (edited_once e t) made.0 made.1.0)) ∙ info-there (k + 1) es made.0 u made.1.1
  where
    once : (x : Trees) → Once e t x → is_some t.info ≡ is_some x.info
    once x (of_info own n m at made same) = ap is_some at ∙ ap (λ (y : Trees). is_some y.info) same
    once x (of_tracks own k n m place at made same) = ap (λ (y : Trees). is_some y.info) same
