-- The Chapters of a part can be written if they aren't too long and the whole Chapters can be written.
use Rattle.std.proofs.Common.{◌≡◌, ◌≤◌, ℕ, zero, suc, ◌+◌, ◌==◌, ◌&&◌, ◌^◌, nat_lt, max, Bool, true, false, cond, if◌then◌else◌, List, [], ◌∷◌, ◌++◌, length, find, flat_map, Option, Some, None, IfSome, eqb-true, sym, ap, subst, refl, arith, unwrap_or}
use Rattle.std.specs.List.{range_with_len}
use Rattle.std.proofs.lemmas.Bool.{le-leb}
use Rattle.std.proofs.lemmas.Option.{IfSome_then}
use Rattle.ebml_numbers.specs.Number.{uint_octets, uint_width}
use Rattle.ebml_numbers.proofs.NumberLemmas.{length-uint_octets}
use Rattle.mkv_schema.specs.declared.ids.TheConstants.{CHAPTERS, EDITION_ENTRY, CHAPTER_ATOM, CHAPTER_TIME_START, CHAPTER_TIME_END}
use Rattle.tree_format.specs.Node.{Node, Nodes, leaf, master, none, node, nodes_of, list_of, id_of, children, depth, depth_all, deepest}
use Rattle.tree_format.specs.NormalForm.{content, longest}
use Rattle.tree_format.specs.Changes.{with_child}
use Rattle.tree_format.specs.Standing.{AllStandIn, StandsIn}
use Rattle.tree_format.specs.Values.{integer_in}
use Rattle.tree_format.proofs.NodeLemmas.{nodes-list}
use Rattle.tree_format.proofs.StandingLemmas.{sound-set}
use Rattle.output_model.specs.Sound.{IsRecord}
use Rattle.tree_format.specs.Children.{uint_leaf, set_in, set_each}
use Rattle.ebml_tree.specs.Building.{IsInPlace, IsRead}
use Rattle.ebml_tree.specs.Leaves.{IsUintIn}
use Rattle.ebml_tree.proofs.LeafLemmas.{uint-stands}
use Rattle.record_changes.specs.declared.stretch.Stretch.{Stretch}
use Rattle.record_changes.specs.Cut.{within, start_of, next_start, end_of, takes, end_within, times_within, cut_at, cut_among, cut_inside, has_atom, edition_within, unless_empty, cut}
use Rattle.record_changes.specs.Standing.{MayReplace, SetsTimes}
use Rattle.record_changes.proofs.ChapterFacts.{start, end}
use Rattle.record_changes.proofs.CutLemmas.{may-sets, sets-none, sets-time}
use Rattle.remux_plan.specs.Parts.{chapters_of}
use Rattle.merge_laws.proofs.EntryLemmas.{master-with}

-- ---- a time

-- The first number that passes the test, or the limit, is at most the limit.
first-most : (p : ℕ → Bool) (n a most : ℕ) → a + n ≤ most + 1 → unwrap_or (find p (range_with_len a n)) most ≤ most
first-most p zero a most few = omega arith
first-most p (suc n) a most few = split (p a) (first-most p n (a + 1) most (omega arith))
  where
    split : (t : Bool) → unwrap_or (find p (range_with_len (a + 1) n)) most ≤ most → unwrap_or (cond t (Some a) (find p (range_with_len (a + 1) n))) most ≤ most
    split true rest = omega arith
    split false rest = rest

-- An integer that is made has at most eight bytes.
uint-short : (value : ℕ) → length (uint_octets value) ≤ 8
unfolding uint_width
uint-short value = omega (arith, length-uint_octets value, first-most (λ w. nat_lt value (256 ^ w)) 8 1 8 (omega arith))

-- It is valid as a child if the table has an integer there.
time-stands : (id value : ℕ) → IsUintIn CHAPTER_ATOM id → StandsIn CHAPTER_ATOM (uint_leaf id value)
time-stands id value is =
    let zero_stands = uint-stands CHAPTER_ATOM id 0 is (omega arith) in
    record {
      id_stands = zero_stands.id_stands;
      no_master = zero_stands.no_master;
      value = rw (is.known.stands, is.known.kind) (le-leb (length (uint_octets value)) 8 (uint-short value));
    }

set-time : (n : Node) (id value : ℕ) → IsRead CHAPTER_ATOM n → IsUintIn CHAPTER_ATOM id → SetsTimes (uint_leaf id value ∷ []) n (set_in (uint_leaf id value) n)
set-time n id value read is =
    let child : Node = uint_leaf id value in
    sets-time n (set_in child n) child id value read refl refl (master-with n (with_child child (children n)) read.master) (λ sound stands. sound-set n child read.master sound stands) (time-stands id value is)

set-end : (s : Stretch) (n : Node) (o : Option ℕ) → IsRead CHAPTER_ATOM n → SetsTimes (end_within s o) n (set_each (end_within s o) n)
set-end s n None read = sets-none n read
set-end s n (Some time) read = set-time n CHAPTER_TIME_END (within s time) read end

-- An atom with the times of a period may replace another atom.
times-may : (s : Stretch) (n inner : Node) → IsRead CHAPTER_ATOM n → IsRead CHAPTER_ATOM inner → MayReplace n inner → MayReplace n (set_each (times_within s n) inner)
times-may s n inner read inner_read may =
    let begun : Node = set_in (uint_leaf CHAPTER_TIME_START (within s (start_of n))) inner in
    let begins = set-time inner CHAPTER_TIME_START (within s (start_of n)) inner_read start in
    let own_end : Option ℕ = integer_in CHAPTER_TIME_END n in
    may-sets n inner begun (set_each (end_within s own_end) begun) (uint_leaf CHAPTER_TIME_START (within s (start_of n)) ∷ []) (end_within s own_end) read may begins (set-end s begun own_end begins.read)

-- ---- children of a parent

-- The Elements `ns` are valid in `parent`, and at most `deep` masters are nested in them.
record StandWithin (parent deep : ℕ) (ns : List Node) : Type 0 where
  stand : AllStandIn parent (nodes_of ns)
  shallow : depth_all (nodes_of ns) ≤ deep

within-none : (parent deep : ℕ) → StandWithin parent deep []
within-none parent deep = record { stand = tt; shallow = omega arith }

within-one : (parent : ℕ) (n m : Node) → IsInPlace parent n m → StandWithin parent (depth n) (m ∷ [])
within-one parent n m place = let shallow = place.shallow in record { stand = (place.stands, tt); shallow = omega arith }

within-append : (parent d e : ℕ) (ms ns : List Node) → StandWithin parent d ms → StandWithin parent e ns → StandWithin parent (max d e) (ms ++ ns)
within-append parent d e [] ns front behind = let shallow = behind.shallow in record { stand = behind.stand; shallow = omega arith }
within-append parent d e (m ∷ ms) ns front behind =
    let low = front.shallow in
    let rest = within-append parent d e ms ns (record { stand = front.stand.1; shallow = omega arith }) behind in
    let shallow = rest.shallow in
    record { stand = (front.stand.0, rest.stand); shallow = omega arith }

-- ---- the part of Chapters in a period

-- A master stays valid if its selected children are valid in it.
master-stands : (s : Stretch) (parent id at : ℕ) (kids : Nodes) (next : Option ℕ) → StandsIn parent (master id at kids) → StandWithin id (depth_all kids) (cut_among s kids)
    → StandWithin parent (depth (master id at kids)) (cut_at s (master id at kids) next)
master-stands s parent id at kids next stands inside = of (id == CHAPTER_ATOM) refl (takes s (start_of n) (end_of n next))
  where
    n : Node
    n = master id at kids

    inner : Node
    inner = master id at (nodes_of (cut_among s kids))

    inner-may : MayReplace n inner
    inner-may = λ other here. (let shallow = inside.shallow in record { stands = (here.0, inside.stand); shallow = omega arith })

    of : (is_atom : Bool) → (id == CHAPTER_ATOM) ≡ is_atom → (taken : Bool) → StandWithin parent (depth n) (if is_atom then (if taken then set_each (times_within s n) inner ∷ [] else []) else n ∷ [])
    of true is true =
        let own : id ≡ CHAPTER_ATOM = eqb-true id CHAPTER_ATOM is in
        within-one parent n (set_each (times_within s n) inner)
        (times-may s n inner (record { id = own; master = refl; sound = stands.1 }) (record { id = own; master = refl; sound = inside.stand }) inner-may parent stands)
    of true is false = within-none parent (depth n)
    of false is taken = within-one parent n n (record { stands = stands; shallow = omega arith })

mutual
  element-stands : (s : Stretch) (parent : ℕ) (n : Node) (next : Option ℕ) → StandsIn parent n → StandWithin parent (depth n) (cut_at s n next)
  element-stands s parent (leaf id at body) next stands = within-one parent (leaf id at body) (leaf id at body) (record { stands = stands; shallow = omega arith })
  element-stands s parent (master id at kids) next stands = master-stands s parent id at kids next stands (elements-stand s id kids stands.1)

  elements-stand : (s : Stretch) (parent : ℕ) (ns : Nodes) → AllStandIn parent ns → StandWithin parent (depth_all ns) (cut_among s ns)
  elements-stand s parent none stand = within-none parent 0
  elements-stand s parent (node n ns) stand =
      within-append parent (depth n) (depth_all ns) (cut_at s n (next_start (list_of ns))) (cut_among s ns) (element-stands s parent n (next_start (list_of ns)) stand.0) (elements-stand s parent ns stand.1)

inside-place : (s : Stretch) (parent : ℕ) (n : Node) → StandsIn parent n → IsInPlace parent n (cut_inside s n)
inside-place s parent (leaf id at body) stands = record { stands = stands; shallow = omega arith }
inside-place s parent (master id at kids) stands =
    let inside = elements-stand s id (nodes_of (list_of kids)) (subst (AllStandIn id) (sym (nodes-list kids)) stands.1) in
    let shallow = inside.shallow in
    let same : depth_all (nodes_of (list_of kids)) ≡ depth_all kids = ap depth_all (nodes-list kids) in
    record { stands = (stands.0, inside.stand); shallow = omega arith }

edition-stands : (s : Stretch) (n : Node) → StandsIn CHAPTERS n → StandWithin CHAPTERS (depth n) (edition_within s n)
edition-stands s n stands = of (id_of n == EDITION_ENTRY && has_atom (cut_inside s n))
  where
    of : (goes_in : Bool) → StandWithin CHAPTERS (depth n) (if goes_in then cut_inside s n ∷ [] else [])
    of true = within-one CHAPTERS n (cut_inside s n) (inside-place s CHAPTERS n stands)
    of false = within-none CHAPTERS (depth n)

editions-stand : (s : Stretch) (ns : List Node) → AllStandIn CHAPTERS (nodes_of ns) → StandWithin CHAPTERS (depth_all (nodes_of ns)) (flat_map (edition_within s) ns)
editions-stand s [] stand = within-none CHAPTERS 0
editions-stand s (n ∷ ns) stand =
    within-append CHAPTERS (depth n) (depth_all (nodes_of ns)) (edition_within s n) (flat_map (edition_within s) ns) (edition-stands s n stand.0) (editions-stand s ns stand.1)

-- ---- a record

-- `n` is a record that can be written if it isn't too long.
pub record IsRecordIfShort (own : ℕ) (n : Node) : Type 0 where
  pub read : IsRead own n
  pub deep : depth n ≤ deepest

short-enough : (own : ℕ) (n : Node) → IsRecord own n → IsRecordIfShort own n
short-enough own n is = record { read = record { id = is.id; master = is.master; sound = is.sound }; deep = is.limits.deep }

cut-stands : (s : Stretch) (n : Node) → IsRecord CHAPTERS n → IfSome (cut s n) (IsRecordIfShort CHAPTERS)
cut-stands s (leaf id at body) is = let never = is.master in absurd (cc)
cut-stands s (master id at kids) is = of (flat_map (edition_within s) (list_of kids)) (editions-stand s (list_of kids) stand)
  where
    stand : AllStandIn CHAPTERS (nodes_of (list_of kids))
    stand = subst (AllStandIn CHAPTERS) (sym (nodes-list kids)) (subst (λ (own : ℕ). AllStandIn own kids) is.id is.sound)

    of : (ns : List Node) → StandWithin CHAPTERS (depth_all (nodes_of (list_of kids))) ns → IfSome (unless_empty (master id at kids) ns) (IsRecordIfShort CHAPTERS)
    of [] all = tt
    of (m ∷ ms) all =
        let shallow = all.shallow in
        let same : depth_all (nodes_of (list_of kids)) ≡ depth_all kids = ap depth_all (nodes-list kids) in
        let deep = is.limits.deep in
        record {
          read = record { id = is.id; master = refl; sound = subst (λ (own : ℕ). AllStandIn own (nodes_of (m ∷ ms))) (sym is.id) all.stand };
          deep = omega arith;
        }

-- The Chapters of a part are such a record, split or not.
pub chapters-stand : (split : Bool) (s : Stretch) (chapters : Option Node) → IfSome chapters (IsRecord CHAPTERS) → IfSome (chapters_of split chapters s) (IsRecordIfShort CHAPTERS)
chapters-stand true s None are = tt
chapters-stand true s (Some n) are = cut-stands s n are
chapters-stand false s chapters are = IfSome_then chapters are (short-enough CHAPTERS)

-- A record that isn't too long can be written.
pub record-short : (own most : ℕ) (o : Option Node) → most ≤ longest → IfSome o (IsRecordIfShort own) → IfSome o (λ (n : Node). length (content n) ≤ most) → IfSome o (IsRecord own)
record-short own most None fits is short = tt
record-short own most (Some n) fits is short = record { id = is.read.id; master = is.read.master; sound = is.read.sound; limits = record { long = omega arith; deep = is.deep } }
