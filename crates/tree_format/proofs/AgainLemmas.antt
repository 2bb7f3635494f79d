-- Laws on trees that are written: they are read back.
use Rattle.std.proofs.Common.{◌≡◌, ◌≢◌, ◌⊎◌, inl, inr, ℕ, ◌+◌, ◌-◌, ◌<◌, ◌≤◌, ◌==◌, nat_lt, Bool, true, false, ◌&&◌, if◌then◌else◌, List, [], ◌∷◌, ◌++◌, slice_index, append-nil, append_assoc, length, length-append, take, drop, Option, Some, None, IsSome, Result, Ok, Err, refl, sym, ◌∙◌, ap, ap₂, arith}
use Rattle.std.proofs.lemmas.Bool.{le-ltb}
use Rattle.std.proofs.lemmas.Bool.Decides.{nat_tests}
use Rattle.std.proofs.Math.Seq.{take-append_seam, drop-append_seam}
use Rattle.std.specs.Int.Count.{count_leading_zeros}
use Rattle.ebml_numbers.specs.declared.number.IdRead.{IdRead}
use Rattle.ebml_numbers.specs.declared.number.NumFault.TheVariants as fault
use Rattle.ebml_numbers.specs.declared.number.Size.TheVariants.{Known}
use Rattle.ebml_numbers.specs.Number.{width, is_id, id_at, id_octets, uint_width, size_at, size_octets, least_size_width}
use Rattle.ebml_numbers.proofs.NumberLemmas.{id_at-whole, id_at-octets, size_at-octets, length-uint_octets}
use Rattle.ebml_numbers.proofs.WidthLemmas.{least_size_width-IsLeast}
use Rattle.mkv_schema.specs.declared.kind.ElementKind.{ElementKind}
use Rattle.mkv_schema.specs.declared.kind.ElementKind.TheVariants.{Master}
use Rattle.mkv_schema.specs.Table.{table}
use Rattle.mkv_schema.specs.Schema.{entry_of, kind_of, is_master, may_stand}
use Rattle.mkv_schema.proofs.SchemaLemmas.{is_id-kind_of, is_master-kind_of}
use Rattle.mkv_schema.specs.declared.ids.TheConstants.{CHAPTER_ATOM, CHAPTER_DISPLAY}
use Rattle.mkv_io.specs.declared.damage.Damage.{Damage}
use Rattle.mkv_io.specs.declared.damage.Kind.TheVariants.{TooLong}
use Rattle.mkv_schema.specs.declared.element.Header.{Header}
use Rattle.mkv_schema.specs.Element.{in_tree, element_in, id_in, with_id, with_size, with_body, body_damage, display_read, stated_end}
use Rattle.mkv_io.specs.Results.{and_then}
use Rattle.tree_format.specs.Node.{Node, Nodes, leaf, master, none, node, list_of, IsMaster, count, count_all, depth_all, deepest}
use Rattle.tree_format.specs.NormalForm.{is_filler, header_octets, element_octets, octets, octets_all, longest}
use Rattle.tree_format.specs.Reading.{Grove, header_at, inside, behind, is_master_in, as_master, grown, with_first, first_then, grove, as_root}
use Rattle.tree_format.specs.Standing.{IsLeafIn, AllStandIn, IsSound, KeepsLimits, IsReadAgain, kept, kept_all, placed_all}
use Rattle.tree_format.proofs.NodeLemmas.{nodes-list}
use Rattle.tree_format.proofs.ReadingLemmas.{grove-more, grove-end}
use Rattle.tree_format.proofs.WrittenLemmas.{length-header_octets}
use Rattle.lemmas.proofs.PlainLemmas.{both-true as both}

-- ---- an ID

-- An ID that may be read under `parent`: a valid one, or ChapterDisplay's in a ChapterAtom.
abbrev pub IsReadIn : ℕ → ℕ → Type 0
IsReadIn parent id = (is_id id ≡ true) ⊎ ((id ≡ CHAPTER_DISPLAY) × (parent ≡ CHAPTER_ATOM))

-- The byte `80` begins no valid ID.
id_at-display : (rest : List ℕ) → id_at (0x80 ∷ rest) ≡ Err fault.Bad
unfolding count_leading_zeros
id_at-display rest =
    let one : width 0x80 ≡ 1 = refl in
    id_at-whole 0x80 rest (omega arith) (omega arith)

-- Bytes that begin with a valid ID don't begin with `80`.
no-display : (octets : List ℕ) (read : IdRead) → id_at octets ≡ Ok read → slice_index octets 0 ≡ CHAPTER_DISPLAY → ⊥
no-display [] read is first = absurd (omega arith)
no-display (o ∷ rest) read is first =
    let bad : id_at (o ∷ rest) ≡ Err fault.Bad = ap (λ x. id_at (x ∷ rest)) first ∙ id_at-display rest in
    cc

id_in-valid : (parent : ℕ) (octets : List ℕ) (read : IdRead) → id_at octets ≡ Ok read → id_in (in_tree parent) octets ≡ Ok read
id_in-valid parent octets read is = split (slice_index octets 0 == CHAPTER_DISPLAY) refl (parent == CHAPTER_ATOM)
  where
    split : (display : Bool) → (slice_index octets 0 == CHAPTER_DISPLAY) ≡ display → (atom : Bool) → (if atom && display then display_read else id_at octets) ≡ Ok read
    split true same atom = absurd (no-display octets read is (grind (arith, nat_tests)))
    split false same true = is
    split false same false = is

display-octets : id_octets CHAPTER_DISPLAY ≡ CHAPTER_DISPLAY ∷ []
unfolding uint_width
display-octets = refl

display-read : (rest : List ℕ) → id_in (in_tree CHAPTER_ATOM) (CHAPTER_DISPLAY ∷ rest) ≡ display_read
display-read rest = refl

pub id_in-again : (parent id : ℕ) (rest : List ℕ) → IsReadIn parent id → id_in (in_tree parent) (id_octets id ++ rest) ≡ Ok (record { id = id; len = uint_width id })
unfolding uint_width
id_in-again parent id rest (inl valid) = id_in-valid parent (id_octets id ++ rest) _ (id_at-octets id rest valid)
id_in-again parent id rest (inr (same, atom)) =
    ap₂ (λ a o. id_in (in_tree a) (o ++ rest)) atom (ap id_octets same ∙ display-octets) ∙ display-read rest
    ∙ ap (λ (i : ℕ). Ok (record { id = i; len = uint_width i })) (sym same)

-- ---- a header

-- the header of an Element `id` at the offset `p` with a body of `size` bytes
abbrev pub header_of : ℕ → ℕ → ℕ → Header
header_of p id size = record { id = id; offset = p; body = p + length (header_octets id size); size = Known size }

body-again : (parent total e p id size : ℕ) → p + length (header_octets id size) + size ≤ e → with_body (header_of p id size) (body_damage (in_tree parent) total e (header_of p id size)) ≡ Ok (header_of p id size)
body-again parent total e p id size fits = split (nat_lt e (stated_end (header_of p id size))) (le-ltb _ _ fits)
  where
    split : (passes : Bool) → passes ≡ false → with_body (header_of p id size) (if passes && true then Some TooLong else None) ≡ Ok (header_of p id size)
    split true never = absurd (cc)
    split false ends = refl

size_at-again : (size : ℕ) (rest : List ℕ) → size ≤ longest → size_at (size_octets size (least_size_width size) ++ rest) ≡ Ok (record { size = Known size; len = least_size_width size })
size_at-again size rest small =
    let least = least_size_width-IsLeast size (omega arith) in
    size_at-octets size (least_size_width size) rest least.some least.most least.fits

pub element_in-again : (parent total e p id : ℕ) (size : ℕ) (rest : List ℕ) → IsReadIn parent id → size ≤ longest → p + length (header_octets id size) + size ≤ e
    → element_in (in_tree parent) (header_octets id size ++ rest) total p e ≡ Ok (header_of p id size)
unfolding element_in
element_in-again parent total e p id size rest reads small fits =
    let apart : header_octets id size ++ rest ≡ id_octets id ++ (size_octets size (least_size_width size) ++ rest) = append_assoc (id_octets id) _ rest in
    let tail : drop (uint_width id) (id_octets id ++ (size_octets size (least_size_width size) ++ rest)) ≡ size_octets size (least_size_width size) ++ rest =
    ap (λ k. drop k (id_octets id ++ (size_octets size (least_size_width size) ++ rest))) (sym (length-uint_octets id)) ∙ drop-append_seam (id_octets id) _ in
    let place : p + uint_width id + least_size_width size ≡ p + length (header_octets id size) = omega (arith, length-header_octets id size) in
    ap (λ o. with_id (in_tree parent) o total p e (id_in (in_tree parent) o)) apart
    ∙ ap (with_id (in_tree parent) (id_octets id ++ (size_octets size (least_size_width size) ++ rest)) total p e) (id_in-again parent id _ reads)
    ∙ ap (with_size (in_tree parent) total p e id (p + uint_width id)) (ap size_at tail ∙ size_at-again size rest small)
    ∙ ap (λ b. with_body (record { id = id; offset = p; body = b; size = Known size }) (body_damage (in_tree parent) total e (record { id = id; offset = p; body = b; size = Known size }))) place
    ∙ body-again parent total e p id size fits

-- ---- an Element before others

pub header_at-again : (parent p id : ℕ) (body rest : List ℕ) → IsReadIn parent id → length body ≤ longest → header_at parent p (element_octets id body ++ rest) ≡ Ok (header_of p id (length body))
header_at-again parent p id body rest reads small =
    let apart : element_octets id body ++ rest ≡ header_octets id (length body) ++ (body ++ rest) = append_assoc (header_octets id (length body)) body rest in
    let long : length (header_octets id (length body) ++ (body ++ rest)) ≡ length (header_octets id (length body)) + (length body + length rest) =
    length-append (header_octets id (length body)) (body ++ rest) ∙ ap (λ n. length (header_octets id (length body)) + n) (length-append body rest) in
    ap (header_at parent p) apart
    ∙ element_in-again parent (p + length (header_octets id (length body) ++ (body ++ rest))) (p + length (header_octets id (length body) ++ (body ++ rest))) p id (length body) (body ++ rest) reads small (omega arith)

inside-again : (p id : ℕ) (body rest : List ℕ) → inside p (header_of p id (length body)) (element_octets id body ++ rest) ≡ body
inside-again p id body rest =
    let apart : element_octets id body ++ rest ≡ header_octets id (length body) ++ (body ++ rest) = append_assoc (header_octets id (length body)) body rest in
    let from : p + length (header_octets id (length body)) - p ≡ length (header_octets id (length body)) = omega arith in
    ap₂ (λ k o. take (length body) (drop k o)) from apart ∙ ap (take (length body)) (drop-append_seam (header_octets id (length body)) (body ++ rest)) ∙ take-append_seam body rest

behind-again : (p id : ℕ) (body rest : List ℕ) → behind p (header_of p id (length body)) (element_octets id body ++ rest) ≡ rest
behind-again p id body rest =
    let to : p + length (header_octets id (length body)) + length body - p ≡ length (element_octets id body) = omega (arith, length-append (header_octets id (length body)) body) in
    ap (λ k. drop k (element_octets id body ++ rest)) to ∙ drop-append_seam (element_octets id body) rest

some-header : (id size : ℕ) (rest : List ℕ) → size ≤ longest → 0 < length (header_octets id size ++ rest)
some-header id size rest small =
    let least = (least_size_width-IsLeast size (omega arith)).some in
    omega (arith, length-append (header_octets id size) rest, length-header_octets id size, least)

-- An Element is read, then the Elements after it.
pub grove-again : (room left parent p id : ℕ) (body rest : List ℕ) → IsReadIn parent id → length body ≤ longest
    → grove room left parent p (element_octets id body ++ rest) ≡ and_then (grown grove room left parent (header_of p id (length body)) body) (λ g. and_then (grove room g.left parent (p + length (element_octets id body)) rest) (with_first g.tree))
grove-again room left parent p id body rest reads small =
    let h : Header = header_of p id (length body) in
    let octets : List ℕ = element_octets id body ++ rest in
    let long : length octets ≡ length (header_octets id (length body)) + length body + length rest =
    length-append (element_octets id body) rest ∙ ap (λ n. n + length rest) (length-append (header_octets id (length body)) body) in
    let some : 0 < length octets = omega (arith, some-header id (length body) [] small, ap length (append-nil (header_octets id (length body)))) in
    let end : stated_end h ≡ p + length (element_octets id body) = omega (arith, length-append (header_octets id (length body)) body) in
    grove-more room left parent p octets some
    ∙ ap (λ r. and_then r (first_then grove room left parent p octets)) (header_at-again parent p id body rest reads small)
    ∙ ap (λ b. and_then (grown grove room left parent h b) (λ g. and_then (grove room g.left parent (stated_end h) (behind p h octets)) (with_first g.tree))) (inside-again p id body rest)
    ∙ ap₂ (λ q o. and_then (grown grove room left parent h body) (λ g. and_then (grove room g.left parent q o) (with_first g.tree))) end (behind-again p id body rest)

-- ---- trees before others

-- ChapterDisplay is a master of the table, and only a ChapterAtom may have it.
pub display-parent : (parent : ℕ) → is_master_in parent CHAPTER_DISPLAY ≡ (parent == CHAPTER_ATOM && true)
unfolding entry_of table
display-parent parent = refl

-- The ID of a master of the table is read under its parent.
pub master-reads : (parent id : ℕ) → is_master_in parent id ≡ true → IsReadIn parent id
master-reads parent id is = split (id == CHAPTER_DISPLAY) refl
  where
    some : (k : Option ElementKind) → k ≡ Some Master → IsSome k
    some None found = absurd (cc)
    some (Some kind) found = refl

    split : (display : Bool) → (id == CHAPTER_DISPLAY) ≡ display → IsReadIn parent id
    split true same =
        let here : id ≡ CHAPTER_DISPLAY = grind (arith, nat_tests) in
        let stands : (parent == CHAPTER_ATOM && true) ≡ true = sym (display-parent parent) ∙ ap (is_master_in parent) (sym here) ∙ is in
        let atom = (both (parent == CHAPTER_ATOM) true stands).0 in
        inr (here, grind (arith, nat_tests))
    split false same =
        let other : id ≢ CHAPTER_DISPLAY = grind (arith, nat_tests) in
        let kind = (is_master-kind_of id).0 (both (may_stand id parent) (is_master id) is).1 in
        inl (is_id-kind_of id (some (kind_of id) kind) other)

-- ---- the trees of a body

-- the result of reading the trees `ns` with `left` nodes left
abbrev pub read_as : Nodes → ℕ → Result Grove Damage
read_as ns left = Ok (record { trees = list_of ns; left = left })

-- The trees `ns` are read back from their written bytes.
Follows : ℕ → ℕ → Nodes → Type 0
Follows room parent ns = (left p : ℕ) → length (octets_all ns) ≤ longest → kept_all ns ≤ left → grove room left parent p (octets_all ns) ≡ read_as (placed_all p ns) (left - kept_all ns)

-- A leaf, then the other trees.
leaf-again : (room parent left p id at : ℕ) (body : List ℕ) (ns : Nodes) → IsLeafIn parent id body → is_filler id ≡ false → Follows room parent ns
    → length (element_octets id body ++ octets_all ns) ≤ longest → 1 + kept_all ns ≤ left
    → grove room left parent p (element_octets id body ++ octets_all ns) ≡ read_as (node (leaf id p body) (placed_all (p + length (element_octets id body)) ns)) (left - (1 + kept_all ns))
unfolding Follows
leaf-again room parent left p id at body ns stands keeps follows small enough =
    let long = length-append (element_octets id body) (octets_all ns) in
    let part = length-append (header_octets id (length body)) body in
    let some : (left == 0) ≡ false = grind (arith, nat_tests) in
    let rest : left - 1 - kept_all ns ≡ left - (1 + kept_all ns) = omega arith in
    grove-again room left parent p id body (octets_all ns) (inl stands.id_stands) (omega arith)
    ∙ ap (λ r. and_then r (λ g. and_then (grove room g.left parent (p + length (element_octets id body)) (octets_all ns)) (with_first g.tree)))
    (leaf-grown some)
    ∙ ap (λ r. and_then r (with_first (leaf id p body))) (follows (left - 1) (p + length (element_octets id body)) (omega arith) (omega arith))
    ∙ ap (λ k. read_as (node (leaf id p body) (placed_all (p + length (element_octets id body)) ns)) k) rest
  where
    leaf-grown : (left == 0) ≡ false → grown grove room left parent (header_of p id (length body)) body ≡ Ok (record { tree = leaf id p body; left = left - 1 })
    leaf-grown some = rw (some, stands.no_master, stands.value) refl

-- A master, then the other trees.
master-again : (room parent left p id at : ℕ) (kids ns : Nodes) → is_master_in parent id ≡ true → 0 < room → Follows (room - 1) id kids → Follows room parent ns
    → length (element_octets id (octets_all kids) ++ octets_all ns) ≤ longest → kept_all kids + 1 + kept_all ns ≤ left
    → grove room left parent p (element_octets id (octets_all kids) ++ octets_all ns)
    ≡ read_as (node (master id p (placed_all (p + length (header_octets id (length (octets_all kids)))) kids)) (placed_all (p + length (element_octets id (octets_all kids))) ns)) (left - (kept_all kids + 1 + kept_all ns))
unfolding Follows
master-again room parent left p id at kids ns stands deep inner follows small enough =
    let long = length-append (element_octets id (octets_all kids)) (octets_all ns) in
    let part = length-append (header_octets id (length (octets_all kids))) (octets_all kids) in
    let some : (left == 0) ≡ false = grind (arith, nat_tests) in
    let more : (room == 0) ≡ false = grind (arith, nat_tests) in
    let rest : left - 1 - kept_all kids - kept_all ns ≡ left - (kept_all kids + 1 + kept_all ns) = omega arith in
    grove-again room left parent p id (octets_all kids) (octets_all ns) (master-reads parent id stands) (omega arith)
    ∙ ap (λ r. and_then r (λ g. and_then (grove room g.left parent (p + length (element_octets id (octets_all kids))) (octets_all ns)) (with_first g.tree)))
    (master-grown some more (inner (left - 1) (p + length (header_octets id (length (octets_all kids)))) (omega arith) (omega arith)))
    ∙ ap (λ r. and_then r (with_first (master id p (placed_all (p + length (header_octets id (length (octets_all kids)))) kids)))) (follows (left - 1 - kept_all kids) (p + length (element_octets id (octets_all kids))) (omega arith) (omega arith))
    ∙ ap (λ k. read_as (node (master id p (placed_all (p + length (header_octets id (length (octets_all kids)))) kids)) (placed_all (p + length (element_octets id (octets_all kids))) ns)) k) rest
  where
    master-grown : (left == 0) ≡ false → (room == 0) ≡ false
        → grove (room - 1) (left - 1) id (p + length (header_octets id (length (octets_all kids)))) (octets_all kids) ≡ read_as (placed_all (p + length (header_octets id (length (octets_all kids)))) kids) (left - 1 - kept_all kids)
        → grown grove room left parent (header_of p id (length (octets_all kids))) (octets_all kids)
        ≡ Ok (record { tree = master id p (placed_all (p + length (header_octets id (length (octets_all kids)))) kids); left = left - 1 - kept_all kids })
    master-grown some more found =
        rw (some, stands, more) (ap (λ r. and_then r (as_master (header_of p id (length (octets_all kids))))) found
        ∙ ap (λ ns. Ok (record { tree = master id p ns; left = left - 1 - kept_all kids })) (nodes-list (placed_all (p + length (header_octets id (length (octets_all kids)))) kids)))

-- A leaf, written or not, then the other trees.
leaf-step : (room parent left p id at : ℕ) (body : List ℕ) (ns : Nodes) → IsLeafIn parent id body → Follows room parent ns
    → (f : Bool) → is_filler id ≡ f → length ((if f then [] else element_octets id body) ++ octets_all ns) ≤ longest → (if f then kept_all ns else 1 + kept_all ns) ≤ left
    → grove room left parent p ((if f then [] else element_octets id body) ++ octets_all ns)
    ≡ read_as (if f then placed_all p ns else node (leaf id p body) (placed_all (p + length (if f then [] else element_octets id body)) ns)) (left - (if f then kept_all ns else 1 + kept_all ns))
unfolding Follows
leaf-step room parent left p id at body ns stands follows true is small enough = follows left p small enough
leaf-step room parent left p id at body ns stands follows false is small enough = leaf-again room parent left p id at body ns stands is follows small enough

-- A master, written or not, then the other trees.
master-step : (room parent left p id at : ℕ) (kids ns : Nodes) → is_master_in parent id ≡ true → 0 < room → Follows (room - 1) id kids → Follows room parent ns
    → (f : Bool) → length ((if f then [] else element_octets id (octets_all kids)) ++ octets_all ns) ≤ longest → (if f then kept_all ns else kept_all kids + 1 + kept_all ns) ≤ left
    → grove room left parent p ((if f then [] else element_octets id (octets_all kids)) ++ octets_all ns)
    ≡ read_as (if f then placed_all p ns else node (master id p (placed_all (p + length (header_octets id (length (octets_all kids)))) kids)) (placed_all (p + length (if f then [] else element_octets id (octets_all kids))) ns)) (left - (if f then kept_all ns else kept_all kids + 1 + kept_all ns))
unfolding Follows
master-step room parent left p id at kids ns stands deep inner follows true small enough = follows left p small enough
master-step room parent left p id at kids ns stands deep inner follows false small enough = master-again room parent left p id at kids ns stands deep inner follows small enough

-- The written bytes of valid trees are read as these trees, with their own offsets.
follows-all : (ns : Nodes) (room parent : ℕ) → AllStandIn parent ns → depth_all ns ≤ room → Follows room parent ns
unfolding Follows
follows-all none room parent stand low = λ left p small enough. let all : left - 0 ≡ left = omega arith in grove-end room left parent p ∙ ap (read_as none) (sym all)
follows-all (node (leaf id at body) ns) room parent stand low = λ left p small enough.
    leaf-step room parent left p id at body ns stand.0 (follows-all ns room parent stand.1 (omega arith)) (is_filler id) refl small enough
follows-all (node (master id at kids) ns) room parent stand low = λ left p small enough.
    master-step room parent left p id at kids ns stand.0.0 (omega arith) (follows-all kids (room - 1) id stand.0.1 (omega arith)) (follows-all ns room parent stand.1 (omega arith)) (is_filler id) small enough

pub grove-octets : (ns : Nodes) (room left parent p : ℕ) → AllStandIn parent ns → depth_all ns ≤ room → length (octets_all ns) ≤ longest → kept_all ns ≤ left
    → grove room left parent p (octets_all ns) ≡ Ok (record { trees = list_of (placed_all p ns); left = left - kept_all ns })
unfolding Follows
grove-octets ns room left parent p stand low small enough = follows-all ns room parent stand low left p small enough

-- The written bytes of a valid master's body are read as the tree, with its own offsets.
pub sound-again : (n : Node) (nodes : ℕ) → IsMaster n → IsSound n → KeepsLimits n → kept n ≤ nodes → IsReadAgain nodes n
sound-again (leaf id at body) nodes is sound within few = absurd (cc)
sound-again (master id at kids) nodes is sound within few =
    let some : (nodes == 0) ≡ false = grind (arith, nat_tests) in
    let long = within.long in
    let deep = within.deep in
    record {
      read = λ offset base.
          rw some (ap (λ r. and_then r (as_root id offset)) (grove-octets kids (deepest - 1) (nodes - 1) id base sound (omega arith) long (omega arith))
          ∙ ap (λ ns. Ok (master id offset ns)) (nodes-list (placed_all base kids)));
    }

-- The number of written Elements is at most the number of all.
pub kept_all-le : (ns : Nodes) → kept_all ns ≤ count_all ns
kept_all-le none = omega arith
kept_all-le (node (leaf id at body) ns) = split (is_filler id) (kept_all-le ns)
  where
    split : (f : Bool) → kept_all ns ≤ count_all ns → (if f then kept_all ns else 1 + kept_all ns) ≤ 1 + count_all ns
    split true rest = omega arith
    split false rest = omega arith
kept_all-le (node (master id at kids) ns) = split (is_filler id) (kept_all-le kids) (kept_all-le ns)
  where
    split : (f : Bool) → kept_all kids ≤ count_all kids → kept_all ns ≤ count_all ns → (if f then kept_all ns else kept_all kids + 1 + kept_all ns) ≤ count_all kids + 1 + count_all ns
    split true inner rest = omega arith
    split false inner rest = omega arith

pub kept-le : (n : Node) → kept n ≤ count n
kept-le (leaf id at body) = omega arith
kept-le (master id at kids) = omega (arith, kept_all-le kids)
