-- The Info of an output has the bytes of its Duration inside, and is otherwise the same.
use Rattle.std.proofs.Common.{◌≡◌, ℕ, ◌+◌, ◌-◌, ◌<◌, ◌≤◌, List, ◌++◌, length, flat_map, take, drop, Some, length-append, le_trans, le_of_eq, lt_of_le_of_lt, ◌*◌, ◌^◌, pow_mono, pow-add, refl, sym, ap, ◌∙◌, inl, inr, arith}
use Rattle.std.proofs.lemmas.Bool.{cases_lt, le-ltb}
use Rattle.std.proofs.lemmas.List.{take-append-drop}
use Rattle.std.proofs.lemmas.List.Concat.{flat_map-append}
use Rattle.ebml_numbers.specs.Number.{all_ones, least_size_width, uint_width}
use Rattle.ebml_numbers.proofs.WidthLemmas.{least_size_width-IsLeast}
use Rattle.tree_format.specs.Node.{Node, leaf, master, list_of, id_of, children, IsMaster}
use Rattle.tree_format.specs.NormalForm.{octets, octets_all, content}
use Rattle.tree_format.proofs.NodeLemmas.{nodes-list, octets_all-flat}
use Rattle.output_model.specs.Element.{element, octets_of}
use Rattle.output_model.specs.declared.TheConstants.{DURATION_LEN}
use Rattle.output_model.proofs.ReadLemmas.{length-header_of, length-octets_of}
use Rattle.output_model.specs.Duration.{duration_element}
use Rattle.output_model.specs.Document.{tree_element, children_after_duration, children_before_duration, duration_place, info_with, info_element}
use Rattle.output_model.proofs.DurationLemmas.{length-duration}
use Rattle.duration_laws.specs.Changes.{added_by, HasInserted}

-- ---- the width of a size

-- A size that no width can hold is written in eight bytes.
width-wide : (v : ℕ) → all_ones 8 ≤ v → least_size_width v ≡ 8
unfolding least_size_width
width-wide v wide =
    let one = le-ltb v (all_ones 1) (omega arith) in
    let two = le-ltb v (all_ones 2) (omega arith) in
    let three = le-ltb v (all_ones 3) (omega arith) in
    let four = le-ltb v (all_ones 4) (omega arith) in
    let five = le-ltb v (all_ones 5) (omega arith) in
    let six = le-ltb v (all_ones 6) (omega arith) in
    let seven = le-ltb v (all_ones 7) (omega arith) in
    let eight = le-ltb v (all_ones 8) (omega arith) in
    rw (one, two, three, four, five, six, seven, eight) refl

-- A size has at most eight bytes.
width-most : (v : ℕ) → least_size_width v ≤ 8
width-most v = elim (cases_lt v (all_ones 8)) [ inl short ↦ (least_size_width-IsLeast v short).most | inr wide ↦ le_of_eq (width-wide v wide) ]

-- A longer body has no shorter size.
width-mono : (v u : ℕ) → v ≤ u → least_size_width v ≤ least_size_width u
width-mono v u more =
    elim (cases_lt u (all_ones 8)) [
      | inl short ↦ (let is = least_size_width-IsLeast u short in (least_size_width-IsLeast v (lt_of_le_of_lt more short)).least (least_size_width u) is.some (lt_of_le_of_lt more is.fits))
      | inr wide ↦ le_trans (width-most v) (le_of_eq (sym (width-wide u wide)))
    ]

-- One byte more for the size leaves room for 11 bytes more.
room-grows : (w v : ℕ) → 1 ≤ w → v < all_ones w → v + DURATION_LEN < all_ones (w + 1)
room-grows w v some fits =
    let exponent : 7 * (w + 1) ≡ 7 * w + 7 = omega arith in
    let power : 2 ^ (7 * (w + 1)) ≡ 2 ^ (7 * w) * 128 = ap (λ x. 2 ^ x) exponent ∙ pow-add 2 (7 * w) 7 in
    let seven : 7 ≤ 7 * w = omega arith in
    let least : 2 ^ 7 ≤ 2 ^ (7 * w) = pow_mono seven in
    omega arith

-- A body that is 11 bytes longer has a size of at most one more byte.
width-grows : (v : ℕ) → least_size_width (v + DURATION_LEN) ≤ least_size_width v + 1
width-grows v =
    elim (cases_lt v (all_ones 8)) [
      | inl short ↦ narrow short
      | inr wide ↦ (let most = width-most (v + DURATION_LEN) in let own = width-wide v wide in omega arith)
    ]
  where
    narrow : v < all_ones 8 → least_size_width (v + DURATION_LEN) ≤ least_size_width v + 1
    narrow short =
        let is = least_size_width-IsLeast v short in
        let some = is.some in
        let room = room-grows (least_size_width v) v some is.fits in
        elim (cases_lt (v + DURATION_LEN) (all_ones 8)) [
          | inl within ↦ (least_size_width-IsLeast (v + DURATION_LEN) within).least (least_size_width v + 1) (omega arith) room
          | inr past ↦ (
              let most = width-most (v + DURATION_LEN) in
              elim (cases_lt (least_size_width v) 7) [
                | inl low ↦ (let bits : 7 * (least_size_width v + 1) ≤ 49 = omega arith in let under : 2 ^ (7 * (least_size_width v + 1)) ≤ 2 ^ 49 = pow_mono bits in absurd (omega arith))
                | inr high ↦ omega arith
              ])
        ]

-- ---- Info

-- The content of a master is its children, in sequence.
content-children : (info : Node) → IsMaster info → content info ≡ flat_map octets (children info)
content-children (leaf id at body) is = absurd (cc)
content-children (master id at kids) is = ap octets_all (sym (nodes-list kids)) ∙ octets_all-flat (list_of kids)

content-parts : (info : Node) → IsMaster info → content info ≡ children_before_duration info ++ children_after_duration info
content-parts info is =
    let place : ℕ = duration_place (children info) in
    content-children info is ∙ ap (flat_map octets) (sym (take-append-drop place (children info)))
    ∙ flat_map-append octets (take place (children info)) (drop place (children info))

-- the body of `info` with a Duration of the tick `end`
abbrev body_with : Node → ℕ → List ℕ
body_with info end = info_with info (octets_of (duration_element end))

length-body : (info : Node) (end : ℕ) → IsMaster info → length (body_with info end) ≡ length (content info) + DURATION_LEN
length-body info end is =
    let own : List ℕ = octets_of (duration_element end) in
    let before : List ℕ = children_before_duration info in
    let after : List ℕ = children_after_duration info in
    length-append before (own ++ after)
    ∙ omega (arith, length-append own after, length-duration end, ap (λ (o : List ℕ). length o) (content-parts info is), length-append before after)

-- the length of an Element with the ID `id` and a body of `v` bytes
length-element : (id : ℕ) (body : List ℕ) → length (octets_of (element id body)) ≡ uint_width id + least_size_width (length body) + length body
length-element id body = length-octets_of (element id body) ∙ ap (λ x. x + length body) (length-header_of (element id body))

-- the length of the Element `info` without a Duration, and with one
abbrev len_without : Node → ℕ
len_without info = length (octets_of (tree_element info))

abbrev len_with : Node → ℕ → ℕ
len_with info end = length (octets_of (info_element info (Some end)))

-- With a Duration it has 11 or 12 bytes more.
longer : (info : Node) (end : ℕ) → IsMaster info → (len_without info + DURATION_LEN ≤ len_with info end) × (len_with info end ≤ len_without info + DURATION_LEN + 1)
longer info end is =
    let v : ℕ = length (content info) in
    let own = length-element (id_of info) (content info) in
    let body = length-body info end is in
    let more : len_with info end ≡ uint_width (id_of info) + least_size_width (v + DURATION_LEN) + (v + DURATION_LEN) =
    length-element (id_of info) (body_with info end) ∙ ap (λ x. uint_width (id_of info) + least_size_width x + x) body in
    let least = width-mono v (v + DURATION_LEN) (omega arith) in
    let most = width-grows v in
    (omega arith, omega arith)

pub info-longer : (info : Node) (end : ℕ) → IsMaster info → len_with info end ≡ len_without info + added_by info end
info-longer info end is = of (len_without info) (len_with info end) (longer info end is).0
  where
    of : (a b : ℕ) → a + DURATION_LEN ≤ b → b ≡ a + (b - a)
    of a b least = omega arith

pub info-inserted : (info : Node) (end : ℕ) → IsMaster info → HasInserted info end
info-inserted info end is =
    let more = of (len_without info) (len_with info end) (longer info end is) in
    record { without = content-parts info is; inserted = refl; len = length-duration end; least = more.0; most = more.1 }
  where
    of : (a b : ℕ) → (a + DURATION_LEN ≤ b) × (b ≤ a + DURATION_LEN + 1) → (DURATION_LEN ≤ b - a) × (b - a ≤ DURATION_LEN + 1)
    of a b both = let least = both.0 in let most = both.1 in (omega arith, omega arith)
