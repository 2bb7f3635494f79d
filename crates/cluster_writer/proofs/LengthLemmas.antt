-- Lengths of block elements.
use Rattle.std.proofs.Common.{◌≡◌, ℕ, ◌+◌, ◌*◌, ◌^◌, ◌≤◌, nat_lt, Bool, true, false, cond, if◌then◌else◌, ℤ, pos, negsuc, List, [], ◌∷◌, ◌++◌, length, map, sum, find, unwrap_or, All, Some, refl, sym, ap, ◌∙◌, arith}
use Rattle.std.specs.List.{concat}
use Rattle.std.proofs.lemmas.List.{length-append}
use Rattle.std.proofs.lemmas.List.Concat.{flat_map-append}
use Rattle.std.proofs.lemmas.List.Elements.{All-head, All-tail, All-from_recursion}
use Rattle.ebml_numbers.specs.Number.{all_ones, least_width, uint_width, int_octets_in, least_size_width}
use Rattle.lacing.specs.declared.kind.Lace.TheVariants as lace
use Rattle.mkv_schema.specs.declared.ids.TheConstants.{SIMPLE_BLOCK, BLOCK_GROUP, BLOCK}
use Rattle.tree_format.specs.NormalForm.{header_octets}
use Rattle.tree_format.proofs.WrittenLemmas.{length-header_octets}
use Rattle.block_format.specs.Content.{frames_cut}
use Rattle.output_model.specs.Element.{Element, element, octets_of, joined}
use Rattle.output_model.specs.OutputBlock.{OutputBlock, Lent, IsLent, lent_block, prefixed}
use Rattle.output_model.specs.Block.{lace_octets, frame_octets, relative_to, flags_of, block_header, block_octets, duration_elements, reference_element, group_octets, block_element}
use Rattle.cluster_writer.specs.Lengths.{prefixed_sizes, duration_len, references_len, whole_len, taken_len}
use Rattle.cluster_writer.proofs.FramesLemmas.{sizes-prefixed, length-concat}

-- ---- an element

pub length-element : (id : ℕ) (body : List ℕ) (n : ℕ) → length body ≡ n → length (octets_of (element id body)) ≡ whole_len id n
length-element id body n is = length-append (header_octets id (length body)) body ∙ ap (λ k. whole_len id k) is

-- ---- a Block

-- Sixteen bits take two bytes.
length-ticks : (z : ℤ) → length (int_octets_in 2 z) ≡ 2
length-ticks (pos n) = refl
length-ticks (negsuc n) = refl

pub length-header : (timestamp : ℕ) (b : OutputBlock) → length (block_header timestamp b) ≡ 4
length-header timestamp b =
    let ticks : List ℕ = int_octets_in 2 (relative_to timestamp b) in
    omega (arith, length-append ticks (flags_of b ∷ []), length-ticks (relative_to timestamp b))

length-block : (timestamp : ℕ) (b : OutputBlock) → length (block_octets timestamp b) ≡ 4 + length (frame_octets b.lace b.frames)
length-block timestamp b =
    length-append (block_header timestamp b) (frame_octets b.lace b.frames) ∙ ap (λ n. n + length (frame_octets b.lace b.frames)) (length-header timestamp b)

-- ---- the same in every Cluster

-- The body of a group is as long as its parts.
pub length-group : (b : OutputBlock) (octets : List ℕ) (n : ℕ) → length octets ≡ n
    → length (joined (element BLOCK octets ∷ (duration_elements b.duration ++ map reference_element b.references)) ++ b.kept)
    ≡ whole_len BLOCK n + (duration_len b.duration + references_len b.references + length b.kept)
length-group b octets n is =
    let others : List Element = duration_elements b.duration ++ map reference_element b.references in
    let split : joined others ≡ joined (duration_elements b.duration) ++ joined (map reference_element b.references) = flat_map-append octets_of (duration_elements b.duration) (map reference_element b.references) in
    let lengths : length (joined others) ≡ duration_len b.duration + references_len b.references =
    ap length split ∙ length-append (joined (duration_elements b.duration)) (joined (map reference_element b.references)) in
    omega (
      arith,
      lengths,
      length-element BLOCK octets n is,
      length-append (joined (element BLOCK octets ∷ others)) b.kept,
      length-append (octets_of (element BLOCK octets)) (joined others),
    )

-- the length of a block's element, with `frames` bytes of lace and frames
abbrev pub element_len : OutputBlock → ℕ → ℕ
element_len b frames =
    if b.group then whole_len BLOCK_GROUP (whole_len BLOCK (4 + frames) + (duration_len b.duration + references_len b.references + length b.kept))
    else whole_len SIMPLE_BLOCK (4 + frames)

pub length-block_element : (timestamp : ℕ) (b : OutputBlock) (frames : ℕ) → length (frame_octets b.lace b.frames) ≡ frames → length (octets_of (block_element timestamp b)) ≡ element_len b frames
length-block_element timestamp b frames is = split b.group
  where
    block : length (block_octets timestamp b) ≡ 4 + frames
    block = length-block timestamp b ∙ ap (λ n. 4 + n) is

    split : (g : Bool) → length (octets_of (if g then element BLOCK_GROUP (group_octets timestamp b) else element SIMPLE_BLOCK (block_octets timestamp b)))
        ≡ (if g then whole_len BLOCK_GROUP (whole_len BLOCK (4 + frames) + (duration_len b.duration + references_len b.references + length b.kept)) else whole_len SIMPLE_BLOCK (4 + frames))
    split true = length-element BLOCK_GROUP (group_octets timestamp b) _ (length-group b (block_octets timestamp b) (4 + frames) block)
    split false = length-element SIMPLE_BLOCK (block_octets timestamp b) (4 + frames) block

-- The length doesn't depend on the Cluster's Timestamp.
pub length-same : (t u : ℕ) (b : OutputBlock) → length (octets_of (block_element t b)) ≡ length (octets_of (block_element u b))
length-same t u b =
    length-block_element t b (length (frame_octets b.lace b.frames)) refl ∙ sym (length-block_element u b (length (frame_octets b.lace b.frames)) refl)

-- ---- a block that an output track hands out

pub sizes-lent : (l : Lent) → IsLent l → map length (prefixed l.prefix (frames_cut l.sizes l.body)) ≡ prefixed_sizes (length l.prefix) l.sizes
sizes-lent l is = sizes-prefixed l.prefix l.sizes l.body (omega (arith, is.whole))

pub length-frames : (l : Lent) → IsLent l → length (concat (prefixed l.prefix (frames_cut l.sizes l.body))) ≡ sum (prefixed_sizes (length l.prefix) l.sizes)
length-frames l is = length-concat (prefixed l.prefix (frames_cut l.sizes l.body)) ∙ ap sum (sizes-lent l is)

length-laced : (l : Lent) → IsLent l → length (frame_octets l.head.lace (prefixed l.prefix (frames_cut l.sizes l.body)))
    ≡ length (lace_octets l.head.lace (prefixed_sizes (length l.prefix) l.sizes)) + sum (prefixed_sizes (length l.prefix) l.sizes)
length-laced l is =
    let frames : List (List ℕ) = prefixed l.prefix (frames_cut l.sizes l.body) in
    let front : List ℕ = lace_octets l.head.lace (map length frames) in
    omega (arith, length-append front (concat frames), length-frames l is, ap (λ ss. length (lace_octets l.head.lace ss)) (sizes-lent l is))

-- The length is the computed one, in each output track and at each tick.
pub length-lent : (timestamp lane tick : ℕ) (l : Lent) → IsLent l
    → length (octets_of (block_element timestamp (record (lent_block l) { lane = lane; tick = tick })))
    ≡ taken_len l.head (length l.prefix) l.sizes l.references (length l.kept)
length-lent timestamp lane tick l is =
    length-block_element timestamp (record (lent_block l) { lane = lane; tick = tick }) _ (length-laced l is) ∙ counted l.head.group
  where
    front : ℕ
    front = length (lace_octets l.head.lace (prefixed_sizes (length l.prefix) l.sizes))

    frames : ℕ
    frames = sum (prefixed_sizes (length l.prefix) l.sizes)

    four : 4 + (front + frames) ≡ 4 + front + frames
    four = omega arith

    counted : (g : Bool) → (if g then whole_len BLOCK_GROUP (whole_len BLOCK (4 + (front + frames)) + (duration_len l.head.duration + references_len l.references + length l.kept)) else whole_len SIMPLE_BLOCK (4 + (front + frames)))
        ≡ (if g then whole_len BLOCK_GROUP (whole_len BLOCK (4 + front + frames) + (duration_len l.head.duration + references_len l.references + length l.kept)) else whole_len SIMPLE_BLOCK (4 + front + frames))
    counted g = ap (λ n. if g then whole_len BLOCK_GROUP (whole_len BLOCK n + (duration_len l.head.duration + references_len l.references + length l.kept)) else whole_len SIMPLE_BLOCK n) four

-- ---- upper bounds

find-most : (p : ℕ → Bool) (ws : List ℕ) → All (λ w. w ≤ 8) ws → unwrap_or (find p ws) 8 ≤ 8
find-most p [] all = omega arith
find-most p (w ∷ ws) all = split (p w) (find-most p ws (All-tail (λ (x : ℕ). x ≤ 8) w ws all))
  where
    split : (t : Bool) → unwrap_or (find p ws) 8 ≤ 8 → unwrap_or (cond t (Some w) (find p ws)) 8 ≤ 8
    split true rest = All-head (λ (x : ℕ). x ≤ 8) w ws all
    split false rest = rest

least_width-most : (p : ℕ → Bool) → least_width p ≤ 8
least_width-most p =
    find-most p (1 ∷ 2 ∷ 3 ∷ 4 ∷ 5 ∷ 6 ∷ 7 ∷ 8 ∷ [])
    (All-from_recursion (λ (x : ℕ). x ≤ 8) (1 ∷ 2 ∷ 3 ∷ 4 ∷ 5 ∷ 6 ∷ 7 ∷ 8 ∷ []) (omega arith, (omega arith, (omega arith, (omega arith, (omega arith, (omega arith, (omega arith, (omega arith, tt)))))))))

uint_width-most : (v : ℕ) → uint_width v ≤ 8
unfolding uint_width
uint_width-most v = least_width-most (λ w. nat_lt v (256 ^ w))

size_width-most : (v : ℕ) → least_size_width v ≤ 8
unfolding least_size_width
size_width-most v = least_width-most (λ w. nat_lt v (all_ones w))

pub whole-most : (id n : ℕ) → whole_len id n ≤ n + 16
whole-most id n = omega (arith, length-header_octets id n, uint_width-most id, size_width-most n)
