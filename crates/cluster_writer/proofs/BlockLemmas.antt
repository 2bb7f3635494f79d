-- The bytes of a block, part by part.
use Rattle.std.proofs.Common.{◌≡◌, ◌≤◌, ◌<◌, ℕ, ℤ, pos, ◌+◌, Bool, true, false, if◌then◌else◌, List, [], ◌++◌, length, map, drop, get_or, sym, ap, append_assoc, ◌∙◌, arith}
use Rattle.std.specs.List.{concat}
use Rattle.std.proofs.lemmas.List.{length-append, at_drop_more}
use Rattle.block_format.specs.Content.{frames_cut}
use Rattle.output_model.specs.Element.{Element, joined, octets_of}
use Rattle.output_model.specs.OutputBlock.{IsLent, prefixed}
use Rattle.output_model.specs.Block.{block_header, block_octets, lace_octets, reference_element}
use Rattle.mkv_schema.specs.declared.ids.TheConstants.{SIMPLE_BLOCK, BLOCK_GROUP}
use Rattle.cluster_writer.specs.declared.lent.BlockRef.{BlockRef}
use Rattle.cluster_writer.specs.declared.lent.BlockLengths.{BlockLengths}
use Rattle.cluster_writer.specs.Lent.{AreLengths, lent_of, block_of, sizes_put}
use Rattle.cluster_writer.specs.Lengths.{block_len, group_len, references_len, whole_len}
use Rattle.cluster_writer.proofs.LengthLemmas.{length-header, length-lent, sizes-lent, length-frames}

-- ---- elements in sequence

joined-more : {X : Type 0} (f : X → Element) (xs : List X) (i : ℕ) (d : X) → i < length xs
    → joined (map f (drop i xs)) ≡ octets_of (f (get_or xs i d)) ++ joined (map f (drop (i + 1) xs))
joined-more f xs i d within = at_drop_more (λ ys. joined (map f ys)) xs i d within

-- ---- a block

-- A Block is its header, the bytes before the frames, and the frames.
pub block-parts : (timestamp : ℕ) (b : BlockRef) → IsLent (lent_of b)
    → block_octets timestamp (block_of b)
    ≡ block_header timestamp (block_of b) ++ (lace_octets b.head.now.lace (sizes_put b) ++ concat (prefixed b.prefix.now (frames_cut b.sizes.now b.body.now)))
block-parts timestamp b is =
    ap (λ ss. block_header timestamp (block_of b) ++ (lace_octets b.head.now.lace ss ++ concat (prefixed b.prefix.now (frames_cut b.sizes.now b.body.now)))) (sizes-lent (lent_of b) is)

pub length-put : (timestamp : ℕ) (b : BlockRef) → IsLent (lent_of b) → length (block_octets timestamp (block_of b)) ≡ block_len b.head.now.lace (sizes_put b)
length-put timestamp b is =
    let frames : List ℕ = concat (prefixed b.prefix.now (frames_cut b.sizes.now b.body.now)) in
    let front : List ℕ = lace_octets b.head.now.lace (sizes_put b) in
    omega (
      arith,
      ap length (block-parts timestamp b is),
      length-append (block_header timestamp (block_of b)) (front ++ frames),
      length-append front frames,
      length-header timestamp (block_of b),
      length-frames (lent_of b) is,
    )

-- ---- its lengths

-- A group is its header and its body.
pub whole-grouped : (b : BlockRef) (l : BlockLengths) → IsLent (lent_of b) → AreLengths b l → b.head.now.group ≡ true → l.whole ≡ whole_len BLOCK_GROUP l.body
whole-grouped b l is lengths group =
    let block : ℕ = block_len b.head.now.lace (sizes_put b) in
    let within : ℕ → ℕ = λ n. group_len b.head.now n b.references.now (length b.kept.now) in
    let counted : Bool → ℕ = λ g. if g then whole_len BLOCK_GROUP (within block) else whole_len SIMPLE_BLOCK block in
    let body : l.body ≡ within block = lengths.body ∙ ap (λ g. if g then within l.block else l.block) group ∙ ap within lengths.block in
    lengths.whole ∙ length-lent b.tick b.lane b.tick (lent_of b) is ∙ ap counted group ∙ ap (whole_len BLOCK_GROUP) (sym body)

-- A SimpleBlock is its header and the Block.
pub whole-alone : (b : BlockRef) (l : BlockLengths) → IsLent (lent_of b) → AreLengths b l → b.head.now.group ≡ false → l.whole ≡ whole_len SIMPLE_BLOCK l.block
whole-alone b l is lengths alone =
    let block : ℕ = block_len b.head.now.lace (sizes_put b) in
    let within : ℕ → ℕ = λ n. group_len b.head.now n b.references.now (length b.kept.now) in
    let counted : Bool → ℕ = λ g. if g then whole_len BLOCK_GROUP (within block) else whole_len SIMPLE_BLOCK block in
    lengths.whole ∙ length-lent b.tick b.lane b.tick (lent_of b) is ∙ ap counted alone ∙ ap (whole_len SIMPLE_BLOCK) (sym lengths.block)

-- ---- the references of a group

-- The reference that was read is the next one.
references-more : (rs : List ℤ) (i : ℕ) (z : ℤ) → i < length rs → z ≡ get_or rs i (pos 0)
    → joined (map reference_element (drop i rs)) ≡ octets_of (reference_element z) ++ joined (map reference_element (drop (i + 1) rs))
references-more rs i z within is =
    joined-more reference_element rs i (pos 0) within ∙ ap (λ y. octets_of (reference_element y) ++ joined (map reference_element (drop (i + 1) rs))) (sym is)

pub references_len-more : (rs : List ℤ) (i : ℕ) (z : ℤ) → i < length rs → z ≡ get_or rs i (pos 0)
    → references_len (drop i rs) ≡ length (octets_of (reference_element z)) + references_len (drop (i + 1) rs)
references_len-more rs i z within is =
    ap length (references-more rs i z within is) ∙ length-append (octets_of (reference_element z)) (joined (map reference_element (drop (i + 1) rs)))

pub references-next : (rs : List ℤ) (i : ℕ) (z : ℤ) (written now all : List ℕ) → i < length rs → z ≡ get_or rs i (pos 0)
    → written ++ joined (map reference_element (drop i rs)) ≡ all → now ≡ written ++ octets_of (reference_element z)
    → now ++ joined (map reference_element (drop (i + 1) rs)) ≡ all
references-next rs i z written now all within is same added =
    ap (λ w. w ++ joined (map reference_element (drop (i + 1) rs))) added
    ∙ append_assoc written (octets_of (reference_element z)) (joined (map reference_element (drop (i + 1) rs)))
    ∙ ap (λ w. written ++ w) (sym (references-more rs i z within is)) ∙ same

pub references-room : (rs : List ℤ) (i : ℕ) (z : ℤ) (written before : List ℕ) → i < length rs → z ≡ get_or rs i (pos 0)
    → written ++ joined (map reference_element (drop i rs)) ≡ before ++ joined (map reference_element rs)
    → length written + length (octets_of (reference_element z)) ≤ length before + references_len rs
references-room rs i z written before within is same =
    omega (
      arith,
      references_len-more rs i z within is,
      ap length same,
      length-append written (joined (map reference_element (drop i rs))),
      length-append before (joined (map reference_element rs)),
    )
