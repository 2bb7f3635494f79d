-- A SimpleBlock, as far as its first bytes settle it.
use Rattle.std.proofs.Common.{◌≡◌, ◌≤◌, ◌+◌, ◌-◌, ℕ, suc, ℤ, Bool, true, false, if◌then◌else◌, List, [], ◌∷◌, length, take, drop, Option, Some, None, Result, Ok, Err, refl, sym, ◌∙◌, ap, subst, arith}
use Rattle.std.specs.Option.{option_map, option_map_or}
use Rattle.std.proofs.lemmas.Bool.{cond-true, cond-false}
use Rattle.std.proofs.lemmas.List.{length-drop, drop-take}
use Rattle.ebml_numbers.specs.Number.{AreOctets}
use Rattle.ebml_numbers.proofs.SpelledLemmas.{AreOctets-drop}
use Rattle.lacing.specs.declared.kind.Lace.{Lace}
use Rattle.lacing.specs.declared.kind.Lace.TheVariants as lace
use Rattle.lacing.specs.Settled.{is_settled}
use Rattle.lacing.proofs.SettledLemmas.{HasLace-settled}
use Rattle.mkv_io.specs.declared.damage.Damage.{Damage}
use Rattle.mkv_io.specs.declared.damage.Kind.{Kind}
use Rattle.mkv_io.specs.declared.damage.Kind.TheVariants.{TimeTooLarge}
use Rattle.mkv_schema.specs.declared.element.Header.{Header}
use Rattle.mkv_schema.specs.Element.{damage, known}
use Rattle.mkv_schema.specs.Outline.{where_it}
use Rattle.mkv_io.specs.Results.{unless}
use Rattle.mkv_schema.specs.Value.{body_of}
use Rattle.block_format.specs.declared.limits.TheConstants.{MAX_BLOCK_LEN}
use Rattle.block_format.specs.Block.{Block, has_too_large_time, simple_block_with}
use Rattle.block_format.specs.Content.{Content, data_in, flags_in, frames_behind, frames_cut, frames_in, has_no_header, header_len, laced_frames, lace_of}
use Rattle.block_format.specs.Elements.{in_time, simple_block, with_limits}
use Rattle.block_reader.specs.declared.content.BlockHeader.{BlockHeader}
use Rattle.block_reader.specs.declared.front.BlockPreview.{BlockPreview}
use Rattle.block_reader.specs.declared.head.BlockHead.{BlockHead}
use Rattle.block_reader.specs.Front.{HasHead, block_in_front, frame_count, front_head, front_track, head_of, head_with, laced_count}
use Rattle.block_reader.specs.Made.{MakesHead, block_with}
use Rattle.block_reader.specs.Spelled.{IsFront, header_in, header_of}
use Rattle.block_reader.proofs.BufferLemmas.{simple_block-spelled}
use Rattle.block_reader.proofs.ContentLemmas.{content_in-front, header_in-front}

-- ---- frames

pub length-frames_cut : (sizes octets : List ℕ) → length (frames_cut sizes octets) ≡ length sizes
length-frames_cut [] octets = refl
length-frames_cut (size ∷ sizes) octets = ap (λ (n : ℕ). suc n) (length-frames_cut sizes (drop size octets))

-- `found` has `n` frames.
abbrev pub HasFrames : Result (List (List ℕ)) Kind → ℕ → Type 0
HasFrames found n = (frames : List (List ℕ)) × (found ≡ Ok frames) × (length frames ≡ n)

-- The tail of a front is a front of the tail.
IsFront-tail : (x y : ℕ) (front octets : List ℕ) → IsFront (x ∷ front) (y ∷ octets) → (x ≡ y) × IsFront front octets
IsFront-tail x y front octets is =
    let first : x ≡ y = cc in
    let rest : front ≡ take (length front) octets = cc in
    (first, rest)

laced-settled : (kind : Lace) (front octets : List ℕ) (n : ℕ) → AreOctets front → IsFront front octets → laced_count kind front (length octets) ≡ Some n → HasFrames (laced_frames kind octets) n
laced-settled kind [] octets n are is settled = absurd (cc)
laced-settled kind (x ∷ front) [] n are is settled = absurd (cc)
laced-settled kind (x ∷ front) (y ∷ octets) n are is settled = go (is_settled kind (x + 1) front (length (y ∷ octets) - 1)) refl settled
  where
    len : length (y ∷ octets) - 1 ≡ length octets
    len = omega arith

    go : (b : Bool) → is_settled kind (x + 1) front (length (y ∷ octets) - 1) ≡ b → (if b then Some (x + 1) else None) ≡ Some n → HasFrames (laced_frames kind (y ∷ octets)) n
    go false test e = absurd (cc)
    go true test e =
        let split = IsFront-tail x y front octets is in
        let lace = HasLace-settled kind (x + 1) front octets (λ i. are (suc i)) split.1 (ap (is_settled kind (x + 1) front) (sym len) ∙ test) in
        let count : x + 1 ≡ n = cc in
        let frames = frames_cut lace.sizes (drop lace.head octets) in
        let P : ℕ → Type 0 = λ z. HasFrames (laced_frames kind (z ∷ octets)) n in
        subst P split.0 (frames, ap (frames_behind octets) lace.read, length-frames_cut lace.sizes (drop lace.head octets) ∙ lace.finds.count ∙ count)

-- A frame count that `front` settles holds for all bytes that begin with `front`.
pub frames-settled : (kind : Lace) (front octets : List ℕ) (n : ℕ) → AreOctets front → IsFront front octets → frame_count kind front (length octets) ≡ Some n → HasFrames (frames_in kind octets) n
frames-settled lace.None front octets n are is settled = let count : 1 ≡ n = cc in (octets ∷ [], refl, count)
frames-settled lace.Xiph front octets n are is settled = laced-settled lace.Xiph front octets n are is settled
frames-settled lace.Fixed front octets n are is settled = laced-settled lace.Fixed front octets n are is settled
frames-settled lace.Ebml front octets n are is settled = laced-settled lace.Ebml front octets n are is settled

-- The frame count in a reader's terms.
pub frame_count-read : (kind other : Lace) (front rest : List ℕ) (size len : ℕ) (found count : Option ℕ) → kind ≡ other → rest ≡ front → len ≡ size → found ≡ frame_count kind rest len → found ≡ count → frame_count other front size ≡ count
frame_count-read kind other front rest size len found count same behind long read is =
    sym (ap (λ (k : Lace). frame_count k rest len) same ∙ ap (λ (o : List ℕ). frame_count other o len) behind ∙ ap (frame_count other front) long) ∙ sym read ∙ is

-- ---- head of a block

-- the content with the header `b` and these frames
abbrev spelled : BlockHeader → ℤ → List (List ℕ) → Content
spelled b z frames = record { track = b.track; relative = z; flags = b.flags; frames = frames }

-- `found` is the head of the block for all frames.
abbrev pub Heads : ℕ → ℕ → Header → BlockHeader → ℤ → Result BlockHead Damage → Type 0
Heads scale timestamp h b z found =
    (frames : List (List ℕ)) → MakesHead frames [] [] (in_time (with_limits scale) h.id (simple_block_with scale timestamp h.offset (spelled b z frames))) found

-- A complete header, with `count` frames after it, gives the head.
pub front_head-found : (scale timestamp : ℕ) (h : Header) (front : List ℕ) (b : BlockHeader) (z : ℤ) (count : Option ℕ) → Some b ≡ header_in front → z ≡ b.relative → frame_count (lace_of b.flags) (drop b.len front) (known h.size - b.len) ≡ count
    → front_head scale timestamp h front ≡ head_with (simple_block_with scale timestamp h.offset (spelled b z [])) count
front_head-found scale timestamp h front b z count found same counted =
    let has = header_in-front front b found in
    cond-false (has_no_header front) None _ has.0
    ∙ ap (λ (x : BlockHeader). head_with (simple_block_with scale timestamp h.offset (record { track = x.track; relative = x.relative; flags = x.flags; frames = [] })) (frame_count (lace_of x.flags) (drop x.len front) (known h.size - x.len))) has.1
    ∙ ap (head_with (simple_block_with scale timestamp h.offset (spelled b b.relative []))) counted
    ∙ ap (λ (x : ℤ). head_with (simple_block_with scale timestamp h.offset (spelled b x [])) count) (sym same)

-- The time is too large.
in_time-large : (scale id : ℕ) (b : Block) (d : Damage) → in_time (with_limits scale) id b ≡ Err d → has_too_large_time b ≡ true
in_time-large scale id b d is = split (has_too_large_time b) refl is
  where
    split : (large : Bool) → has_too_large_time b ≡ large → unless (where_it large (damage TimeTooLarge id b.offset)) b ≡ Err d → has_too_large_time b ≡ true
    split true test e = test
    split false test e = absurd (cc)

-- A block in the limits is unchanged.
in_time-same : (scale id : ℕ) (b found : Block) → in_time (with_limits scale) id b ≡ Ok found → (has_too_large_time b ≡ false) × (b ≡ found)
in_time-same scale id b found is = split (has_too_large_time b) refl is
  where
    split : (large : Bool) → has_too_large_time b ≡ large → unless (where_it large (damage TimeTooLarge id b.offset)) b ≡ Ok found → (has_too_large_time b ≡ false) × (b ≡ found)
    split true test e = absurd (cc)
    split false test e = let same : b ≡ found = cc in (test, same)

pub head_with-large : (scale timestamp n : ℕ) (h : Header) (b : BlockHeader) (z : ℤ) (d : Damage) → Heads scale timestamp h b z (Err d) → head_with (simple_block_with scale timestamp h.offset (spelled b z [])) (Some n) ≡ None
head_with-large scale timestamp n h b z d makes =
    let made = simple_block_with scale timestamp h.offset (spelled b z []) in
    cond-true (has_too_large_time made) None _ (in_time-large scale h.id made d (makes []))

pub head_with-some : (scale timestamp n : ℕ) (h : Header) (b : BlockHeader) (z : ℤ) (head : BlockHead) → Heads scale timestamp h b z (Ok head) → head_with (simple_block_with scale timestamp h.offset (spelled b z [])) (Some n) ≡ Some (record { head = head; frames = n })
head_with-some scale timestamp n h b z head makes =
    let made = simple_block_with scale timestamp h.offset (spelled b z []) in
    let same = in_time-same scale h.id made (block_with head [] [] []) (makes []) in
    cond-false (has_too_large_time made) None _ same.0
    ∙ ap (λ (x : BlockHead). Some (record { head = x; frames = n })) (ap head_of same.1)

-- ---- track

-- A head has its block's track.
head_with-track : (b : Block) (frames : Option ℕ) (found : BlockPreview) → head_with b frames ≡ Some found → b.track ≡ found.head.track
head_with-track b None found is = absurd (cc)
head_with-track b (Some n) found is = timed (has_too_large_time b) is
  where
    timed : (large : Bool) → (if large then None else Some (record { head = head_of b; frames = n })) ≡ Some found → b.track ≡ found.head.track
    timed true e = absurd (cc)
    timed false e = ap (λ (o : Option BlockPreview). option_map_or (λ (f : BlockPreview). f.head.track) o 0) e

-- Without a settled track nothing is settled.
pub front_track-cut : (scale timestamp : ℕ) (h : Header) (front : List ℕ) → front_track front ≡ None → front_head scale timestamp h front ≡ None
front_track-cut scale timestamp h front none = cut (has_no_header front) refl none
  where
    cut : (test : Bool) → has_no_header front ≡ test → option_map (λ (x : BlockHeader). x.track) (if test then None else Some (header_of front)) ≡ None
        → front_head scale timestamp h front ≡ None
    cut true test e = cond-true (has_no_header front) None _ test
    cut false test e = absurd (cc)

-- The settled head has the settled track.
pub front_track-head : (scale timestamp : ℕ) (h : Header) (front : List ℕ) (found : BlockPreview) → front_head scale timestamp h front ≡ Some found → front_track front ≡ Some found.head.track
front_track-head scale timestamp h front found is = cut (has_no_header front) is
  where
    count : Option ℕ
    count = frame_count (lace_of (flags_in front)) (data_in front) (known h.size - header_len front)

    cut : (none : Bool) → (if none then None else head_with (block_in_front scale timestamp h.offset front) count) ≡ Some found
        → option_map (λ (x : BlockHeader). x.track) (if none then None else Some (header_of front)) ≡ Some found.head.track
    cut true e = absurd (cc)
    cut false e = ap (λ (n : ℕ). Some n) (head_with-track (block_in_front scale timestamp h.offset front) count found e)

-- ---- the whole block

-- After the header too, the front is a front of the body.
IsFront-drop : (front octets : List ℕ) (n : ℕ) → IsFront front octets → n ≤ length front → IsFront (drop n front) (drop n octets)
IsFront-drop front octets n is inside =
    let left = length-drop n front in
    let whole : n + (length front - n) ≡ length front = omega arith in
    ap (drop n) is ∙ ap (λ (k : ℕ). drop n (take k octets)) (sym whole) ∙ drop-take n (length front - n) octets ∙ ap (λ (k : ℕ). take k (drop n octets)) (sym left)

-- A reader finds each block with the head that `front` settles.
pub HasHead-settled : (scale timestamp n : ℕ) (bytes front : List ℕ) (h : Header) (b : BlockHeader) (z : ℤ) (head : BlockHead) → AreOctets front → known h.size ≤ MAX_BLOCK_LEN → length (body_of bytes h) ≡ known h.size → IsFront front (body_of bytes h)
    → Some b ≡ header_in front → z ≡ b.relative → frame_count (lace_of b.flags) (drop b.len front) (known h.size - b.len) ≡ Some n → Heads scale timestamp h b z (Ok head)
    → HasHead (record { head = head; frames = n }) (simple_block (with_limits scale) bytes (Some timestamp) h)
HasHead-settled scale timestamp n bytes front h b z head are few long is found same counted makes =
    let octets = body_of bytes h in
    let has = header_in-front front b found in
    let left : length (drop b.len octets) ≡ known h.size - b.len = length-drop b.len octets ∙ ap (λ (k : ℕ). k - b.len) long in
    let frames = frames-settled (lace_of b.flags) (drop b.len front) (drop b.len octets) n (AreOctets-drop b.len front are) (IsFront-drop front octets b.len is has.2) (ap (frame_count (lace_of b.flags) (drop b.len front)) left ∙ counted) in
    record {
      given = block_with head frames.0 [] [];
      head = refl;
      frames = frames.2;
      is =
          simple_block-spelled scale timestamp bytes octets h (Ok (spelled b b.relative frames.0)) few refl (content_in-front front octets b frames.0 is found frames.1)
          ∙ ap (λ (x : ℤ). in_time (with_limits scale) h.id (simple_block_with scale timestamp h.offset (spelled b x frames.0))) (sym same)
          ∙ makes frames.0;
    }
