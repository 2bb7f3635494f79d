-- The frames of a block that was read are frames that its kind of lace can have.
use Rattle.std.proofs.Common.{◌≡◌, ℕ, suc, ◌+◌, ◌≤◌, Bool, true, false, if◌then◌else◌, List, [], ◌∷◌, length, map, take, drop, sum, Option, Some, None, Result, Ok, Err, refl, sym, ap, ap₂, ◌∙◌, subst, arith}
use Rattle.std.proofs.lemmas.List.{length-take, length-drop}
use Rattle.std.proofs.lemmas.List.Sums.{sum_by-cons}
use Rattle.ebml_numbers.specs.Number.{AreOctets}
use Rattle.mkv_io.specs.declared.damage.Kind.{Kind}
use Rattle.mkv_io.specs.declared.damage.Kind.TheVariants.{ShortBlock}
use Rattle.lacing.specs.declared.kind.Lace.{Lace}
use Rattle.lacing.specs.declared.kind.Lace.TheVariants as lace
use Rattle.lacing.specs.Lace.{IsLaceHead}
use Rattle.lacing.specs.Reading.{lace_in}
use Rattle.lacing.specs.Writing.{FitsKind}
use Rattle.lacing.proofs.LaceLemmas.{lace_in-found}
use Rattle.block_format.specs.declared.limits.TheConstants.{MAX_BLOCK_LEN}
use Rattle.block_format.specs.Content.{Content, has_no_header, header_len, flags_in, data_in, frames_cut, frames_behind, laced_frames, frames_in, lace_of, content_with, content_in}
use Rattle.output_laws.specs.Blocks.{CanBeLaced}
use Rattle.ebml_numbers.proofs.SpelledLemmas.{AreOctets-drop}

-- the number of bytes of each frame
abbrev pub sizes_of : List (List ℕ) → List ℕ
sizes_of frames = map (λ (frame : List ℕ). length frame) frames

-- Frames that were cut have the sizes by which they were cut.
sizes-cut : (sizes octets : List ℕ) → sum sizes ≤ length octets → sizes_of (frames_cut sizes octets) ≡ sizes
sizes-cut [] octets fits = refl
sizes-cut (size ∷ sizes) octets fits =
    let total = sum_by-cons (λ (x : ℕ). x) size sizes in
    ap₂ (λ n ns. n ∷ ns) (length-take size octets ∙ omega arith) (sizes-cut sizes (drop size octets) (omega (arith, length-drop size octets)))

fits-head : (kind : Lace) (head sizes : List ℕ) → IsLaceHead kind head sizes → FitsKind kind sizes
fits-head lace.None head sizes is = is.0
fits-head lace.Xiph head sizes is = tt
fits-head lace.Fixed head sizes is = is.0
fits-head lace.Ebml head sizes is = tt

laced-laces : (kind : Lace) (octets : List ℕ) (frames : List (List ℕ)) → AreOctets octets → length octets ≤ MAX_BLOCK_LEN → laced_frames kind octets ≡ Ok frames → CanBeLaced kind (sizes_of frames)
laced-laces kind [] frames bytes short is = absurd (cc)
laced-laces kind (less_one ∷ octets) frames bytes short is = split (lace_in kind (less_one + 1) octets) refl is
  where
    split : (found : Option (List ℕ × ℕ)) → lace_in kind (less_one + 1) octets ≡ found → frames_behind octets found ≡ Ok frames → CanBeLaced kind (sizes_of frames)
    split None at made = absurd (cc)
    split (Some (sizes, head)) at made =
        let finds = lace_in-found kind (less_one + 1) octets sizes head (λ i. bytes (suc i)) at in
        let a_lace = finds.lace in
        let inside = finds.inside in
        let whole : length (take head octets) + sum sizes ≡ length octets = a_lace.whole in
        let part = length-take head octets in
        let rest = length-drop head octets in
        let same : frames_cut sizes (drop head octets) ≡ frames = cc in
        let sizes_are : sizes_of frames ≡ sizes = ap sizes_of (sym same) ∙ sizes-cut sizes (drop head octets) (omega arith) in
        subst (CanBeLaced kind) (sym sizes_are) (record { some = a_lace.some; most = a_lace.most; total = omega arith; fits = fits-head kind (take head octets) sizes a_lace.spelled })

frames-lace : (kind : Lace) (octets : List ℕ) (frames : List (List ℕ)) → AreOctets octets → length octets ≤ MAX_BLOCK_LEN → frames_in kind octets ≡ Ok frames → CanBeLaced kind (sizes_of frames)
frames-lace lace.None octets frames bytes short is =
    let same : octets ∷ [] ≡ frames = cc in
    let one : CanBeLaced lace.None (length octets ∷ []) = record { some = omega arith; most = omega arith; total = omega arith; fits = refl } in
    subst (λ (fs : List (List ℕ)). CanBeLaced lace.None (sizes_of fs)) same one
frames-lace lace.Xiph octets frames bytes short is = laced-laces lace.Xiph octets frames bytes short is
frames-lace lace.Fixed octets frames bytes short is = laced-laces lace.Fixed octets frames bytes short is
frames-lace lace.Ebml octets frames bytes short is = laced-laces lace.Ebml octets frames bytes short is

content-frames : (octets : List ℕ) (c : Content) → content_in octets ≡ Ok c → frames_in (lace_of c.flags) (drop (header_len octets) octets) ≡ Ok c.frames
unfolding content_in
content-frames octets c is = split (has_no_header octets) (frames_in (lace_of (flags_in octets)) (data_in octets)) refl is
  where
    split : (t : Bool) (found : Result (List (List ℕ)) Kind) → frames_in (lace_of (flags_in octets)) (data_in octets) ≡ found → (if t then Err ShortBlock else content_with octets found) ≡ Ok c
        → frames_in (lace_of c.flags) (drop (header_len octets) octets) ≡ Ok c.frames
    split true found at made = absurd (cc)
    split false (Err kind) at made = absurd (cc)
    split false (Ok frames) at made =
        let flags : flags_in octets ≡ c.flags = cc in
        let same : frames ≡ c.frames = cc in
        ap (λ f. frames_in (lace_of f) (data_in octets)) (sym flags) ∙ at ∙ ap (λ fs. Ok fs) same

-- The frames of a block that was read can be laced.
pub content-laces : (octets : List ℕ) (c : Content) → AreOctets octets → length octets ≤ MAX_BLOCK_LEN → content_in octets ≡ Ok c → CanBeLaced (lace_of c.flags) (sizes_of c.frames)
content-laces octets c bytes short is =
    let rest = length-drop (header_len octets) octets in
    frames-lace (lace_of c.flags) (drop (header_len octets) octets) c.frames (AreOctets-drop (header_len octets) octets bytes) (omega arith) (content-frames octets c is)
