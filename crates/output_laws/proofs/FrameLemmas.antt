-- Frames that were read can be written, with bytes before each.
use Rattle.std.proofs.Common.{◌≡◌, ℕ, ◌+◌, ◌*◌, ◌≤◌, List, [], ◌∷◌, length, map, sum, All, length-append, sym, ap, ap₂, ◌∙◌, subst, refl, arith}
use Rattle.std.proofs.lemmas.List.{length-map}
use Rattle.std.proofs.lemmas.List.Elements.{All-nil, All-cons, All-head, All-tail}
use Rattle.std.proofs.lemmas.List.Sums.{sum_by-cons}
use Rattle.lacing.specs.declared.kind.Lace.{Lace}
use Rattle.lacing.specs.declared.kind.Lace.TheVariants as lace
use Rattle.lacing.specs.Lace.{AreEqual}
use Rattle.lacing.specs.Writing.{FitsKind, CanLace}
use Rattle.output_laws.specs.Blocks.{CanBeLaced}
use Rattle.output_model.specs.declared.TheConstants.{MAX_PREFIX_LEN}
use Rattle.output_model.specs.OutputBlock.{prefixed}

-- the sizes, each increased by the same number of bytes
abbrev longer_by : ℕ → List ℕ → List ℕ
longer_by n sizes = map (λ size. n + size) sizes

sizes-prefixed : (prefix : List ℕ) (frames : List (List ℕ)) → map length (prefixed prefix frames) ≡ longer_by (length prefix) (map length frames)
sizes-prefixed prefix [] = refl
sizes-prefixed prefix (frame ∷ frames) = ap₂ (λ n ns. n ∷ ns) (length-append prefix frame) (sizes-prefixed prefix frames)

sum-longer : (n : ℕ) (sizes : List ℕ) → n ≤ MAX_PREFIX_LEN → sum (longer_by n sizes) ≤ sum sizes + MAX_PREFIX_LEN * length sizes
sum-longer n [] small = omega arith
sum-longer n (size ∷ sizes) small =
    let total = sum_by-cons (λ (x : ℕ). x) size sizes in
    let longer = sum_by-cons (λ (x : ℕ). x) (n + size) (longer_by n sizes) in
    let rest = sum-longer n sizes small in
    omega arith

equal-longer : (n : ℕ) (sizes : List ℕ) → AreEqual sizes → AreEqual (longer_by n sizes)
equal-longer n [] equal = tt
equal-longer n (size ∷ sizes) equal = each sizes equal
  where
    each : (ss : List ℕ) → All (λ other. other ≡ size) ss → All (λ other. other ≡ n + size) (longer_by n ss)
    each [] all = All-nil (λ other. other ≡ n + size)
    each (s ∷ ss) all =
        All-cons (λ other. other ≡ n + size) (n + s) (longer_by n ss) (ap (λ k. n + k) (All-head (λ other. other ≡ size) s ss all)) (each ss (All-tail (λ other. other ≡ size) s ss all))

fits-longer : (kind : Lace) (n : ℕ) (sizes : List ℕ) → FitsKind kind sizes → FitsKind kind (longer_by n sizes)
fits-longer lace.None n sizes fits = length-map sizes (λ s. n + s) ∙ fits
fits-longer lace.Xiph n sizes fits = tt
fits-longer lace.Fixed n sizes fits = equal-longer n sizes fits
fits-longer lace.Ebml n sizes fits = tt

pub frames-can : (kind : Lace) (prefix : List ℕ) (frames : List (List ℕ)) → CanBeLaced kind (map length frames) → length prefix ≤ MAX_PREFIX_LEN → CanLace kind (map length (prefixed prefix frames))
frames-can kind prefix frames laces small =
    let sizes : List ℕ = map length frames in
    let longer = sum-longer (length prefix) sizes small in
    let count = length-map sizes (λ s. length prefix + s) in
    let some = laces.some in
    let most = laces.most in
    let total = laces.total in
    subst (CanLace kind) (sym (sizes-prefixed prefix frames))
    (record { some = omega arith; most = omega arith; total = omega arith; fits = fits-longer kind (length prefix) sizes laces.fits })
