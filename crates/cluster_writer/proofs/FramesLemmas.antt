-- Frames in sequence.
use Rattle.std.proofs.Common.{◌≡◌, ◌≤◌, ◌<◌, ℕ, ◌+◌, List, [], ◌∷◌, ◌++◌, length, map, take, drop, sum, slice_index, refl, sym, ap, ap₂, ◌*◌, ◌∙◌, nat_eq, true, arith}
use Rattle.std.specs.List.{concat}
use Rattle.std.proofs.lemmas.List.{length-append, length-take-le, length-drop, length-map, nil_from_length, take-append-drop, at_drop_more}
use Rattle.std.proofs.lemmas.List.Sums.{sum_by-drop_more, get_or-le-sum_by, sum_by-cons}
use Rattle.std.proofs.lemmas.List.Elements.{All-map}
use Rattle.std.proofs.lemmas.Bool.Decides.{nat_tests}
use Rattle.std.proofs.Math.Nat.{mul-le-mul}
use Rattle.lacing.specs.declared.kind.Lace.{Lace}
use Rattle.lacing.specs.declared.kind.Lace.TheVariants as lace
use Rattle.lacing.specs.Lace.{AreEqual}
use Rattle.lacing.specs.Writing.{FitsKind, CanLace}
use Rattle.block_format.specs.Content.{frames_cut}
use Rattle.output_model.specs.OutputBlock.{CanBeLent, prefixed}
use Rattle.cluster_writer.specs.Lengths.{prefixed_sizes}
pub use Rattle.lemmas.proofs.PlainLemmas.{length-concat}

-- frames of the sizes `sizes`, each after the prefix
abbrev pub prefixed_frames : List ℕ → List ℕ → List ℕ → List (List ℕ)
prefixed_frames prefix sizes body = prefixed prefix (frames_cut sizes body)

-- The next frame, then the rest.
pub frames-more : (prefix : List ℕ) (sizes rest : List ℕ) (i size : ℕ) → i < length sizes → size ≡ slice_index sizes i
    → concat (prefixed_frames prefix (drop i sizes) rest) ≡ (prefix ++ take size rest) ++ concat (prefixed_frames prefix (drop (i + 1) sizes) (drop size rest))
frames-more prefix sizes rest i size within is =
    at_drop_more (λ ss. concat (prefixed_frames prefix ss rest)) sizes i 0 within
    ∙ ap (λ s. (prefix ++ take s rest) ++ concat (prefixed_frames prefix (drop (i + 1) sizes) (drop s rest))) (sym is)

pub sum-more : (sizes : List ℕ) (i size : ℕ) → i < length sizes → size ≡ slice_index sizes i → sum (drop i sizes) ≡ size + sum (drop (i + 1) sizes)
sum-more sizes i size within is = sum_by-drop_more (λ x. x) sizes i 0 within ∙ ap (λ s. s + sum (drop (i + 1) sizes)) (sym is)

pub within-sum : (sizes : List ℕ) (i size : ℕ) → i < length sizes → size ≡ slice_index sizes i → size ≤ sum sizes
within-sum sizes i size within is = omega (arith, get_or-le-sum_by (λ x. x) sizes i 0 within, is)

-- The bytes written and the frames that are left make the whole.
pub record Goes (prefix body sizes rest written before : List ℕ) (i : ℕ) : Type 0 where
  pub same : written ++ concat (prefixed_frames prefix (drop i sizes) rest) ≡ before ++ concat (prefixed_frames prefix sizes body)
  pub whole : length rest ≡ sum (drop i sizes)

-- The next frame and its prefix fit in the rest.
pub Goes-room : (prefix body sizes rest written before : List ℕ) (i size : ℕ) → Goes prefix body sizes rest written before i
    → i < length sizes → size ≡ slice_index sizes i → length written + (length prefix + size) ≤ length before + length (concat (prefixed_frames prefix sizes body))
Goes-room prefix body sizes rest written before i size goes within is =
    let fits : size ≤ length rest = omega (arith, sum-more sizes i size within is, goes.whole) in
    let behind = concat (prefixed_frames prefix (drop (i + 1) sizes) (drop size rest)) in
    omega (
      arith,
      ap length goes.same,
      length-append written (concat (prefixed_frames prefix (drop i sizes) rest)),
      length-append before (concat (prefixed_frames prefix sizes body)),
      ap length (frames-more prefix sizes rest i size within is),
      length-append (prefix ++ take size rest) behind,
      length-append prefix (take size rest),
      length-take-le size rest fits,
    )

-- Without a prefix, the frames are the body.
frames-whole : (sizes body : List ℕ) → length body ≡ sum sizes → concat (prefixed_frames [] sizes body) ≡ body
frames-whole [] body whole = sym (nil_from_length body whole)
frames-whole (s ∷ ss) body whole =
    let rest = frames-whole ss (drop s body) (omega (arith, whole, length-drop s body, sum_by-cons (λ x. x) s ss)) in
    ap (λ w. take s body ++ w) rest ∙ take-append-drop s body

pub frames-alone : (prefix sizes body : List ℕ) → nat_eq (length prefix) 0 ≡ true → length body ≡ sum sizes → concat (prefixed_frames prefix sizes body) ≡ body
frames-alone [] sizes body none whole = frames-whole sizes body whole
frames-alone (x ∷ prefix) sizes body none whole = absurd (grind (arith, nat_tests, none))

-- ---- the sizes of frames with a prefix

-- Frames that are cut from enough bytes have the sizes `sizes`.
pub sizes-prefixed : (prefix sizes body : List ℕ) → sum sizes ≤ length body → map length (prefixed_frames prefix sizes body) ≡ prefixed_sizes (length prefix) sizes
sizes-prefixed prefix [] body enough = refl
sizes-prefixed prefix (s ∷ ss) body enough =
    let whole : s + sum ss ≤ length body = omega (arith, sum_by-cons (λ x. x) s ss) in
    let fits : s ≤ length body = omega arith in
    let first : length (prefix ++ take s body) ≡ length prefix + s = length-append prefix (take s body) ∙ ap (λ n. length prefix + n) (length-take-le s body fits) in
    let rest = sizes-prefixed prefix ss (drop s body) (omega (arith, length-drop s body)) in
    ap₂ (λ x xs. x ∷ xs) first rest

pub sum-prefixed : (p : ℕ) (sizes : List ℕ) → sum (prefixed_sizes p sizes) ≡ p * length sizes + sum sizes
sum-prefixed p [] = omega arith
sum-prefixed p (s ∷ ss) = omega (arith, sum-prefixed p ss, sum_by-cons (λ x. x) s ss, sum_by-cons (λ x. x) (p + s) (prefixed_sizes p ss))

-- A size with its prefix is at most the sum.
pub prefixed-within : (p : ℕ) (sizes : List ℕ) (i size : ℕ) → i < length sizes → size ≡ slice_index sizes i → p + size ≤ sum (prefixed_sizes p sizes)
prefixed-within p sizes i size within is =
    let some : 1 ≤ length sizes = omega arith in
    let same : p ≤ p = omega arith in
    omega (arith, sum-prefixed p sizes, within-sum sizes i size within is, mul-le-mul same some)

equal-prefixed : (p : ℕ) (sizes : List ℕ) → AreEqual sizes → AreEqual (prefixed_sizes p sizes)
equal-prefixed p [] same = tt
equal-prefixed p (s ∷ ss) same = All-map (λ other. other ≡ p + s) (λ size. p + size) ss (λ k d within. ap (λ x. p + x) (same k d within))

fits-prefixed : (kind : Lace) (p : ℕ) (sizes : List ℕ) → FitsKind kind sizes → FitsKind kind (prefixed_sizes p sizes)
fits-prefixed lace.None p sizes fits = length-map sizes (λ size. p + size) ∙ fits
fits-prefixed lace.Xiph p sizes fits = fits
fits-prefixed lace.Fixed p sizes fits = equal-prefixed p sizes fits
fits-prefixed lace.Ebml p sizes fits = fits

-- Without a prefix, the sizes are unchanged.
prefixed-none : (sizes : List ℕ) → prefixed_sizes 0 sizes ≡ sizes
prefixed-none [] = refl
prefixed-none (size ∷ sizes) = ap₂ (λ x (xs : List ℕ). x ∷ xs) (omega arith) (prefixed-none sizes)

pub prefixed-empty : (p : ℕ) (sizes : List ℕ) → p ≡ 0 → prefixed_sizes p sizes ≡ sizes
prefixed-empty p sizes none = ap (λ n. prefixed_sizes n sizes) none ∙ prefixed-none sizes

-- Frames within a block's limits can be laced with their prefix.
pub can-prefixed : (kind : Lace) (p : ℕ) (sizes : List ℕ) (references kept : ℕ) → CanBeLent kind p sizes references kept → CanLace kind (prefixed_sizes p sizes)
can-prefixed kind p sizes references kept lent =
    let count = length-map sizes (λ size. p + size) in
    let most = mul-le-mul lent.prefix_most lent.most in
    record {
      some = omega (arith, count, lent.some);
      most = omega (arith, count, lent.most);
      total = omega (arith, sum-prefixed p sizes, most, lent.total);
      fits = fits-prefixed kind p sizes lent.fits;
    }
