-- A block that is placed in the output.
use Rattle.std.proofs.Common.{◌≡◌, ◌≤◌, ℕ, List, [], ◌∷◌, length, map, refl, sym, subst, arith}
use Rattle.std.specs.Prelude.{ℤ}
use Rattle.std.proofs.lemmas.List.{length-map}
use Rattle.lacing.specs.Writing.{FitsKind}
use Rattle.lacing.specs.declared.kind.Lace.{Lace}
use Rattle.lacing.specs.declared.kind.Lace.TheVariants as lace
use Rattle.block_format.specs.Content.{frames_cut}
use Rattle.block_format.specs.declared.limits.TheConstants.{MAX_BLOCK_LEN, MAX_REFERENCES}
use Rattle.block_reader.specs.Buffered.{Buffered}
use Rattle.block_reader.specs.Lendable.{IsLendable}
use Rattle.output_model.specs.OutputBlock.{IsLent}
use Rattle.output_model.specs.declared.TheConstants.{MAX_PREFIX_LEN}
use Rattle.output_model.specs.declared.heads.OutHead.{OutHead}
use Rattle.output_model.specs.Ticks.{ticks_to}
use Rattle.merge_model.specs.Links.{lace_for}
use Rattle.merge_model.specs.declared.link.TrackLink.{TrackLink}

-- ---- lacing

pub lace-one : (sizes body : List ℕ) (kind : Lace) → length sizes ≡ 1 → lace_for (frames_cut sizes body) kind ≡ lace.None
lace-one [] body kind is = absurd (omega arith)
lace-one (s ∷ []) body kind is = refl
lace-one (s ∷ r ∷ sizes) body kind is = absurd (omega arith)

pub lace-more : (sizes body : List ℕ) (kind : Lace) → (length sizes ≡ 1 → ⊥) → lace_for (frames_cut sizes body) kind ≡ kind
lace-more [] body kind is = refl
lace-more (s ∷ []) body kind is = absurd (is refl)
lace-more (s ∷ r ∷ sizes) body kind is = refl

pub ruleset laces = (lace-one, lace-more)

-- ---- a placed block can be written

fits-alone : (sizes body : List ℕ) (kind : Lace) → FitsKind kind sizes → 1 ≤ length sizes → FitsKind (lace_for (frames_cut sizes body) kind) sizes
fits-alone [] body kind fits some = absurd (omega arith)
fits-alone (s ∷ []) body kind fits some = refl
fits-alone (s ∷ r ∷ sizes) body kind fits some = fits

pub track-written : (scale time : ℕ) (t : TrackLink) (b : Buffered) (head : OutHead) (references : List ℤ) → length t.prefix ≤ MAX_PREFIX_LEN → IsLendable b → head.lace ≡ lace_for (frames_cut b.sizes b.body) b.head.lace → references ≡ map (ticks_to scale time) b.references
    → IsLent (record { head = head; prefix = t.prefix; body = b.body; sizes = b.sizes; references = references; kept = b.kept })
track-written scale time t b head references prefix lends lace are = record {
  limits = record {
    some = lends.some;
    most = lends.few.sizes;
    fits = subst (λ (kind : Lace). FitsKind kind b.sizes) (sym lace) (fits-alone b.sizes b.body b.head.lace lends.fits lends.some);
    total = subst (λ (n : ℕ). n ≤ MAX_BLOCK_LEN) (sym lends.few.cut) lends.few.body;
    prefix_most = prefix;
    references_most = subst (λ (rs : List ℤ). length rs ≤ MAX_REFERENCES) (sym are) (subst (λ (n : ℕ). n ≤ MAX_REFERENCES) (sym (length-map b.references (ticks_to scale time))) lends.few.most_references);
    kept_most = lends.few.kept;
  };
  whole = sym lends.few.cut;
}
