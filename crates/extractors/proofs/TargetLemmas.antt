-- The files of targets, written in sequence.
use Rattle.std.proofs.Common.{◌≡◌, ◌≢◌, ℕ, zero, suc, ◌+◌, ◌<◌, List, [], ◌∷◌, ◌++◌, length, take, drop, get_or, Result, Ok, Err, IsErr, refl, sym, ◌∙◌, ap, subst, arith, append-nil}
use Rattle.std.specs.List.{flat_map}
use Rattle.std.proofs.Math.Seq.{take-suc}
use Rattle.std.proofs.lemmas.Grind.{flat_map-append}
use Rattle.std.proofs.lemmas.List.{take-append-drop}
use Rattle.mkv_io.specs.Names.{AreOthers, Names, with_content}
use Rattle.mkv_io.specs.Writing.{KeepsOthers}
use Rattle.mkv_io.specs.declared.reads.Reads.{Ghosts}
use Rattle.mkv_io.specs.declared.files.Files as writing
use Rattle.mkv_io.proofs.WritingLemmas.{KeepsOthers-more}
use Rattle.requests.specs.declared.job.Target.{Target}
use Rattle.mkv_outputs.specs.Outputs.{Output, with_outputs}
use Rattle.mkv_outputs.specs.Starts.{AreBegun, ArePrefixes}
use Rattle.mkv_outputs.proofs.StartsLemmas.{IsBegun-whole, ArePrefixes-before}
use Rattle.extractors.specs.Job.{names_of}
use Rattle.extractors.specs.Whole.{AreWritten}

-- ---- one of several names

pub AreOthers-target : (name : List ℕ) (targets : List Target) (k : ℕ) (t : Target) → AreOthers name (names_of targets) → k < length targets → t ≡ get_or targets k t → AreOthers name (t.name ∷ [])
AreOthers-target name targets k t others below is = (λ same. at targets k others below (ap (λ (each : Target). each.name) (sym is) ∙ same), tt)
  where
    at : (ts : List Target) (i : ℕ) → AreOthers name (names_of ts) → i < length ts → (get_or ts i t).name ≢ name
    at [] i none inside = absurd (omega arith)
    at (first ∷ rest) zero none inside = none.0
    at (first ∷ rest) (suc i) none inside = at rest i none.1 (omega arith)

pub KeepsOthers-target : {S : Type 0} (r : Ghosts S) (f : writing.Ghosts S) (old new : S) (targets : List Target) (k : ℕ) (t : Target) → k < length targets → t ≡ get_or targets k t → KeepsOthers r f (t.name ∷ []) old new → KeepsOthers r f (names_of targets) old new
KeepsOthers-target r f old new targets k t below is kept =
    KeepsOthers-more r f (t.name ∷ []) (names_of targets) old new (λ name others. AreOthers-target name targets k t others below is) kept

-- ---- outputs after others

with_outputs-both : (names : Names) (first next : List Output) → with_outputs names (first ++ next) ≡ with_outputs (with_outputs names first) next
with_outputs-both names [] next = refl
with_outputs-both names (o ∷ os) next = with_outputs-both (with_content names o.name o.content) os next

AreBegun-behind : (done some all : List Output) → AreBegun some all → AreBegun (done ++ some) (done ++ all)
AreBegun-behind [] some all begun = begun
AreBegun-behind (o ∷ os) some all begun = (IsBegun-whole o, AreBegun-behind os some all begun)

-- Some outputs were written, and a further one in part.
ArePrefixes-behind : (old mid new : Names) (done next : List Output) → mid ≡ with_outputs old done → ArePrefixes mid new next → ArePrefixes old new (done ++ next)
ArePrefixes-behind old mid new done next whole part = record {
  stand = done ++ part.stand;
  begun = AreBegun-behind done part.stand next part.begun;
  names = part.names ∙ ap (λ (names : Names). with_outputs names part.stand) whole ∙ sym (with_outputs-both old done part.stand);
}

-- ---- one target after another

-- the outputs of one more target
outputs-next : (outputs : Target → List Output) (targets : List Target) (k : ℕ) (t : Target) → k < length targets → t ≡ get_or targets k t → flat_map outputs (take (k + 1) targets) ≡ flat_map outputs (take k targets) ++ outputs t
outputs-next outputs targets k t below is =
    ap (λ (n : ℕ). flat_map outputs (take n targets)) (one_more k)
    ∙ ap (flat_map outputs) (take-suc targets k t below ∙ ap (λ (each : Target). take k targets ++ each ∷ []) (sym is))
    ∙ flat_map-append outputs (take k targets) (t ∷ [])
    ∙ ap (λ (os : List Output). flat_map outputs (take k targets) ++ os) (append-nil (outputs t))
  where
    one_more : (n : ℕ) → n + 1 ≡ suc n
    one_more n = omega arith

-- The outputs were written.
pub written-more : (outputs : Target → List Output) (targets : List Target) (k : ℕ) (t : Target) (old mid new : Names) → k < length targets → t ≡ get_or targets k t → mid ≡ with_outputs old (flat_map outputs (take k targets)) → new ≡ with_outputs mid (outputs t) → new ≡ with_outputs old (flat_map outputs (take (k + 1) targets))
written-more outputs targets k t old mid new below is so more =
    more ∙ ap (λ (names : Names). with_outputs names (outputs t)) so
    ∙ sym (with_outputs-both old (flat_map outputs (take k targets)) (outputs t))
    ∙ ap (with_outputs old) (sym (outputs-next outputs targets k t below is))

-- The outputs were written in part.
pub written-part : {T E : Type 0} (outputs : Target → List Output) (targets : List Target) (k : ℕ) (t : Target) (old mid new : Names) (result : Result T E) → IsErr result → k < length targets → t ≡ get_or targets k t → mid ≡ with_outputs old (flat_map outputs (take k targets)) → ArePrefixes mid new (outputs t) → AreWritten old new (flat_map outputs targets) result
written-part outputs targets k t old mid new (Ok done) fails below is so part = absurd (cc)
written-part outputs targets k t old mid new (Err fault) fails below is so part =
    subst (ArePrefixes old new) whole
    (ArePrefixes-before old new (flat_map outputs (take (k + 1) targets)) (flat_map outputs (drop (k + 1) targets))
    (subst (ArePrefixes old new) (sym (outputs-next outputs targets k t below is))
    (ArePrefixes-behind old mid new (flat_map outputs (take k targets)) (outputs t) so part)))
  where
    whole : flat_map outputs (take (k + 1) targets) ++ flat_map outputs (drop (k + 1) targets) ≡ flat_map outputs targets
    whole =
        sym (flat_map-append outputs (take (k + 1) targets) (drop (k + 1) targets))
        ∙ ap (flat_map outputs) (take-append-drop (k + 1) targets)
