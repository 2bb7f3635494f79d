-- Laws on the names after outputs were written, for callers that write outputs.
use Rattle.std.proofs.Common.{◌≡◌, ℕ, zero, suc, ◌<◌, List, [], ◌∷◌, ◌++◌, length, get_or, Option, Some, refl, ◌∙◌, ap, append_assoc, append-nil, arith}
use Rattle.mkv_io.specs.Contents.{with_appended}
use Rattle.mkv_io.specs.Names.{AreApart, AreOthers, Names, with_change, with_content}
use Rattle.mkv_io.proofs.NamesLemmas.{with_change-swap, with_content-appended}
use Rattle.mkv_outputs.specs.Outputs.{Output, names_of, with_more, with_outputs}

-- A change of a name that no output has commutes with writing them.
pub with_outputs-change : (names : Names) (outputs : List Output) (name : List ℕ) (change : Option (List ℕ) → Option (List ℕ)) → AreOthers name (names_of outputs) → with_change (with_outputs names outputs) name change ≡ with_outputs (with_change names name change) outputs
with_outputs-change names [] name change others = refl
with_outputs-change names (o ∷ os) name change others =
    with_outputs-change (with_content names o.name o.content) os name change others.1
    ∙ ap (λ (n : Names). with_outputs n os) (with_change-swap names name o.name change (λ _. Some o.content) others.0)

-- Bytes that are appended to an output.
pub with_outputs-more : (names : Names) (outputs : List Output) (k : ℕ) (name more : List ℕ) → AreApart (names_of outputs) → k < length outputs → name ≡ get_or (names_of outputs) k [] → with_change (with_outputs names outputs) name (with_appended more) ≡ with_outputs names (with_more k more outputs)
with_outputs-more names [] k name more apart below is = absurd (omega arith)
with_outputs-more names (o ∷ os) zero name more apart below is =
    ap (λ (n : List ℕ). with_change (with_outputs (with_content names o.name o.content) os) n (with_appended more)) is
    ∙ with_outputs-change (with_content names o.name o.content) os o.name (with_appended more) apart.0
    ∙ ap (λ (n : Names). with_outputs n os) (with_content-appended names o.name o.content more)
with_outputs-more names (o ∷ os) (suc k) name more apart below is = with_outputs-more (with_content names o.name o.content) os k name more apart.1 (omega arith) is

-- Another output after the others.
pub with_outputs-added : (names : Names) (outputs : List Output) (o : Output) → with_outputs names (outputs ++ o ∷ []) ≡ with_content (with_outputs names outputs) o.name o.content
with_outputs-added names [] o = refl
with_outputs-added names (first ∷ os) o = with_outputs-added (with_content names first.name first.content) os o

-- ---- more bytes at the end of an output

pub names_of-more : (k : ℕ) (more : List ℕ) (outputs : List Output) → names_of (with_more k more outputs) ≡ names_of outputs
names_of-more k more [] = refl
names_of-more zero more (o ∷ os) = refl
names_of-more (suc k) more (o ∷ os) = ap (λ (names : List (List ℕ)). o.name ∷ names) (names_of-more k more os)

-- No more bytes.
pub with_more-none : (k : ℕ) (outputs : List Output) → with_more k [] outputs ≡ outputs
with_more-none k [] = refl
with_more-none zero (o ∷ os) = ap (λ (content : List ℕ). record { name = o.name; content = content } ∷ os) (append-nil o.content)
with_more-none (suc k) (o ∷ os) = ap (λ (rest : List Output). o ∷ rest) (with_more-none k os)

-- Bytes that are appended twice are appended at once.
pub with_more-twice : (k : ℕ) (first next : List ℕ) (outputs : List Output) → with_more k next (with_more k first outputs) ≡ with_more k (first ++ next) outputs
with_more-twice k first next [] = refl
with_more-twice zero first next (o ∷ os) = ap (λ (content : List ℕ). record { name = o.name; content = content } ∷ os) (append_assoc o.content first next)
with_more-twice (suc k) first next (o ∷ os) = ap (λ (rest : List Output). o ∷ rest) (with_more-twice k first next os)
