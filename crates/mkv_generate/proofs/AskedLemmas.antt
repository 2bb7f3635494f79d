-- The names that are opened and made for the files.
use Rattle.std.proofs.Common.{◌≡◌, ◌≢◌, ◌⊎◌, inl, inr, ℕ, List, [], ◌∷◌, sym, subst}
use Rattle.mkv_io.specs.Asked.{AsksOnly, IsNotAmong}
use Rattle.mkv_io.specs.declared.asked.Asked.{Asked}
use Rattle.mkv_io.specs.declared.asked.Asked.TheVariants.{Made, Opened}
use Rattle.mkv_io.proofs.AskedLemmas.{asks-fewer}
use Rattle.requests.specs.declared.merge.MergeWords.{MergeWords}
use Rattle.mkv_merge.specs.Asked.{AsksToMerge, IsBesidesMerge}
use Rattle.mkv_merge.specs.Opened.{opened_names}
use Rattle.mkv_generate.specs.declared.names.Names.{Names}
use Rattle.mkv_generate.specs.Asked.{AsksToGenerate, IsBesidesGenerate}
use Rattle.mkv_generate.specs.Generate.{both_words, parts_words}
use Rattle.lemmas.proofs.PlainLemmas.{bytes_eq-differ as other-name}

-- One of the two files is written.
pub file-asks : (names : Names) (name : List ℕ) (old new : List Asked) → (name ≡ names.pictures) ⊎ (name ≡ names.sounds) → AsksOnly [] (name ∷ []) old new → AsksToGenerate names old new
file-asks names name old new is asks = asks-fewer (IsNotAmong [] (name ∷ [])) (IsBesidesGenerate names) old new (λ asked besides. each asked is besides) asks
  where
    each : (asked : Asked) → (name ≡ names.pictures) ⊎ (name ≡ names.sounds) → IsBesidesGenerate names asked → IsNotAmong [] (name ∷ []) asked
    each (Opened other) is besides = tt
    each (Made other) (inl same) besides = (subst (λ (n : List ℕ). n ≢ other) (sym same) besides.0.0, tt)
    each (Made other) (inr same) besides = (subst (λ (n : List ℕ). n ≢ other) (sym same) besides.0.1.0, tt)

-- The two files are merged.
pub both-asks : (names : Names) (words : MergeWords) (old new : List Asked) → words ≡ both_words names → AsksToMerge (opened_names words) words old new → AsksToGenerate names old new
both-asks names words old new is asks =
    let P : MergeWords → Type 0 = λ w. AsksToMerge (opened_names w) w old new in
    asks-fewer (IsBesidesMerge (opened_names (both_words names)) (both_words names)) (IsBesidesGenerate names) old new each (subst P is asks)
  where
    each : (asked : Asked) → IsBesidesGenerate names asked → IsBesidesMerge (opened_names (both_words names)) (both_words names) asked
    each (Opened other) besides = (besides.0, (besides.1.0, tt))
    each (Made other) besides = other-name names.both other besides.0.1.1.0

-- The merged file is split.
pub parts-asks : (names : Names) (words : MergeWords) (old new : List Asked) → words ≡ parts_words names → AsksToMerge (opened_names words) words old new → AsksToGenerate names old new
parts-asks names words old new is asks =
    let P : MergeWords → Type 0 = λ w. AsksToMerge (opened_names w) w old new in
    asks-fewer (IsBesidesMerge (opened_names (parts_words names)) (parts_words names)) (IsBesidesGenerate names) old new each (subst P is asks)
  where
    each : (asked : Asked) → IsBesidesGenerate names asked → IsBesidesMerge (opened_names (parts_words names)) (parts_words names) asked
    each (Opened other) besides = (besides.1.1.0, tt)
    each (Made other) besides = besides.1
