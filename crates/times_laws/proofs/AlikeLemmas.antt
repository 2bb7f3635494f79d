-- Sources with the same blocks.
use Rattle.std.proofs.Common.{◌≡◌, ◌<◌, ℕ, zero, suc, ◌+◌, ◌==◌, Bool, true, false, if◌then◌else◌, List, [], ◌∷◌, ◌++◌, map, refl, sym, ap, ap₂, subst, ◌∙◌, arith, None}
use Rattle.std.proofs.lemmas.Bool.Decides.{nat_tests}
use Rattle.std.specs.List.{zip}
use Rattle.ext_times.specs.Listing.{Listing}
use Rattle.input_files.specs.declared.times_file.TimesFile.{TimesFile}
use Rattle.merge_model.specs.Ends.{file_end}
use Rattle.merge_model.specs.Links.{Given}
use Rattle.merge_inputs.specs.Input.{InputRead}
use Rattle.merge_inputs.specs.Taken.{value_for}
use Rattle.merge_plan.specs.Places.{begun_at, end_of, in_place_from}
use Rattle.merge_plan.specs.Plan.{Source, given_from, given_of, append_offset}
use Rattle.merge_plan.specs.Records.{is_appended}
use Rattle.mkv_merge.specs.Texts.{listings_at, timed_from, with_listings}
use Rattle.times_laws.proofs.BareLemmas.{AreAlike, bare, untimed}
use Rattle.times_laws.proofs.GivenLemmas.{GivesTheSame}

-- The sources `new` and `old` differ only in the timestamps of files, and have the same blocks with any append offset.
pub record IsAlike (new old : Source) : Type 0 where
  pub bare : bare new ≡ bare old
  pub given : (shift : ℕ) → map (given_from new.1.times shift new.1.blocks new.0) new.1.taken ≡ map (given_from old.1.times shift old.1.blocks old.0) old.1.taken

abbrev pub AllAlike : List Source → List Source → Type 0
AllAlike [] [] = Unit {0}
AllAlike [] (s ∷ ss) = ⊥
AllAlike (s ∷ ss) [] = ⊥
AllAlike (n ∷ new) (o ∷ old) = IsAlike n o × AllAlike new old

all-same : (sources : List Source) → AllAlike sources sources
all-same [] = tt
all-same (s ∷ ss) = (record { bare = refl; given = λ shift. refl }, all-same ss)

-- ---- sources with append offsets

-- Alike sources that begin at the time `time` give the same blocks.
begun-alike : (time : ℕ) (new old : Source) → IsAlike new old → given_of (begun_at time new) ≡ given_of (begun_at time old)
begun-alike time new old is =
    ap (λ (s : Source). map (given_from new.1.times (append_offset (begun_at time s).1) new.1.blocks new.0) new.1.taken) is.bare ∙ is.given (append_offset (begun_at time old).1)

ends-alike : (time : ℕ) (new old : Source) → IsAlike new old → end_of (begun_at time new) ≡ end_of (begun_at time old)
ends-alike time new old is =
    ap₂ (λ (s : Source) (given : List Given). append_offset (begun_at time s).1 + file_end given) is.bare (begun-alike time new old is)

pub placed-alike : (time : ℕ) (new old : List Source) → AllAlike new old → AreAlike (in_place_from time new) (in_place_from time old)
placed-alike time [] [] are = record { bare = refl; given = refl }
placed-alike time [] (o ∷ old) are = absurd are
placed-alike time (n ∷ new) [] are = absurd are
placed-alike time (n ∷ new) (o ∷ old) are =
    let rest = placed-alike (end_of (begun_at time o)) new old are.1 in
    let ends = ends-alike time n o are.0 in
    record {
      bare = ap₂ (λ (s : Source) (ss : List Source). s ∷ ss) (ap (begun_at time) are.0.bare) (ap (λ (e : ℕ). map bare (in_place_from e new)) ends ∙ rest.bare);
      given = ap₂ (λ (g : List Given) (gs : List (List Given)). g ∷ gs) (begun-alike time n o are.0) (ap (λ (e : ℕ). map given_of (in_place_from e new)) ends ∙ rest.given);
    }

-- ---- a fact at one place of a list

abbrev pub At : {A : Type 0} → ℕ → (A → Type 0) → List A → Type 0
At k P [] = Unit {0}
At zero P (x ∷ xs) = P x
At (suc k) P (x ∷ xs) = At k P xs

-- ---- inputs with timestamps of files

timed-bare : (files : List TimesFile) (n : ℕ) (reads : List InputRead) → map untimed (timed_from files n reads) ≡ map untimed reads
timed-bare files n [] = refl
timed-bare files n (i ∷ is) = ap (λ (rest : List InputRead). untimed i ∷ rest) (timed-bare files (suc n) is)

-- The inputs are the same without timestamps, for any files.
pub timed-same : (new old : List TimesFile) (n : ℕ) (reads : List InputRead) → map untimed (timed_from new n reads) ≡ map untimed (timed_from old n reads)
timed-same new old n reads = timed-bare new n reads ∙ sym (timed-bare old n reads)

-- An input with one more listing has the same blocks.
one-alike : (id : ℕ) (times : Listing) (before behind : List (ℕ × Listing)) (bytes : List ℕ) (i : InputRead) → value_for id behind ≡ None → GivesTheSame id times bytes i
    → IsAlike (bytes, with_listings (before ++ (id, times) ∷ behind) i) (bytes, with_listings (before ++ behind) i)
one-alike id times before behind bytes i none is = record { bare = refl; given = λ shift. by_place shift (is_appended i) }
  where
    by_place : (shift : ℕ) (b : Bool) → map (given_from (if b then [] else before ++ (id, times) ∷ behind) shift i.blocks bytes) i.taken ≡ map (given_from (if b then [] else before ++ behind) shift i.blocks bytes) i.taken
    by_place shift true = refl
    by_place shift false = is.given before behind shift none

-- The files `new` list the timestamps `times` for the track `id` of an input besides those of `old`. No later file lists any for the same track.
pub record ListsMore (input id : ℕ) (times : Listing) (new old : List TimesFile) : Type 0 where
  pub before : List (ℕ × Listing)
  pub behind : List (ℕ × Listing)
  pub with : listings_at input new ≡ before ++ (id, times) ∷ behind
  pub without : listings_at input old ≡ before ++ behind
  pub alone : value_for id behind ≡ None
  pub others : (other : ℕ) → (input == other) ≡ false → listings_at other new ≡ listings_at other old

module _ (input id : ℕ) (times : Listing) (new old : List TimesFile) (more : ListsMore input id times new old) where
  -- Nothing changes after that input.
  behind : (n : ℕ) (reads : List InputRead) → input < n → timed_from new n reads ≡ timed_from old n reads
  behind n [] past = refl
  behind n (i ∷ is) past =
      let other : (input == n) ≡ false = grind (arith, nat_tests) in
      ap₂ (λ (first : InputRead) (rest : List InputRead). first ∷ rest) (ap (λ (l : List (ℕ × Listing)). with_listings l i) (more.others n other)) (behind (suc n) is (omega arith))

  pub timed-alike : (k n : ℕ) (contents : List (List ℕ)) (reads : List InputRead) → n + k ≡ input → At k (λ (s : Source). GivesTheSame id times s.0 s.1) (zip contents reads)
      → AllAlike (zip contents (timed_from new n reads)) (zip contents (timed_from old n reads))
  timed-alike k n [] reads sum gives = tt
  timed-alike k n (c ∷ cs) [] sum gives = tt
  timed-alike zero n (c ∷ cs) (i ∷ is) sum gives =
      let same : input ≡ n = omega arith in
      let with_it : listings_at n new ≡ more.before ++ (id, times) ∷ more.behind = subst (λ (m : ℕ). listings_at m new ≡ more.before ++ (id, times) ∷ more.behind) same more.with in
      let without : listings_at n old ≡ more.before ++ more.behind = subst (λ (m : ℕ). listings_at m old ≡ more.before ++ more.behind) same more.without in
      let rest = behind (suc n) is (omega arith) in (
        subst (λ (l : List (ℕ × Listing)). IsAlike (c, with_listings l i) (c, with_listings (listings_at n old) i)) (sym with_it)
            (subst (λ (l : List (ℕ × Listing)). IsAlike (c, with_listings (more.before ++ (id, times) ∷ more.behind) i) (c, with_listings l i)) (sym without) (one-alike id times more.before more.behind c i more.alone gives)),
        subst (λ (rs : List InputRead). AllAlike (zip cs rs) (zip cs (timed_from old (suc n) is))) (sym rest) (all-same (zip cs (timed_from old (suc n) is))),
      )
  timed-alike (suc k) n (c ∷ cs) (i ∷ is) sum gives =
      let other : (input == n) ≡ false = grind (arith, nat_tests) in (
        subst (λ (l : List (ℕ × Listing)). IsAlike (c, with_listings l i) (c, with_listings (listings_at n old) i)) (sym (more.others n other)) (record { bare = refl; given = λ shift. refl }),
        timed-alike k (suc n) cs is (omega arith) gives,
      )
