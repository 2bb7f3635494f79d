-- Input files that are opened in sequence, unaffected by writes, and closed.
use Rattle.std.proofs.Common.{◌≡◌, ◌≢◌, ℕ, suc, zero, ◌<◌, ◌≤◌, Bool, true, false, ◌⊎◌, inl, inr, List, [], ◌∷◌, ◌++◌, length, get_or, refl, sym, ◌∙◌, ap, subst, arith}
use Rattle.std.proofs.lemmas.List.Elements.{All-push}
use Rattle.std.proofs.lemmas.List.Quantifiers.{all_pairs_push}
use Rattle.mkv_io.specs.declared.outside.FileId.{FileId}
use Rattle.mkv_io.specs.Asked.{AsksOnly, IsNotAmong}
use Rattle.mkv_io.specs.LiveFiles.{IsSameFile, KeepsFiles, KeepsHolders}
use Rattle.mkv_io.specs.Names.{AreOthers}
use Rattle.mkv_io.specs.Sources.{live_files}
use Rattle.mkv_io.specs.declared.reads.Reads.{Ghosts}
use Rattle.mkv_io.specs.declared.files.Files as writing
use Rattle.mkv_io.specs.Writing.{UsesOnly}
use Rattle.mkv_io.proofs.AskedLemmas.{asks-both, asks-more, asks-none}
use Rattle.mkv_io.proofs.NamesLemmas.{others-behind, others-front}
use Rattle.mkv_io.proofs.WritingLemmas.{IsSameFile-twice}
use Rattle.mkv_outputs.specs.Sinks.{IsNoneOf, holders_of}
use Rattle.mkv_outputs.proofs.FilesLemmas.{AreLive-below, AreLive-on, IsNoneOf-below, is_ended}
use Rattle.mkv_outputs.proofs.GivenLemmas.{holders_of-kept}
use Rattle.input_files.specs.Inputs.{OpensInputs}
use Rattle.input_files.specs.Laws.{EndAsBegun, AreUnaffectedByWrites}

-- Live files have numbers that were given out.
abbrev pub AreNumbered : {S : Type 0} → Ghosts S → writing.Ghosts S → Type 0
AreNumbered {S} r f = (files : S) (file : ℕ) → (live_files r files).live file ≡ true → file < f.given files

-- ---- opening in sequence

-- The file `file` was opened with the name `name`.
pub record OpensOne {S : Type 0} (r : Ghosts S) (f : writing.Ghosts S) (name : List ℕ) (old new : S) (file : FileId) : Type 0 where
  pub least : f.given old ≤ file.n
  pub most : file.n < f.given new
  pub live : (live_files r new).live file.n ≡ true
  pub alone : (other : ℕ) → other ≢ file.n → (live_files r new).live other ≡ (live_files r old).live other
  pub holder : f.holder new file.n ≡ name
  pub holders : KeepsHolders (live_files r old).live (f.holder old) (f.holder new)
  pub others : KeepsFiles (live_files r old) (live_files r new) (λ other. other < f.given old)
  pub asks : AsksOnly (name ∷ []) [] (f.asked old) (f.asked new)

-- A number outside a longer list is outside the shorter one.
IsNoneOf-added : (list : List FileId) (f : FileId) (file : ℕ) → IsNoneOf file (list ++ f ∷ []) → IsNoneOf file list × (file ≢ f.n)
IsNoneOf-added [] f file none = (λ k d below. absurd (omega arith), λ same. none 0 f (omega arith) (sym same))
IsNoneOf-added (first ∷ list) f file none = behind (IsNoneOf-added list f file (λ k d below. none (suc k) d (omega arith)))
  where
    behind : IsNoneOf file list × (file ≢ f.n) → IsNoneOf file (first ∷ list) × (file ≢ f.n)
    behind both = (at both.0, both.1)
      where
        at : IsNoneOf file list → (k : ℕ) (d : FileId) → k < suc (length list) → (get_or (first ∷ list) k d).n ≢ file
        at rest zero d below = none 0 d (omega arith)
        at rest (suc k) d below = rest k d (omega arith)

-- One more file adds its name.
holders_of-added : (holder : ℕ → List ℕ) (list : List FileId) (f : FileId) → holders_of holder (list ++ f ∷ []) ≡ holders_of holder list ++ holder f.n ∷ []
holders_of-added holder [] f = refl
holders_of-added holder (first ∷ list) f = ap (λ (names : List (List ℕ)). holder first.n ∷ names) (holders_of-added holder list f)

-- One more file is opened.
pub OpensInputs-more : {S : Type 0} (r : Ghosts S) (f : writing.Ghosts S) (names : List (List ℕ)) (name : List ℕ) (a b c : S) (ids : List FileId) (file : FileId) → AreNumbered r f → OpensInputs r f names a b ids → OpensOne r f name b c file → OpensInputs r f (names ++ name ∷ []) a c (ids ++ file ∷ [])
OpensInputs-more r f names name a b c ids file numbered first next = record {
  inputs = record {
    live = All-push (λ (s : FileId). (live_files r c).live s.n ≡ true) ids file
        (AreLive-below (live_files r b).live (live_files r c).live (f.given b) ids first.inputs.live (numbered b) (λ other below. (next.others other below).alive)) next.live;
    rising = all_pairs_push (λ (s t : FileId). s.n < t.n) ids file first.inputs.rising
        (λ k d below. let lower = numbered b (get_or ids k d).n (first.inputs.live k d below) in let least = next.least in omega (arith, lower));
    under = holders_of-added (f.holder c) ids file
        ∙ ap (λ (before : List (List ℕ)). before ++ f.holder c file.n ∷ []) (holders_of-kept (live_files r b).live (f.holder b) (f.holder c) ids first.inputs.live next.holders ∙ first.inputs.under)
        ∙ ap (λ (last : List ℕ). names ++ last ∷ []) next.holder;
  };
  newer = All-push (λ (s : FileId). f.given a ≤ s.n) ids file first.newer (let earlier = first.given in let least = next.least in omega arith);
  besides = λ other none. let both = IsNoneOf-added ids file other none in next.alone other both.1 ∙ first.besides other both.0;
  given = let earlier = first.given in let least = next.least in let most = next.most in omega arith;
  holders = λ other live. next.holders other (stays other live) ∙ first.holders other live;
  others = λ other live. IsSameFile-twice (live_files r a) (live_files r b) (live_files r c) other (first.others other live)
      (next.others other (numbered b other (stays other live)));
  asks = asks-both (IsNotAmong (names ++ name ∷ []) []) (f.asked a) (f.asked b) (f.asked c)
      (asks-more names [] (names ++ name ∷ []) [] (f.asked a) (f.asked b) (λ other others. others-front other names (name ∷ []) others) (λ other others. others) first.asks)
      (asks-more (name ∷ []) [] (names ++ name ∷ []) [] (f.asked b) (f.asked c) (λ other others. others-behind other names (name ∷ []) others) (λ other others. others) next.asks);
}
  where
    stays : (other : ℕ) → (live_files r a).live other ≡ true → (live_files r b).live other ≡ true
    stays other live = (first.others other live).alive ∙ live

-- A file that isn't opened leaves everything unchanged.
pub UsesOnly-unopened : {S : Type 0} (r : Ghosts S) (f : writing.Ghosts S) (name : List ℕ) (old new : S) → r.standing new ≡ r.standing old → f.given new ≡ f.given old → KeepsHolders (live_files r old).live (f.holder old) (f.holder new)
    → AsksOnly (name ∷ []) [] (f.asked old) (f.asked new) → UsesOnly r f (name ∷ []) [] old new
UsesOnly-unopened r f name old new stands given holders asks = record {
  live = λ file. ap (λ standing. (r.files standing).live file) stands;
  given = omega (arith, given);
  holders = holders;
  others = λ file is. record {
    alive = ap (λ standing. (r.files standing).live file) stands;
    size = λ live. ap (λ standing. (r.files standing).size file) stands;
    content = λ live. ap (λ standing. (r.files standing).content file) stands;
  };
  asks = asks;
}

-- ---- writes to other files

pub stand-over : {S : Type 0} (r : Ghosts S) (f : writing.Ghosts S) → AreUnaffectedByWrites r f
stand-over r f names written old new ids are kept = record {
  inputs = record {
    live = AreLive-on (live_files r old).live (live_files r new).live ids are.live kept.live;
    rising = are.rising;
    under = holders_of-kept (live_files r old).live (f.holder old) (f.holder new) ids are.live kept.holders ∙ are.under;
  };
  same = λ k d below other. kept.others (get_or ids k d).n other;
}

-- ---- closing

pub end-as-begun : {S : Type 0} (r : Ghosts S) (f : writing.Ghosts S) → AreNumbered r f → EndAsBegun r f
end-as-begun r f numbered names uses written start opened done end ids opens kept ends = record {
  live = alive;
  given = let earlier = opens.given in let later = kept.given in omega (arith, ends.given);
  holders = λ file live. ends.holders file (alive file ∙ live) ∙ kept.holders file (stays file live) ∙ opens.holders file live;
  others = λ file other. record {
    alive = alive file;
    size = λ live. (same file other live).size live;
    content = λ live. (same file other live).content live;
  };
  asks = asks-both (IsNotAmong (names ++ uses) written) (f.asked start) (f.asked opened) (f.asked end)
      (asks-more names [] (names ++ uses) written (f.asked start) (f.asked opened) (λ name others. others-front name names uses others) (λ name others. tt) opens.asks)
      (asks-both (IsNotAmong (names ++ uses) written) (f.asked opened) (f.asked done) (f.asked end)
      (asks-more uses written (names ++ uses) written (f.asked opened) (f.asked done) (λ name others. others-behind name names uses others) (λ name others. others) kept.asks)
      (asks-none (IsNotAmong (names ++ uses) written) (f.asked done) (f.asked end) ends.asked));
}
  where
    -- A file that was live before isn't among the inputs.
    old : (file : ℕ) → (live_files r start).live file ≡ true → IsNoneOf file ids
    old file live = IsNoneOf-below ids (f.given start) file opens.newer (numbered start file live)

    stays : (file : ℕ) → (live_files r start).live file ≡ true → (live_files r opened).live file ≡ true
    stays file live = (opens.others file live).alive ∙ live

    same : (file : ℕ) → AreOthers (f.holder start file) written → (live_files r start).live file ≡ true → IsSameFile (live_files r start) (live_files r end) file
    same file other live =
        let P : List ℕ → Type 0 = λ name. AreOthers name written in
        IsSameFile-twice (live_files r start) (live_files r done) (live_files r end) file
        (IsSameFile-twice (live_files r start) (live_files r opened) (live_files r done) file (opens.others file live)
        (kept.others file (subst P (sym (opens.holders file live)) other)))
        (ends.others file (old file live))

    -- A file is an input, which is closed and wasn't live before, or another.
    at : (file : ℕ) (was : Bool) → (live_files r start).live file ≡ was → IsNoneOf file ids ⊎ ((live_files r end).live file ≡ false) → (live_files r end).live file ≡ was
    at file true is among = (ends.others file (old file is)).alive ∙ kept.live file ∙ stays file is
    at file false is (inl none) = (ends.others file none).alive ∙ kept.live file ∙ opens.besides file none ∙ is
    at file false is (inr ended) = ended

    alive : (file : ℕ) → (live_files r end).live file ≡ (live_files r start).live file
    alive file = at file ((live_files r start).live file) refl (is_ended (live_files r end).live file ids ends.ended)
