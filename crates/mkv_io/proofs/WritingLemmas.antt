-- Laws on calls in sequence that only write to live files. Callers that write files use them.
use Rattle.std.proofs.Common.{◌≡◌, ◌≤◌, ℕ, Bool, true, false, MatchBool, List, [], ◌∷◌, Result, Ok, Err, refl, sym, ◌∙◌, ap, subst, arith}
use Rattle.mkv_io.specs.Asked.{IsNotAmong}
use Rattle.mkv_io.specs.Faults.{HasCause, HasIncreased}
use Rattle.mkv_io.specs.LiveFiles.{IsSameFile, KeepsHolders, LiveFiles}
use Rattle.mkv_io.specs.Names.{AreOthers}
use Rattle.mkv_io.specs.Seen.{ReadsNothing, StaysAtWriting}
use Rattle.mkv_io.specs.Sources.{OnlyReads, live_files}
use Rattle.mkv_io.specs.Writing.{KeepsOthers, UsesOnly, WritesOnly}
use Rattle.mkv_io.proofs.AskedLemmas.{asks-more, asks-none}
use Rattle.mkv_io.specs.declared.outside.FileId.{FileId}
use Rattle.mkv_io.specs.declared.reads.Reads.{Ghosts}
use Rattle.mkv_io.specs.declared.files.Files as writing

-- A file that two calls leave the same is the same after both.
pub IsSameFile-twice : (a b c : LiveFiles) (file : ℕ) → IsSameFile a b file → IsSameFile b c file → IsSameFile a c file
IsSameFile-twice a b c file first next = record {
  alive = next.alive ∙ first.alive;
  size = λ live. next.size (first.alive ∙ live) ∙ first.size live;
  content = λ live. next.content (first.alive ∙ live) ∙ first.content live;
}

-- ---- unchanged files

-- No call uses no name.
pub UsesOnly-none : {S : Type 0} (r : Ghosts S) (f : writing.Ghosts S) (opened written : List (List ℕ)) (files : S) → UsesOnly r f opened written files files
UsesOnly-none r f opened written files = record {
  live = λ file. refl;
  given = omega arith;
  holders = λ file live. refl;
  others = λ file is. record { alive = refl; size = λ live. refl; content = λ live. refl };
  asks = λ name besides unasked. unasked;
}

-- Two calls that use only these names do so together.
pub UsesOnly-then : {S : Type 0} (r : Ghosts S) (f : writing.Ghosts S) (opened written : List (List ℕ)) (a b c : S) → UsesOnly r f opened written a b → UsesOnly r f opened written b c → UsesOnly r f opened written a c
UsesOnly-then r f opened written a b c first next = record {
  live = λ file. next.live file ∙ first.live file;
  given = let earlier = first.given in let later = next.given in omega arith;
  holders = λ file live. next.holders file (first.live file ∙ live) ∙ first.holders file live;
  others = λ file other. record {
    alive = next.live file ∙ first.live file;
    size = λ live. (again file other live).size (first.live file ∙ live) ∙ (first.others file other).size live;
    content = λ live. (again file other live).content (first.live file ∙ live) ∙ (first.others file other).content live;
  };
  asks = λ name besides unasked. next.asks name besides (first.asks name besides unasked);
}
  where
    again : (file : ℕ) → AreOthers (f.holder a file) written → (live_files r a).live file ≡ true → IsSameFile (live_files r b) (live_files r c) file
    again file other live =
        let P : List ℕ → Type 0 = λ name. AreOthers name written in
        next.others file (subst P (sym (first.holders file live)) other)

-- A call that uses only the names in two lists uses only names in longer lists.
pub UsesOnly-more : {S : Type 0} (r : Ghosts S) (f : writing.Ghosts S) (opened written more_opened more_written : List (List ℕ)) (old new : S) → ((name : List ℕ) → AreOthers name more_opened → AreOthers name opened) → ((name : List ℕ) → AreOthers name more_written → AreOthers name written) → UsesOnly r f opened written old new → UsesOnly r f more_opened more_written old new
UsesOnly-more r f opened written more_opened more_written old new open_among among kept = record {
  live = kept.live;
  given = kept.given;
  holders = kept.holders;
  others = λ file other. kept.others file (among (f.holder old file) other);
  asks = asks-more opened written more_opened more_written (f.asked old) (f.asked new) open_among among kept.asks;
}

-- A call that leaves `standing`, and asks for nothing, uses no name.
pub UsesOnly-standing : {S : Type 0} (r : Ghosts S) (f : writing.Ghosts S) (opened written : List (List ℕ)) (old new : S) → r.standing new ≡ r.standing old → f.given new ≡ f.given old → KeepsHolders (live_files r old).live (f.holder old) (f.holder new) → f.asked new ≡ f.asked old → UsesOnly r f opened written old new
UsesOnly-standing r f opened written old new stands given holders asked = record {
  live = λ file. ap (λ standing. (r.files standing).live file) stands;
  given = omega (arith, given);
  holders = holders;
  others = λ file is. record {
    alive = ap (λ standing. (r.files standing).live file) stands;
    size = λ live. ap (λ standing. (r.files standing).size file) stands;
    content = λ live. ap (λ standing. (r.files standing).content file) stands;
  };
  asks = asks-none (IsNotAmong opened written) (f.asked old) (f.asked new) asked;
}

-- ---- calls that open no file

pub KeepsOthers-none : {S : Type 0} (r : Ghosts S) (f : writing.Ghosts S) (names : List (List ℕ)) (files : S) → KeepsOthers r f names files files
KeepsOthers-none r f names files = UsesOnly-none r f [] names files

pub KeepsOthers-then : {S : Type 0} (r : Ghosts S) (f : writing.Ghosts S) (names : List (List ℕ)) (a b c : S) → KeepsOthers r f names a b → KeepsOthers r f names b c → KeepsOthers r f names a c
KeepsOthers-then r f names a b c first next = UsesOnly-then r f [] names a b c first next

-- A call that leaves all names outside `names` leaves all outside a longer list `more`.
pub KeepsOthers-more : {S : Type 0} (r : Ghosts S) (f : writing.Ghosts S) (names more : List (List ℕ)) (old new : S) → ((name : List ℕ) → AreOthers name more → AreOthers name names) → KeepsOthers r f names old new → KeepsOthers r f more old new
KeepsOthers-more r f names more old new among kept = UsesOnly-more r f [] names [] more old new (λ name others. others) among kept

-- A call that only reads leaves all names.
pub KeepsOthers-read : {S : Type 0} (r : Ghosts S) (f : writing.Ghosts S) (names : List (List ℕ)) (old new : S) → OnlyReads r old new → f.given new ≡ f.given old → ((file : ℕ) → f.holder new file ≡ f.holder old file) → f.asked new ≡ f.asked old → KeepsOthers r f names old new
KeepsOthers-read r f names old new reads given holders asked = UsesOnly-standing r f [] names old new reads.standing given (λ file live. holders file) asked

-- ---- calls that write

-- No call writes nothing.
pub WritesOnly-none : {S : Type 0} (r : Ghosts S) (f : writing.Ghosts S) (names : List (List ℕ)) (files : S) → WritesOnly r f names files files
WritesOnly-none r f names files = record { kept = KeepsOthers-none r f names files; given = refl; reading = refl; octets = refl; faults = omega arith }

-- Two calls that write only under these names do so together.
pub WritesOnly-then : {S : Type 0} (r : Ghosts S) (f : writing.Ghosts S) (names : List (List ℕ)) (a b c : S) → WritesOnly r f names a b → WritesOnly r f names b c → WritesOnly r f names a c
WritesOnly-then r f names a b c first next = record {
  kept = KeepsOthers-then r f names a b c first.kept next.kept;
  given = next.given ∙ first.given;
  reading = next.reading ∙ first.reading;
  octets = next.octets ∙ first.octets;
  faults = let earlier = first.faults in let later = next.faults in omega arith;
}

-- A call that writes only under the names in `names` writes only under a longer list `more`.
pub WritesOnly-more : {S : Type 0} (r : Ghosts S) (f : writing.Ghosts S) (names more : List (List ℕ)) (old new : S) → ((name : List ℕ) → AreOthers name more → AreOthers name names) → WritesOnly r f names old new → WritesOnly r f more old new
WritesOnly-more r f names more old new among only = record {
  kept = KeepsOthers-more r f names more old new among only.kept;
  given = only.given;
  reading = only.reading;
  octets = only.octets;
  faults = only.faults;
}

-- A count with a known cause hasn't fallen.
pub HasCause-later : {T E : Type 0} (is_fault : E → Bool) (before now : ℕ) (result : Result T E) → HasCause is_fault before now result → before ≤ now
HasCause-later is_fault before now (Ok value) is = omega (arith, is)
HasCause-later is_fault before now (Err fault) cause = step (is_fault fault) cause
  where
    step : (told : Bool) → MatchBool told (HasIncreased before now) (now ≡ before) → before ≤ now
    step true rose = rose.later
    step false same = omega (arith, same)

-- An append or an overwrite writes only under the name of its live file.
pub WritesOnly-one : {S T E : Type 0} (r : Ghosts S) (f : writing.Ghosts S) (old new : S) (file : FileId) (is_fault : E → Bool) (result : Result T E)
    → StaysAtWriting r f.holder f.given f.asked old new file
    → HasCause is_fault (f.writing_faults old) (f.writing_faults new) result
    → ReadsNothing r old new
    → WritesOnly r f (f.holder old file.n ∷ []) old new
WritesOnly-one r f old new file is_fault result stays cause unread = record {
  kept = record {
    live = stays.alive;
    given = let given = stays.given in omega (arith, given);
    holders = stays.holders;
    others = λ other differs. stays.others other (λ same. differs.0 (sym same));
    asks = asks-none (IsNotAmong [] (f.holder old file.n ∷ [])) (f.asked old) (f.asked new) stays.asks;
  };
  given = stays.given;
  reading = unread.reading;
  octets = unread.octets;
  faults = HasCause-later is_fault (f.writing_faults old) (f.writing_faults new) result cause;
}
