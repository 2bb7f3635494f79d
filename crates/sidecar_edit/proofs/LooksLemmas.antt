-- Laws on files that are only looked into.
use Rattle.std.proofs.Common.{◌≡◌, ◌≢◌, ◌⊎◌, inl, inr, ◌<◌, ◌≤◌, ℕ, Bool, true, false, List, [], Option, Some, None, refl, sym, ◌∙◌, ap, arith}
use Rattle.std.proofs.lemmas.Bool.{cases_eq}
use Rattle.mkv_io.specs.Asked.{AsksOnly, IsNotAmong}
use Rattle.mkv_io.specs.LiveFiles.{IsSameFile, KeepsFiles, KeepsHolders}
use Rattle.mkv_io.specs.Names.{AreOthers}
use Rattle.mkv_io.specs.Sources.{live_files}
use Rattle.mkv_io.specs.Writing.{UsesOnly}
use Rattle.mkv_io.specs.declared.reads.Reads.{Ghosts}
use Rattle.mkv_io.specs.declared.files.Files as writing
use Rattle.mkv_io.proofs.AskedLemmas.{asks-both, asks-none}
use Rattle.mkv_io.proofs.WritingLemmas.{IsSameFile-twice, UsesOnly-more, UsesOnly-standing, UsesOnly-then}
use Rattle.sidecar_edit.specs.declared.held.Gate.{Gate}
use Rattle.sidecar_edit.specs.Gate.{state}
use Rattle.sidecar_edit.specs.Pending.{LooksOnly, holds_edit, is_begun}

-- The state was read from a content that exists.
pub holds-read : (content : Option (List ℕ)) (held : Gate) → content ≢ None → ((bytes : List ℕ) → content ≡ Some bytes → held ≡ state bytes) → is_begun held ≡ holds_edit content
holds-read None held there read = absurd (there refl)
holds-read (Some bytes) held there read = ap is_begun (read bytes refl)

-- ---- calls in sequence

pub LooksOnly-then : {S : Type 0} (r : Ghosts S) (f : writing.Ghosts S) (opened : List (List ℕ)) (a b c : S) → LooksOnly r f opened a b → LooksOnly r f opened b c → LooksOnly r f opened a c
LooksOnly-then r f opened a b c first next = record {
  kept = UsesOnly-then r f opened [] a b c first.kept next.kept;
  names = next.names ∙ first.names;
  writing = next.writing ∙ first.writing;
}

-- A call that looks only into these files looks only into these and more.
pub LooksOnly-more : {S : Type 0} (r : Ghosts S) (f : writing.Ghosts S) (opened more : List (List ℕ)) (old new : S) → ((name : List ℕ) → AreOthers name more → AreOthers name opened) → LooksOnly r f opened old new → LooksOnly r f more old new
LooksOnly-more r f opened more old new among looks = record {
  kept = UsesOnly-more r f opened [] more [] old new among (λ name others. others) looks.kept;
  names = looks.names;
  writing = looks.writing;
}

-- ---- a call that leaves `standing`

-- Names, holders, numbers, writing faults and asked names depend only on `standing`.
pub record AreStanding {S : Type 0} (r : Ghosts S) (f : writing.Ghosts S) : Type 0 where
  pub names : (a b : S) → r.standing a ≡ r.standing b → f.names a ≡ f.names b
  pub holders : (a b : S) → r.standing a ≡ r.standing b → (file : ℕ) → f.holder a file ≡ f.holder b file
  pub given : (a b : S) → r.standing a ≡ r.standing b → f.given a ≡ f.given b
  pub writing : (a b : S) → r.standing a ≡ r.standing b → f.writing_faults a ≡ f.writing_faults b
  pub asked : (a b : S) → r.standing a ≡ r.standing b → f.asked a ≡ f.asked b

pub LooksOnly-standing : {S : Type 0} (r : Ghosts S) (f : writing.Ghosts S) (opened : List (List ℕ)) (old new : S) → AreStanding r f → r.standing new ≡ r.standing old → LooksOnly r f opened old new
LooksOnly-standing r f opened old new laws stands = record {
  kept = UsesOnly-standing r f opened [] old new stands (laws.given new old stands) (λ file live. laws.holders new old stands file) (laws.asked new old stands);
  names = laws.names new old stands;
  writing = laws.writing new old stands;
}

-- ---- a file is opened, read and closed

-- A file was opened under a new number, was only read, and was closed. Only files with names in `opens` were opened.
pub record IsLookedInto {S : Type 0} (r : Ghosts S) (f : writing.Ghosts S) (opens : List (List ℕ)) (old opened read closed : S) (file : ℕ) : Type 0 where
  pub least : f.given old ≤ file
  pub most : file < f.given opened
  pub alone : (other : ℕ) → other ≢ file → (live_files r opened).live other ≡ (live_files r old).live other
  pub holders : KeepsHolders (live_files r old).live (f.holder old) (f.holder opened)
  pub others : KeepsFiles (live_files r old) (live_files r opened) (λ other. other < f.given old)
  pub standing : r.standing read ≡ r.standing opened
  pub given : f.given read ≡ f.given opened
  pub held : (other : ℕ) → f.holder read other ≡ f.holder opened other
  pub ended : (live_files r closed).live file ≡ false
  pub closed_given : f.given closed ≡ f.given read
  pub closed_others : KeepsFiles (live_files r read) (live_files r closed) (λ other. other ≢ file)
  pub closed_holders : KeepsHolders (live_files r closed).live (f.holder read) (f.holder closed)
  pub asks : AsksOnly opens [] (f.asked old) (f.asked opened)
  pub asked : f.asked closed ≡ f.asked opened

pub UsesOnly-looked : {S : Type 0} (r : Ghosts S) (f : writing.Ghosts S) (opens : List (List ℕ)) (old opened read closed : S) (file : ℕ) → ((files : S) (other : ℕ) → (live_files r files).live other ≡ true → other < f.given files) → IsLookedInto r f opens old opened read closed file → UsesOnly r f opens [] old closed
UsesOnly-looked r f opens old opened read closed file numbered looked = record {
  live = alive;
  given = let least = looked.least in let most = looked.most in omega (arith, looked.given, looked.closed_given);
  holders = λ other live.
      looked.closed_holders other (alive other ∙ live) ∙ looked.held other ∙ looked.holders other live;
  others = λ other is. record {
    alive = alive other;
    size = λ live. (same other live).size live;
    content = λ live. (same other live).content live;
  };
  asks = asks-both (IsNotAmong opens []) (f.asked old) (f.asked opened) (f.asked closed) looked.asks (asks-none (IsNotAmong opens []) (f.asked opened) (f.asked closed) looked.asked);
}
  where
    -- A file that was live before has another number.
    differs : (other : ℕ) → (live_files r old).live other ≡ true → other ≢ file
    differs other live is = let below = numbered old other live in let least = looked.least in omega (arith, below, is)

    same : (other : ℕ) → (live_files r old).live other ≡ true → IsSameFile (live_files r old) (live_files r closed) other
    same other live =
        IsSameFile-twice (live_files r old) (live_files r read) (live_files r closed) other
        (IsSameFile-twice (live_files r old) (live_files r opened) (live_files r read) other
        (looked.others other (numbered old other live))
        (record {
          alive = ap (λ standing. (r.files standing).live other) looked.standing;
          size = λ is. ap (λ standing. (r.files standing).size other) looked.standing;
          content = λ is. ap (λ standing. (r.files standing).content other) looked.standing;
        }))
        (looked.closed_others other (differs other live))

    -- No live file has the new number, before or after.
    none : (was : Bool) → (live_files r old).live file ≡ was → false ≡ was
    none true is = absurd (differs file is refl)
    none false is = refl

    alive : (other : ℕ) → (live_files r closed).live other ≡ (live_files r old).live other
    alive other = at (cases_eq other file)
      where
        at : (other ≡ file) ⊎ (other ≡ file → ⊥) → (live_files r closed).live other ≡ (live_files r old).live other
        at (inl is) =
            ap (live_files r closed).live is ∙ looked.ended ∙ none ((live_files r old).live file) refl ∙ ap (live_files r old).live (sym is)
        at (inr isnt) =
            (looked.closed_others other isnt).alive ∙ ap (λ standing. (r.files standing).live other) looked.standing ∙ looked.alone other isnt
