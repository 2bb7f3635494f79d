-- Laws on bytes that are written through a buffer.
use Rattle.std.proofs.Common.{◌≡◌, ℕ, List, [], ◌++◌, take, drop, Result, Ok, Err, IsErr, IsErrOf, OnOk, refl, sym, ◌∙◌, ap, append_assoc, append-nil}
use Rattle.std.proofs.lemmas.List.{take-append-drop}
use Rattle.mkv_io.specs.declared.outside.MakeFault.{MakeFault}
use Rattle.mkv_io.specs.declared.outside.MakeFault.TheVariants as make_fault
use Rattle.mkv_io.specs.Contents.{with_appended}
use Rattle.mkv_io.specs.LiveFiles.{LiveFiles, Appends, AppendsPart}
use Rattle.mkv_io.specs.Names.{Names, with_change}
use Rattle.mkv_io.proofs.NamesLemmas.{with_change-more, with_change-none}
use Rattle.mkv_outputs.specs.Written.{PassesOn, PassesSome, Passes}

-- ---- one call

-- All bytes wait.
pub PassesOn-none : (names : Names) (holder octets : List ℕ) → PassesOn names names holder octets octets
PassesOn-none names holder octets = record { written = []; whole = refl; added = sym (with_change-none names holder) }

-- All bytes are written.
pub PassesOn-all : (old new : Names) (holder octets left : List ℕ) → left ≡ [] → new ≡ with_change old holder (with_appended octets) → PassesOn old new holder octets left
PassesOn-all old new holder octets left none added = record {
  written = octets;
  whole = sym (append-nil octets) ∙ ap (λ more. octets ++ more) (sym none);
  added = added;
}

-- A prefix of the bytes is written.
pub PassesSome-part : (old new : Names) (holder octets : List ℕ) (n : ℕ) → new ≡ with_change old holder (with_appended (take n octets)) → PassesSome old new holder octets
PassesSome-part old new holder octets n added = record {
  left = drop n octets;
  passed = record { written = take n octets; whole = sym (take-append-drop n octets); added = added };
}

-- An append that failed.
pub PassesSome-refused : {T : Type 0} (fault : MakeFault) (old new : LiveFiles) (names now : Names) (file : ℕ) (holder octets : List ℕ) → (IsErrOf {T = T} (Err fault) make_fault.Failed → AppendsPart old new names now file holder octets) → (IsErrOf {T = T} (Err fault) make_fault.Memory → now ≡ names) → PassesSome names now holder octets
PassesSome-refused make_fault.Failed old new names now file holder octets failed memory =
    let part = failed refl in PassesSome-part names now holder octets part.kept part.added.names
PassesSome-refused make_fault.Memory old new names now file holder octets failed memory = record {
  left = octets;
  passed = record { written = []; whole = refl; added = memory refl ∙ sym (with_change-none names holder) };
}

-- ---- two calls

-- Bytes after others that were all written.
pub PassesOn-behind : (old mid new : Names) (holder between first next left : List ℕ) → between ≡ holder → PassesOn old mid holder first [] → PassesOn mid new between next left → PassesOn old new holder (first ++ next) left
PassesOn-behind old mid new holder between first next left same before behind = record {
  written = before.written ++ behind.written;
  whole = ap (λ octets. octets ++ next) (before.whole ∙ append-nil before.written) ∙ ap (λ octets. before.written ++ octets) behind.whole ∙ sym (append_assoc before.written behind.written left);
  added = behind.added ∙ ap (λ name. with_change mid name (with_appended behind.written)) same ∙ ap (λ names. with_change names holder (with_appended behind.written)) before.added
      ∙ with_change-more old holder before.written behind.written;
}

-- Bytes that were written in part, and others after them.
pub PassesSome-more : (old new : Names) (holder first next : List ℕ) → PassesSome old new holder first → PassesSome old new holder (first ++ next)
PassesSome-more old new holder first next some = record {
  left = some.left ++ next;
  passed = record {
    written = some.passed.written;
    whole = ap (λ octets. octets ++ next) some.passed.whole ∙ append_assoc some.passed.written some.left next;
    added = some.passed.added;
  };
}

-- The result for bytes after others that were all written.
pub Passes-behind : {T E : Type 0} (result : Result T E) (old mid new : Names) (holder between first next none left : List ℕ) → none ≡ [] → between ≡ holder → PassesOn old mid holder first none → Passes mid new between next left result → Passes old new holder (first ++ next) left result
Passes-behind (Ok done) old mid new holder between first next none left is same before behind =
    PassesOn-behind old mid new holder between first next left same (rw is at before) behind
Passes-behind (Err fault) old mid new holder between first next none left is same before behind = record {
  left = behind.left;
  passed = PassesOn-behind old mid new holder between first next behind.left same (rw is at before) behind.passed;
}

-- The result after a failure.
pub Passes-err : {T E : Type 0} (result : Result T E) (old new : Names) (holder octets left : List ℕ) → IsErr result → PassesSome old new holder octets → Passes old new holder octets left result
Passes-err (Ok done) old new holder octets left is some = absurd (cc)
Passes-err (Err fault) old new holder octets left is some = some

-- The result of an append if no bytes wait.
pub Passes-append : {T : Type 0} (result : Result T MakeFault) (old new : LiveFiles) (names now : Names) (file : ℕ) (holder octets left : List ℕ) → left ≡ [] → OnOk result (Appends old new names now file holder octets) → (IsErrOf result make_fault.Failed → AppendsPart old new names now file holder octets) → (IsErrOf result make_fault.Memory → now ≡ names) → Passes names now holder octets left result
Passes-append (Ok done) old new names now file holder octets left none ok failed memory = PassesOn-all names now holder octets left none ok.names
Passes-append (Err fault) old new names now file holder octets left none ok failed memory = PassesSome-refused fault old new names now file holder octets failed memory
