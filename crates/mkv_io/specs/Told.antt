-- Values that may be visible to the proof or not: the content of a file in memory is, the content of a real file isn't.
use Rattle.std.specs.Prelude.{◌≡◌, ℕ, List, length, Option, Some}
use Rattle.mkv_io.specs.Contents.{octets_from}
use Rattle.mkv_io.specs.Faults.{counted}
use Rattle.mkv_io.specs.LiveFiles.{LiveFiles}
use Rattle.mkv_io.specs.declared.outside.FileId.{FileId}

-- `P` holds for the value `told`, if it is visible to the proof. Used by all contracts that speak of a content.
abbrev pub IfVisible : {T : Type 0} → Option T → (T → Type 0) → Type 0
IfVisible {T} told P = (x : T) → told ≡ Some x → P x

-- The buffer `new`, which was `old` before a read, has the bytes of `content` from the offset `at` onwards. This applies only if they are visible to
-- the proof. The contract of `read_at` promises it.
abbrev pub AreOctetsFrom : Option (List ℕ) → ℕ → List ℕ → List ℕ → Type 0
AreOctetsFrom content at old new = IfVisible content (λ bytes. new ≡ octets_from bytes at (length old))

-- The count `count` of bytes read grew from `old` to `new` by the length of the buffer `into`, but not above 2^64 - 1. This applies only if the
-- content of `file`, among `files`, is visible to the proof. The contract of `read_at` promises it.
abbrev pub Counts : {S : Type 0} → LiveFiles → FileId → (S → ℕ) → S → S → List ℕ → Type 0
Counts files file count old new into = IfVisible (files.content file.n) (λ _. count new ≡ counted (count old) (length into))
