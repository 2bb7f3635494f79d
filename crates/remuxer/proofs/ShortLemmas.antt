-- No output exceeds the maximum length of a file.
use Rattle.std.proofs.Common.{◌≡◌, ◌≤◌, ℕ, true, List, length, Option, Some, sym, ◌∙◌, ap, arith}
use Rattle.mkv_io.specs.declared.outside.FileId.{FileId}
use Rattle.mkv_io.specs.declared.outside.TheConstants.{LONGEST_FILE}
use Rattle.mkv_io.specs.declared.reads.Reads.{Ghosts}
use Rattle.mkv_io.specs.declared.files.Files as writing
use Rattle.mkv_io.specs.Names.{Names, changed_at, with_content}
use Rattle.mkv_io.specs.Sources.{IsLive, live_files}
use Rattle.mkv_io.specs.Told.{IfVisible}
use Rattle.mkv_io.proofs.NamesLemmas.{changed_at-same}
use Rattle.cues_seekhead.specs.Made.{WritesAndEnds}

-- Facts about all files. The length of a live file is limited, and a visible content has this length, and is its name's.
pub record HoldsOfFiles {S : Type 0} (r : Ghosts S) (f : writing.Ghosts S) : Type 0 where
  pub short : (x : S) (file : ℕ) → (live_files r x).live file ≡ true → (live_files r x).size file ≤ LONGEST_FILE
  pub told_size : (x : S) (file : ℕ) → IfVisible ((live_files r x).content file) (λ bytes. length bytes ≡ (live_files r x).size file)
  pub named : (x : S) (file : ℕ) → (live_files r x).live file ≡ true → IfVisible (f.names x) (λ world. (live_files r x).content file ≡ world (f.holder x file))

-- The content of a live file is limited.
content-short : {S : Type 0} (r : Ghosts S) (f : writing.Ghosts S) (x : S) (file : ℕ) (name octets : List ℕ) (world : List ℕ → Option (List ℕ)) → HoldsOfFiles r f → (live_files r x).live file ≡ true → f.holder x file ≡ name → f.names x ≡ Some world → world name ≡ Some octets → length octets ≤ LONGEST_FILE
content-short r f x file name octets world holds live holder told is =
    let content : (live_files r x).content file ≡ Some octets = holds.named x file live world told ∙ ap world holder ∙ is in
    let size = holds.told_size x file octets content in
    let most = holds.short x file live in
    omega (arith, size, most)

-- The content of a file that was written and closed is limited, if names were visible before: the file was live until it was closed.
pub ended-short : {S : Type 0} (r : Ghosts S) (f : writing.Ghosts S) (before : Names) (name octets : List ℕ) (file : FileId) (old new : S) → HoldsOfFiles r f → IsLive r old file → f.holder old file.n ≡ name → f.names new ≡ with_content before name octets → WritesAndEnds r f file old new
    → IfVisible before (λ world. length octets ≤ LONGEST_FILE)
ended-short r f before name octets file old new holds live holder names ends = λ world told.
    let x = ends.before in
    let then : List ℕ → Option (List ℕ) = changed_at name (λ _. Some octets) world in
    let alive : (live_files r x).live file.n ≡ true = ends.written.kept.live file.n ∙ live in
    let named : f.holder x file.n ≡ name = ends.written.kept.holders file.n live ∙ holder in
    let tells : f.names x ≡ Some then = sym ends.ended.names ∙ names ∙ ap (λ (n : Names). with_content n name octets) told in
    content-short r f x file.n name octets then holds alive named tells (changed_at-same world name (λ _. Some octets))
