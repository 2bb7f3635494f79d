-- Facts of a file that is opened or made.
use Rattle.std.proofs.Common.{◌≡◌, ◌≢◌, ◌≤◌, ◌<◌, ℕ, List, [], Result, Ok, Err, IfOk}
use Rattle.mkv_io.specs.Names.{Names, with_content}
use Rattle.mkv_io.specs.Seen.{IsMadeFile, IsOpenedFile, StayLive}
use Rattle.mkv_io.specs.Sources.{IsLive, content_of, file_size}
use Rattle.mkv_io.specs.Told.{IfVisible}
use Rattle.mkv_io.specs.declared.outside.FileId.{FileId}
use Rattle.mkv_io.specs.declared.reads.Reads.{Ghosts}

pub opened : {S E : Type 0} (r : Ghosts S) (names : S → Names) (holder : S → ℕ → List ℕ) (given : S → ℕ) (old new : S) (name : List ℕ) (result : Result FileId E)
    → IfOk result (λ file. (given old ≤ file.n) × (file.n < given new))
    → IfOk result (λ file. IsLive r new file)
    → IfOk result (λ file. StayLive r old new (λ other. other ≢ file.n))
    → IfOk result (λ file. holder new file.n ≡ name)
    → IfOk result (λ file. IfVisible (names old) (λ world. content_of r new file ≡ world name))
    → IfOk result (IsOpenedFile r names holder given old new name)
opened r names holder given old new name (Ok file) number live alone held content = record {
  is_new = record { number = number; live = live; alone = alone; holder = held };
  content = content;
}
opened r names holder given old new name (Err fault) number live alone held content = tt

pub made : {S E : Type 0} (r : Ghosts S) (names : S → Names) (holder : S → ℕ → List ℕ) (given : S → ℕ) (old new : S) (name : List ℕ) (result : Result FileId E)
    → IfOk result (λ file. (given old ≤ file.n) × (file.n < given new))
    → IfOk result (λ file. IsLive r new file)
    → IfOk result (λ file. StayLive r old new (λ other. other ≢ file.n))
    → IfOk result (λ file. holder new file.n ≡ name)
    → IfOk result (λ file. file_size r new file ≡ 0)
    → IfOk result (λ file. names new ≡ with_content (names old) name [])
    → IfOk result (IsMadeFile r names holder given old new name)
made r names holder given old new name (Ok file) number live alone held size now = record {
  is_new = record { number = number; live = live; alone = alone; holder = held };
  size = size;
  names = now;
}
made r names holder given old new name (Err fault) number live alone held size now = tt
