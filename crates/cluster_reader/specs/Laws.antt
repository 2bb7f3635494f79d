-- Laws about each reading of a file.
use Rattle.std.specs.Prelude.{◌≡◌, ℕ, List, []}
use Rattle.mkv_io.specs.LiveFiles.{LiveFiles, IsSameFile}
use Rattle.cluster_reader.specs.Reading.{Reading, CanRead, IsAtEnd, left_of}

-- Law: a reading `c` whose place is at the end of its Segment has no block and no damaged place left, whatever the content `bytes` of its file.
abbrev pub LeavesNothingBehind : Type 0
LeavesNothingBehind = (bytes : List ℕ) (c : Reading) → IsAtEnd c.place → left_of bytes c ≡ []

-- Law: a reading `c` can continue after other files changed from `old` to `new`, the live files, if its own file is the same.
abbrev pub CanReadOn : Type 0
CanReadOn = (old new : LiveFiles) (c : Reading) → IsSameFile old new c.file.n → CanRead old c → CanRead new c
