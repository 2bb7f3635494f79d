-- The meaning of the option `--split`. The rule is this project's, after mkvmerge(1).
use Rattle.std.specs.Prelude.{ℕ, zero, suc, List, filter_map, Option, Some, None}
use Rattle.std.specs.List.{slice_get}
use Rattle.requests.specs.declared.split.SplitWords.{SplitWords}
use Rattle.requests.specs.declared.split.SplitWords.TheVariants as words
use Rattle.splitter.specs.declared.spec.SplitSpec.{SplitSpec}
use Rattle.splitter.specs.declared.spec.SplitSpec.TheVariants.{Whole, Duration, Times, Parts}

-- the start in nanoseconds of the chapter with the given number, counted from 1, if there is one; `starts` has the starts of all chapters. For
-- `spec_of`, when `merge` cuts its output.
abbrev pub start_at : List ℕ → ℕ → Option ℕ
start_at starts zero = None
start_at starts (suc k) = slice_get starts k

-- the cuts at times that the option `--split` asks for, in an output with chapters that start at `starts`, in nanoseconds. The contract of
-- `split_spec` states it.
abbrev pub spec_of : Option SplitWords → List ℕ → SplitSpec
spec_of None starts = Whole
spec_of (Some (words.Duration by)) starts = Duration by
spec_of (Some (words.Times at)) starts = Times at
spec_of (Some (words.Parts spans)) starts = Parts spans
spec_of (Some words.AllChapters) starts = Times starts
spec_of (Some (words.Chapters numbers)) starts = Times (filter_map (start_at starts) numbers)
spec_of (Some (words.Size limit)) starts = Whole

-- the size in bytes that ends each part, if the option `--split` asks for parts of a size. The contract of `split_size` states it.
abbrev pub size_of : Option SplitWords → Option ℕ
size_of None = None
size_of (Some (words.Duration by)) = None
size_of (Some (words.Times at)) = None
size_of (Some (words.Parts spans)) = None
size_of (Some words.AllChapters) = None
size_of (Some (words.Chapters numbers)) = None
size_of (Some (words.Size limit)) = Some limit
