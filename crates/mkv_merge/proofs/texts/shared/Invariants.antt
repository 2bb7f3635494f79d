-- The timestamps of the first files are in the list, and the others follow.
use Rattle.std.proofs.Common.{◌≡◌, ◌++◌, map}
use Rattle.mkv_merge.specs.Timed.{listed_in, listed_of}
use Rattle.mkv_merge.proofs.texts.shared.Given as goal

abbrev pub invariant-loop-file : goal.invariant-loop-file
invariant-loop-file l = map listed_of l.list ++ listed_in l.file-iterator.rest.items ≡ listed_in l.initial.file-iterator.rest.items
