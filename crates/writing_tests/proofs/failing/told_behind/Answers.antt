use Rattle.std.proofs.Common.{sym, subst}
use Rattle.mkv_memory.specs.Stored.{files_of}
use Rattle.time_merge.specs.Merge.{IsReady}
use Rattle.writing_tests.proofs.failing.told_behind.Goals as goal

pub tell_merge-requires : goal.tell_merge-requires
tell_merge-requires c = subst (λ s. IsReady (files_of s) c.in_ok-merge.merge) (sym c.let_fail.ensures) c.in_ok-merge.ensures
