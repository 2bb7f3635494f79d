-- The part behind the last mark is behind the last one of the rest, or the rest.
use denote.Shadow.{shadow}
use denote.Text.{Utf8}
use Rattle.std.proofs.Common.{◌≡◌, length}
use Rattle.merge_words.specs.Attached.{behind_last}
use Rattle.merge_words.proofs.AttachedLemmas.{last_behind}
use Rattle.merge_words.proofs.attached.behind_last.Given as goal

abbrev pub invariant-loop-after : goal.invariant-loop-after
invariant-loop-after l = record {
  text : shadow (Utf8 l.rest);
  left : last_behind l.mark l.rest ≡ behind_last l.mark l.word;
}

abbrev pub decreases-loop-after : goal.decreases-loop-after
decreases-loop-after l = length l.rest
