-- The edition has an atom for each chapter that was passed.
use Rattle.std.proofs.Common.{◌≡◌, take}
use Rattle.tree_format.specs.Standing.{IsSound}
use Rattle.srt_chapters.specs.Chapters as spec
use Rattle.srt_chapters.proofs.reading.edition.Given as goal

abbrev pub invariant-loop-chapter : goal.invariant-loop-chapter
invariant-loop-chapter l = record {
  same : l.edition ≡ spec.edition (take l.chapter-index l.chapters);
  sound : IsSound l.edition;
}
