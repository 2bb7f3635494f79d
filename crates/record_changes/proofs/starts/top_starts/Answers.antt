-- The first edition was read.
use Rattle.std.proofs.Common.{refl, sym}
use Rattle.mkv_schema.specs.declared.ids.TheConstants.{CHAPTERS, EDITION_ENTRY}
use Rattle.record_changes.proofs.ChapterFacts.{edition-in}
use Rattle.record_changes.proofs.CutLemmas.{all-read-if, find-read}
use Rattle.record_changes.proofs.starts.top_starts.Goals as goal

pub push_starts-requires : goal.push_starts-requires
push_starts-requires c =
    find-read EDITION_ENTRY _ _ (all-read-if CHAPTERS EDITION_ENTRY c.args.chapters.now _ edition-in c.requires refl) (sym c.in-Some.ensures.exact)
