use Rattle.srt_chapters.proofs.ChaptersLemmas.{edition_room}
use Rattle.srt_chapters.proofs.reading.chapters_tree.Goals as goal

pub push-requires-clause-room : goal.push-requires-clause-room
push-requires-clause-room c = rw c.in_ok-edition.ensures.exact (edition_room c.args.chapters.now)
