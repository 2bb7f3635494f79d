use Rattle.std.proofs.Common.{◌≡◌, ◌+◌, ◌++◌, ◌∷◌, [], rules, take, get_or, sym, ◌∙◌, ap}
use Rattle.std.proofs.lemmas.List.{take_more}
use Rattle.tree_format.specs.Node.{id_of}
use Rattle.tree_format.specs.Standing.{StandsIn}
use Rattle.srt_chapters.specs.Chapters.{edition}
use Rattle.srt_chapters.proofs.ChaptersLemmas.{edition_more}
use Rattle.srt_chapters.proofs.SoundLemmas.{uid_stands}
use Rattle.srt_chapters.proofs.reading.edition.Goals as goal

pub loop-chapter-init : goal.loop-chapter-init
loop-chapter-init c =
    let same : c.push.new.self ≡ edition [] = search rules in
    record { same = same; sound = rw same (uid_stands, tt) }

pub loop-chapter-preserved : goal.loop-chapter-preserved
loop-chapter-preserved c =
    let cs = c.args.chapters.now in let i = c.loop-chapter.chapter-index in let item = c.chapter-item.result in
    let same = c.loop-chapter.invariant.same in
    let more = take_more cs i item c.loop-chapter-test.true in
    let here : get_or cs i item ≡ item = sym c.chapter-item.is in
    let longer : take (i + 1) cs ≡ take i cs ++ item ∷ [] = rw here at more in
    let grown = rw (same, c.in_ok-atom.ensures.exact) at c.in_ok-push-2.ensures.ok in
    let stands : StandsIn (id_of c.loop-chapter.edition) c.in_ok-atom.field-0 = rw same c.in_ok-atom.ensures.stands in
    record {
      same = grown ∙ (edition_more (take i cs) item ∙ ap edition (sym longer));
      sound = c.in_ok-push-2.ensures.sound c.loop-chapter.invariant.sound stands;
    }
