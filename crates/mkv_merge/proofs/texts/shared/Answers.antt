use Rattle.std.proofs.Common.{◌≡◌, List, [], ◌++◌, map, sym, ◌∙◌, ap, append-nil, arith}
use Rattle.std.proofs.lemmas.List.{nil_from_length}
use Rattle.input_files.specs.declared.times_file.TimesFile.{TimesFile}
use Rattle.mkv_merge.specs.Timed.{listed_in, listed_of}
use Rattle.mkv_merge.proofs.TextsLemmas.{listed-more}
use Rattle.mkv_merge.proofs.texts.shared.Goals as goal

-- The timestamps of one more file.
pub loop-file-preserved : goal.loop-file-preserved
loop-file-preserved c =
    listed-more c.loop-file.list c.share.new.list c.in-Some.file c.loop-file.file-iterator.rest.items c.next.new.self.rest.items c.into_iter-file-iterator.result.rest.items
    c.in-Some.ensures.steps.0 c.loop-file.invariant c.in_ok-share.ensures

pub returns : goal.returns
returns c =
    let left : List TimesFile = c.loop-file.file-iterator.rest.items in
    let none : left ≡ [] = nil_from_length left (omega (arith, c.loop-file.file-iterator.rest.ok, c.in-None.ensures.steps.0)) in
    sym (append-nil (map listed_of c.loop-file.list))
    ∙ ap (λ (files : List TimesFile). map listed_of c.loop-file.list ++ listed_in files) (sym none)
    ∙ c.loop-file.invariant
    ∙ ap listed_in (c.into_iter-file-iterator.ensures.into_iter_gives.0 ∙ c.into_vec-file-items.ensures)
