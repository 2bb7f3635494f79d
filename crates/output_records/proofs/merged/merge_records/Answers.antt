-- Each identifier has a number, and the records can be read again.
use Rattle.std.proofs.Common.{length, sym, ap, subst, arith, IfSome}
use Rattle.mkv_schema.specs.declared.ids.TheConstants.{CHAPTERS}
use Rattle.record_changes.specs.Atoms.{edition_uids, chapter_uids}
use Rattle.output_model.specs.Sound.{IsRecord}
use Rattle.output_records.specs.Attachments.{files_of, file_uids}
use Rattle.output_records.specs.Chapters.{joined_chapters}
use Rattle.output_records.proofs.UidLemmas.{length-renumbered, length-file_uids}
use Rattle.output_records.proofs.RecordLemmas.{some-holds, read-record}
use Rattle.output_records.proofs.merged.merge_records.Goals as goal

pub attachments_of-requires-clause-enough : goal.attachments_of-requires-clause-enough
attachments_of-requires-clause-enough c =
    omega (arith, ap length c.as_slice-file_uids.ensures, ap (λ n. length n.attachments) c.in_ok-numbers.ensures, length-renumbered (file_uids (files_of c.args.inputs.now)), length-file_uids (files_of c.args.inputs.now))

pub with_identifiers-requires-clause-editions : goal.with_identifiers-requires-clause-editions
with_identifiers-requires-clause-editions c =
    omega (arith, ap length c.as_slice-edition_uids.ensures, ap (λ n. length n.editions) c.in_ok-numbers.ensures, length-renumbered (edition_uids (joined_chapters c.args.inputs.now)), ap (λ t. length (edition_uids t)) c.in_ok-joined.ensures.exact)

pub with_identifiers-requires-clause-chapters : goal.with_identifiers-requires-clause-chapters
with_identifiers-requires-clause-chapters c =
    omega (arith, ap length c.as_slice-chapter_uids.ensures, ap (λ n. length n.chapters) c.in_ok-numbers.ensures, length-renumbered (chapter_uids (joined_chapters c.args.inputs.now)), ap (λ t. length (chapter_uids t)) c.in_ok-joined.ensures.exact)

pub returns-clause-chaptered : goal.returns-clause-chaptered
returns-clause-chaptered c =
    subst (λ o. IfSome o (IsRecord CHAPTERS)) (sym c.with_some.ensures) (some-holds (IsRecord CHAPTERS) c.in_ok-chapters.chapters (read-record CHAPTERS c.in_ok-chapters.chapters c.in_ok-chapters.ensures.read c.in_ok-chapters.ensures.limits))
