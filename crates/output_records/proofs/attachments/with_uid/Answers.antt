-- The FileUID is valid in the AttachedFile.
use Rattle.std.proofs.Common.{sym, subst}
use Rattle.mkv_schema.specs.declared.ids.TheConstants.{ATTACHED_FILE}
use Rattle.output_model.specs.Sound.{IsAttachment}
use Rattle.output_records.proofs.RecordLemmas.{uid-in, attached-set}
use Rattle.output_records.proofs.attachments.with_uid.Goals as goal

pub uint_leaf-requires : goal.uint_leaf-requires
uint_leaf-requires c = uid-in.valid

pub returns-clause-sound : goal.returns-clause-sound
returns-clause-sound c =
    attached-set _ _ _ _ (subst IsAttachment (sym c.in_ok-entry.ensures) c.requires) c.in_ok-uint_leaf.ensures.exact c.in_ok-set.ensures.ok c.in_ok-set.ensures.sound (c.in_ok-uint_leaf.ensures.stands ATTACHED_FILE uid-in)
    (λ long. let never = c.in_ok-set.ensures.full long in absurd (cc))
