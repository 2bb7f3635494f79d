-- The attached file agrees with the parts of its AttachedFile.
use Rattle.std.proofs.Common.{refl, arith}
use Rattle.meta_records.proofs.PartsLemmas.{attachment-is, data-inside, missing-is}
use Rattle.meta_records.proofs.attached.attached_of.Goals as goal

pub uid_of-requires : goal.uid_of-requires
uid_of-requires c = record { id = c.requires.entry.is.id; sound = c.requires.entry.is.sound }

pub returns-clause-exact : goal.returns-clause-exact
returns-clause-exact c = λ bytes are. attachment-is bytes c.args.file c.args.attached.now c.args.parts c.uid_of.result c.place_of.result c.len_of.result are c.uid_of.ensures c.place_of.ensures c.len_of.ensures

pub returns-clause-missing : goal.returns-clause-missing
returns-clause-missing c = λ bytes are. missing-is bytes c.args.attached.now c.args.parts c.missing_data.result are c.missing_data.ensures

pub returns-clause-sound : goal.returns-clause-sound
returns-clause-sound c = record {
  entry = c.requires.entry;
  same = refl;
  inside = omega (arith, data-inside _ c.args.parts.first c.requires.inside, c.place_of.ensures, c.len_of.ensures);
}
