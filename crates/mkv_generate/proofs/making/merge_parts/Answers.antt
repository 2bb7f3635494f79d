use Rattle.mkv_generate.specs.Generate.{parts_words}
use Rattle.mkv_generate.proofs.AskedLemmas.{parts-asks}
use Rattle.mkv_generate.proofs.BoundLemmas.{parts-alone}
use Rattle.mkv_generate.proofs.MakingLemmas.{parts-made, parts-refused, parts-stopped}
use Rattle.mkv_generate.proofs.SoundLemmas.{parts-sound, sound-as}
use Rattle.mkv_generate.proofs.making.merge_parts.Goals as goal

pub merge_files-requires : goal.merge_files-requires
merge_files-requires g c = sound-as c.args.words (parts_words c.args.names.now) c.requires (parts-sound c.args.names.now)

pub returns-in-Ok-Written-clause-makes : goal.returns-in-Ok-Written-clause-makes
returns-in-Ok-Written-clause-makes g c =
    parts-made (g.F.Files.names c.args.files.now) (g.F.Files.names c.merge_files.new.files) c.args.names.now c.args.words c.requires c.args.both c.in-Ok-Written.summary
    (λ world told. rw c.in-Ok-Written.field-0-is at (c.in-Ok-Written.ensures.merges world told))

pub returns-in-Ok-Refused-clause-makes : goal.returns-in-Ok-Refused-clause-makes
returns-in-Ok-Refused-clause-makes g c =
    parts-refused (g.F.Files.names c.args.files.now) (g.F.Files.names c.merge_files.new.files) c.args.names.now c.args.words c.requires c.args.both c.in-Ok-Refused.why
    (λ world told. rw c.in-Ok-Refused.field-0-is at (c.in-Ok-Refused.ensures.merges world told))

pub returns-in-Err-clause-makes : goal.returns-in-Err-clause-makes
returns-in-Err-clause-makes g c =
    parts-stopped (g.F.Files.names c.args.files.now) (g.F.Files.names c.merge_files.new.files) c.args.names.now c.args.words c.requires c.args.both c.in-Err.why c.in-Err.ensures.merges

-- ---- bytes read

pub returns-in-Ok-Written-clause-octets : goal.returns-in-Ok-Written-clause-octets
returns-in-Ok-Written-clause-octets g c =
    parts-alone (g.F.Files.names c.args.files.now) c.args.names.now c.args.words (g.F.Reads.octets_read c.args.files.now) (g.F.Reads.octets_read c.merge_files.new.files) c.requires c.merge_files.ensures.octets

pub returns-in-Ok-Refused-clause-octets : goal.returns-in-Ok-Refused-clause-octets
returns-in-Ok-Refused-clause-octets g c =
    parts-alone (g.F.Files.names c.args.files.now) c.args.names.now c.args.words (g.F.Reads.octets_read c.args.files.now) (g.F.Reads.octets_read c.merge_files.new.files) c.requires c.merge_files.ensures.octets

pub returns-in-Err-clause-octets : goal.returns-in-Err-clause-octets
returns-in-Err-clause-octets g c =
    parts-alone (g.F.Files.names c.args.files.now) c.args.names.now c.args.words (g.F.Reads.octets_read c.args.files.now) (g.F.Reads.octets_read c.merge_files.new.files) c.requires c.merge_files.ensures.octets

-- ---- names that are opened and made

pub returns-in-Ok-Written-clause-asks : goal.returns-in-Ok-Written-clause-asks
returns-in-Ok-Written-clause-asks g c =
    parts-asks c.args.names.now c.args.words (g.F.Files.asked c.args.files.now) (g.F.Files.asked c.merge_files.new.files) c.requires c.merge_files.ensures.asks

pub returns-in-Ok-Refused-clause-asks : goal.returns-in-Ok-Refused-clause-asks
returns-in-Ok-Refused-clause-asks g c =
    parts-asks c.args.names.now c.args.words (g.F.Files.asked c.args.files.now) (g.F.Files.asked c.merge_files.new.files) c.requires c.merge_files.ensures.asks

pub returns-in-Err-clause-asks : goal.returns-in-Err-clause-asks
returns-in-Err-clause-asks g c =
    parts-asks c.args.names.now c.args.words (g.F.Files.asked c.args.files.now) (g.F.Files.asked c.merge_files.new.files) c.requires c.merge_files.ensures.asks
