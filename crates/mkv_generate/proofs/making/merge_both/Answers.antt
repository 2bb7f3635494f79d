use Rattle.mkv_generate.specs.Generate.{both_words}
use Rattle.mkv_generate.proofs.AskedLemmas.{both-asks}
use Rattle.mkv_generate.proofs.BoundLemmas.{both-alone, both-more}
use Rattle.mkv_generate.proofs.MakingLemmas.{both-made, both-refused, both-stopped}
use Rattle.mkv_generate.proofs.SoundLemmas.{both-sound, sound-as}
use Rattle.mkv_generate.proofs.making.merge_both.Goals as goal

pub merge_files-requires : goal.merge_files-requires
merge_files-requires g c = sound-as c.args.words (both_words c.args.names.now) c.requires (both-sound c.args.names.now)

pub returns-in-Ok-Written-clause-makes : goal.returns-in-Ok-Written-clause-makes
returns-in-Ok-Written-clause-makes g c =
    both-made (g.F.Files.names c.args.files.now) (g.F.Files.names c.make_parts.new.files) c.args.names.now c.args.words c.requires (g.F.Files.names c.merge_files.new.files) c.in-Ok-Written.summary c.make_parts.result
    (λ world told. rw c.in-Ok-Written.field-0-is at (c.in-Ok-Written.ensures.merges world told)) c.make_parts.ensures.makes

pub returns-in-Ok-Refused-clause-makes : goal.returns-in-Ok-Refused-clause-makes
returns-in-Ok-Refused-clause-makes g c =
    both-refused (g.F.Files.names c.args.files.now) (g.F.Files.names c.merge_files.new.files) c.args.names.now c.args.words c.requires c.in-Ok-Refused.why
    (λ world told. rw c.in-Ok-Refused.field-0-is at (c.in-Ok-Refused.ensures.merges world told))

pub returns-in-Err-clause-makes : goal.returns-in-Err-clause-makes
returns-in-Err-clause-makes g c =
    both-stopped (g.F.Files.names c.args.files.now) (g.F.Files.names c.merge_files.new.files) c.args.names.now c.args.words c.requires c.in-Err.why c.in-Err.ensures.merges

-- ---- bytes read

pub returns-in-Ok-Written-clause-octets : goal.returns-in-Ok-Written-clause-octets
returns-in-Ok-Written-clause-octets g c =
    both-more (g.F.Files.names c.args.files.now) c.args.names.now c.args.words c.requires (g.F.Reads.octets_read c.args.files.now) (g.F.Reads.octets_read c.merge_files.new.files) c.merge_files.ensures.octets
    (g.F.Files.names c.merge_files.new.files) c.in-Ok-Written.summary (g.F.Reads.octets_read c.make_parts.new.files)
    (λ world told. rw c.in-Ok-Written.field-0-is at (c.in-Ok-Written.ensures.merges world told)) c.make_parts.ensures.octets

pub returns-in-Ok-Refused-clause-octets : goal.returns-in-Ok-Refused-clause-octets
returns-in-Ok-Refused-clause-octets g c =
    both-alone (g.F.Files.names c.args.files.now) c.args.names.now c.args.words c.requires (g.F.Reads.octets_read c.args.files.now) (g.F.Reads.octets_read c.merge_files.new.files) c.merge_files.ensures.octets

pub returns-in-Err-clause-octets : goal.returns-in-Err-clause-octets
returns-in-Err-clause-octets g c =
    both-alone (g.F.Files.names c.args.files.now) c.args.names.now c.args.words c.requires (g.F.Reads.octets_read c.args.files.now) (g.F.Reads.octets_read c.merge_files.new.files) c.merge_files.ensures.octets

-- ---- names that are opened and made

pub returns-in-Ok-Written-clause-asks : goal.returns-in-Ok-Written-clause-asks
returns-in-Ok-Written-clause-asks g c = λ name besides unasked.
    c.make_parts.ensures.asks name besides (both-asks c.args.names.now c.args.words (g.F.Files.asked c.args.files.now) (g.F.Files.asked c.merge_files.new.files) c.requires c.merge_files.ensures.asks name besides unasked)

pub returns-in-Ok-Refused-clause-asks : goal.returns-in-Ok-Refused-clause-asks
returns-in-Ok-Refused-clause-asks g c =
    both-asks c.args.names.now c.args.words (g.F.Files.asked c.args.files.now) (g.F.Files.asked c.merge_files.new.files) c.requires c.merge_files.ensures.asks

pub returns-in-Err-clause-asks : goal.returns-in-Err-clause-asks
returns-in-Err-clause-asks g c =
    both-asks c.args.names.now c.args.words (g.F.Files.asked c.args.files.now) (g.F.Files.asked c.merge_files.new.files) c.requires c.merge_files.ensures.asks
