-- The name is added, or is there already.
use Rattle.mkv_args.proofs.TargetNamesLemmas.{name-added}
use Rattle.mkv_args.proofs.extract.add.Goals as goal

pub returns : goal.returns
returns c = name-added c.args.names.now.keys c.insert.new.self.keys c.args.out c.in_ok-insert.field-0 c.in_ok-insert.ensures.added c.in_ok-insert.ensures.keys
