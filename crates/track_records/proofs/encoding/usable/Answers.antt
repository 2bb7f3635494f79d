-- The restored bytes keep the limit if the encodings can be undone, or are none.
use Rattle.track_records.proofs.UsableLemmas.{prefix-short}
use Rattle.track_records.proofs.encoding.usable.Goals as goal

pub returns-in-None-clause-most : goal.returns-in-None-clause-most
returns-in-None-clause-most c = prefix-short c.args.track.now _ _ c.cause_of.ensures c.in-None.is c.prefix_for.ensures
