use Rattle.remerge_laws.proofs.RepeatSourceLemmas.{outputs-repeated}
use Rattle.remerge_laws.proofs.merges.outputs_are_repeated.Goals as goal

pub returns : goal.returns
returns c =
    outputs-repeated c.tracks_stay.ensures c.chapters_stay.ensures c.tags_stay.ensures c.lanes_are_read_again.ensures c.merged_documents_are_sound.ensures c.layouts_hold_outputs.ensures
