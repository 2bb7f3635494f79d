use Rattle.std.proofs.Common.{List, ℕ, ◌++◌, map, sym, subst}
use Rattle.std.proofs.lemmas.List.Concat.{flat_map-append}
use Rattle.output_model.specs.Element.{octets_of}
use Rattle.cluster_writer.specs.Room.{Adds}
use Rattle.cluster_writer.proofs.RoomLemmas.{Adds-two}
use Rattle.output_model.specs.Block.{duration_elements, reference_element}
use Rattle.cluster_writer.proofs.group.add_behind.Goals as goal

pub returns : goal.returns
returns c =
    let b = c.args.block.now in
    let P : List ℕ → Type 0 = λ octets. Adds c.args.out.now c.add.new.out (octets ++ b.kept.now) in
    subst P (sym (flat_map-append octets_of (duration_elements b.head.now.duration) (map reference_element b.references.now)))
    (Adds-two _ _ _ _ _ (Adds-two _ _ _ _ _ c.add_duration.ensures c.add_references.ensures) c.add.ensures)
