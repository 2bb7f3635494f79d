use Rattle.std.proofs.Common.{◌-◌, length, map, ap, arith}
use Rattle.std.proofs.lemmas.List.{length-append}
use Rattle.tree_format.specs.NormalForm.{header_octets}
use Rattle.mkv_schema.specs.declared.ids.TheConstants.{SEEK_HEAD}
use Rattle.output_model.specs.Element.{joined, octets_of, void_element}
use Rattle.output_model.specs.SeekHead.{seek_element}
use Rattle.cues_seekhead.proofs.PlacesLemmas.{length-void}
use Rattle.cues_seekhead.proofs.area.area_octets.Goals as goal

pub returns-clause-len : goal.returns-clause-len
returns-clause-len c =
    let inside = c.seeks_len-inside.result in
    let left = 256 - c.element_len.result in
    omega (
      arith,
      ap length c.in_ok-put_void.ensures.ok,
      ap length c.in_ok-put_seeks.ensures.ok,
      ap length c.in_ok-put_header.ensures.ok,
      ap length c.new-out.ensures,
      length-append c.put_seeks.new.out (octets_of (void_element left)),
      length-append c.put_header.new.out (joined (map seek_element c.args.seeks.now)),
      length-append c.new-out.result (header_octets SEEK_HEAD inside),
      length-void left (omega arith) (omega arith),
    )
