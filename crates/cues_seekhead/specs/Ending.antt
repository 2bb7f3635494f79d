-- The bytes of an output's last writes.
use Rattle.std.specs.Prelude.{◌≡◌, ◌≤◌, ℕ, ◌+◌, List, ◌++◌, length}
use Rattle.tree_format.specs.NormalForm.{longest}
use Rattle.output_model.specs.Element.{Element, joined}
use Rattle.output_model.specs.declared.TheConstants.{AREA}
use Rattle.output_model.specs.declared.places.Seek.{Seek}
use Rattle.output_model.specs.SeekHead.{area_elements, seeks_from}
use Rattle.cues_seekhead.specs.declared.ending.Ending.{Ending}

-- `e` has the last writes of an output, which `finish` computes before it writes. They are the bytes of `elements`, which begin `len` bytes inside
-- the Segment's content, and the area with `seeks` and the Seeks of `elements`. `e` also has the length of the Segment's content.
pub record IsEnding (len : ℕ) (seeks : List Seek) (elements : List Element) (e : Ending) : Type 0 where
  pub back : e.back ≡ joined elements
  pub area : e.area ≡ joined (area_elements (seeks ++ seeks_from len elements))
  pub filled : length e.area ≡ AREA
  pub total : e.total ≡ len + length e.back
  pub fits : e.total ≤ longest
