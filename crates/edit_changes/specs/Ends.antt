-- Stated ends of Elements that have 64 bits.
use Rattle.std.specs.Prelude.{◌<◌, ◌^◌, IfSome}
use Rattle.mkv_schema.specs.Element.{stated_end}
use Rattle.element_reader.specs.Outline.{FileOutline}

-- In the outline `o`, the ends that the Segment and the last Element at level 1 state are below 2^64. It always holds for files of at most 2^48
-- bytes, since bodies are shorter than 2^56 bytes. The checks before an append are proved under it. Used by `wrong_end`, `tail_refusal` and others.
pub record EndsFit (o : FileOutline) : Type 0 where
  pub segment : stated_end o.segment < 2 ^ 64
  pub last : IfSome o.last (λ h. stated_end h < 2 ^ 64)
