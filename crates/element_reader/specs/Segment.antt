-- The search for the Segment from an offset at level 0 on: RFC 9559, section 5.1 (Segment Element).
use Rattle.std.specs.Prelude.{ℕ, List, Result, Ok, Err}
use Rattle.mkv_io.specs.declared.damage.Damage.{Damage}
use Rattle.mkv_schema.specs.declared.element.Header.{Header}
use Rattle.mkv_schema.specs.Elements.{Run}
use Rattle.mkv_schema.specs.Outline.{before_segment, segment_behind}
use Rattle.mkv_io.specs.Results.{and_then, unless}

-- the Segment after `run`, the Elements at level 0 before it in the content `bytes`, or the damage for which the file is refused before it; for
-- `segment_from`
abbrev pub segment_or_damage : List ℕ → Run → Result Header Damage
segment_or_damage bytes run = and_then (unless run.damage run) (segment_behind bytes)

-- the first Segment from the offset `from` on in the content `bytes` of a file, or the damage for which the file is refused before it; the contract
-- of `find_segment`
abbrev pub segment_from : List ℕ → ℕ → Result Header Damage
segment_from bytes from = segment_or_damage bytes (before_segment bytes from)

-- the offset of the data of the Segment that `find_segment` returned, or `total`, the end of the file, if there is no Segment. The file is read up to
-- there.
abbrev pub body_or : ℕ → Result Header Damage → ℕ
body_or total (Ok h) = h.body
body_or total (Err d) = total
