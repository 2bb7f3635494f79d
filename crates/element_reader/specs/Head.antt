-- Results of the call that reads a header.
use Rattle.std.specs.Prelude.{◌≡◌, ⊤, Bool, true, false, Result, Ok, Err}
use Rattle.mkv_io.specs.declared.damage.Damage.{Damage}
use Rattle.mkv_schema.specs.declared.element.Header.{Header}
use Rattle.element_reader.specs.declared.head_end.HeadEnd.{HeadEnd}
use Rattle.element_reader.specs.declared.head_end.HeadEnd.TheVariants as head_end

-- The last argument, which `header_at` returned, has `found`, the Element or the damage by the definitions, unless a read failed.
abbrev pub IsHead : Result Header Damage → Result Header HeadEnd → Type 0
IsHead found (Ok h) = found ≡ Ok h
IsHead found (Err (head_end.Damage d)) = found ≡ Err d
IsHead found (Err head_end.ReadFault) = ⊤

-- A header wasn't read by `header_at` because a read failed; the argument is the reason that it returned.
abbrev pub is_head_fault : HeadEnd → Bool
is_head_fault (head_end.Damage d) = false
is_head_fault head_end.ReadFault = true
