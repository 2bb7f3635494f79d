-- Helpers for Elements that are written: a size field of a given width, and the step over one Void.
use Rattle.std.specs.Prelude.{ℕ, ◌==◌, ◌&&◌, if◌then◌else◌, List}
use Rattle.mkv_schema.specs.declared.ids.TheConstants.{VOID}
use Rattle.mkv_schema.specs.declared.element.Header.{Header}
use Rattle.mkv_schema.specs.Element.{stated_end}
use Rattle.output_model.specs.Element.{Element}

-- the Element with the ID `id` and the body `body`, whose size field takes `width` bytes. The contract of `element` promises its bytes.
abbrev pub element_with : ℕ → ℕ → List ℕ → Element
element_with id width body = record { id = id; width = width; body = body }

-- the offset after the Element with header `h` if it is a Void that begins at offset `p`, or else `p`. The contract of `end_behind` promises it.
abbrev pub behind_void : ℕ → Header → ℕ
behind_void p h = if h.id == VOID && h.offset == p then stated_end h else p
