-- Elements that are appended to bytes, with their places.
use Rattle.std.specs.Prelude.{◌≡◌, ℕ, ◌+◌, true, List, [], ◌++◌, length, All, Option, replicate}
use Rattle.ebml_numbers.specs.Number.{is_id}
use Rattle.mkv_schema.specs.declared.ids.TheConstants.{VOID}
use Rattle.output_model.specs.Element.{Element, joined}
use Rattle.output_model.specs.declared.places.Seek.{Seek}
use Rattle.output_model.specs.SeekHead.{seeks_from}
use Rattle.output_model.specs.Document.{back_with}
use Rattle.output_model.specs.declared.places.CuePoint.{CuePoint}
use Rattle.tree_format.specs.Node.{Node}

-- The Elements `es` were appended to the bytes `out`, which begin `at` bytes inside an output's Segment's content, and their Seeks to `seeks`. The
-- results are `out'` and `seeks'`. `merge` builds the Elements around its Clusters so.
pub record Adds (at : ℕ) (es : List Element) (out out' : List ℕ) (seeks seeks' : List Seek) : Type 0 where
  pub octets : out' ≡ out ++ joined es
  pub places : seeks' ≡ seeks ++ seeks_from (at + length out) es

-- The IDs in `seeks`, the Seeks for the SeekHead of an output or an edit, are valid Element IDs. Used by `put_seeks`, `seeks_len` and others.
abbrev pub AreIds : List Seek → Type 0
AreIds seeks = All (λ s. is_id s.id ≡ true) seeks

-- a Void with `len` zeros as content and a size field of `width` bytes, as `put_filled` appends it
abbrev pub filled_void : ℕ → ℕ → Element
filled_void len width = record { id = VOID; width = width; body = replicate len 0 }

-- The bytes `out` are the Elements of an output after its Clusters, which begin `at` bytes inside the Segment's content: Cues with `points`, Chapters
-- and Tags. Their Seeks were appended to `seeks`, with the result `seeks'`. It is the contract of `back_octets`.
abbrev pub AddsBack : ℕ → List CuePoint → Option Node → Option Node → List Seek → List Seek → List ℕ → Type 0
AddsBack at points chapters tags seeks seeks' out = Adds at (back_with points chapters tags) [] out seeks seeks'
