-- The elements before the Clusters: an EBML header (RFC 8794, section 8.1, EBML Header), and the start of a Segment (RFC 9559, section 4.5, Data
-- Layout).
use Rattle.std.specs.Prelude.{◌≡◌, ℕ, ◌+◌, if◌then◌else◌, Bool, List, [], ◌∷◌, ◌++◌, length, sum_by, Option}
use Rattle.std.specs.Option.{option_map}
use Rattle.tree_format.specs.Node.{Node}
use Rattle.output_model.specs.Element.{Element, joined}
use Rattle.output_model.specs.declared.TheConstants.{AREA}
use Rattle.output_model.specs.declared.places.Seek.{Seek}
use Rattle.output_model.specs.SeekHead.{open_area, seeks_from}
use Rattle.output_model.specs.Document.{before_duration, info_element, lasting_if, tree_element, file_with, unknown_size}
use Rattle.cues_seekhead.specs.Attached.{attached_total, attachments_header, attachments_seeks}
use Rattle.output_model.specs.declared.front.Front as given
use Rattle.cues_seekhead.specs.declared.front.Opening.{Opening}

-- the number of bytes of an output before its Segment's content: an EBML header of 36 or 40 bytes, the Segment's ID and its size; `webm` is true for
-- WebM. Used by `draft_of`.
abbrev pub body_start : Bool → ℕ
body_start webm = if webm then 48 else 52

-- the offset in bytes of the Duration from the start of an output's Segment's body, or None without a Duration. `info` is the Info, the first Element
-- after the area, and `lasting` is the tick at which the output ends, if Info has a Duration.
abbrev pub place_of : Node → Option ℕ → Option ℕ
place_of info lasting = option_map (λ end. AREA + length (before_duration info)) lasting

-- the Info and the Tracks of an output with the front `f` as Elements, with a Void in the place of a Duration, as they are written first; for
-- `front_head` and `front_seeks`
abbrev pub records_of : given.Front → List Element
records_of f = info_element f.info (lasting_if f.duration) ∷ tree_element f.tracks ∷ []

-- the bytes of Info and Tracks of an output with the front `f`, and the header of its Attachments, if there are attached files. Used by `IsOpening`.
abbrev pub front_head : given.Front → List ℕ
front_head f = joined (records_of f) ++ attachments_header f.attachments

-- the Seeks of the Elements of an output before its Clusters, by its front `f`: Info, Tracks, and Attachments if there are any. Used by `IsOpening`.
abbrev pub front_seeks : given.Front → List Seek
front_seeks f = seeks_from AREA (records_of f) ++ attachments_seeks (AREA + length (joined (records_of f))) f.attachments

-- `o` is the start of an output with the front `f`, as `open_octets` returns it: its first bytes up to its first AttachedFile, the Seeks of the
-- Elements before the Clusters, their length, and the place of the Duration, if there is one
pub record IsOpening (f : given.Front) (o : Opening) : Type 0 where
  pub octets : o.octets ≡ file_with f.webm unknown_size open_area (front_head f)
  pub seeks : o.seeks.items ≡ front_seeks f
  pub len : o.len ≡ AREA + length (front_head f) + sum_by attached_total f.attachments
  pub place : o.place ≡ place_of f.info (lasting_if f.duration)
