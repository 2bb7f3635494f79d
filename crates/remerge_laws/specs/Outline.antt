-- The outline of an output, as a reader with limits finds it: RFC 8794, section 8 (EBML Document), and RFC 9559, section 5.1 (Segment Element).
-- The limits are this project's.
use Rattle.std.specs.Prelude.{◌≡◌, ◌≤◌, length, IfSome, None, Ok}
use Rattle.mkv_schema.specs.declared.limits.TheConstants.{MAX_MASTER_LEN}
use Rattle.mkv_schema.specs.Outline.{outline_of}
use Rattle.tree_format.specs.declared.limits.TheConstants.{MAX_NODES}
use Rattle.tree_format.specs.Node.{Node}
use Rattle.tree_format.specs.NormalForm.{content}
use Rattle.tree_format.specs.Standing.{kept}
use Rattle.output_model.specs.Document.{Document, layout}
use Rattle.output_model.specs.Sound.{IsSoundDocument}
use Rattle.output_laws.specs.Reading.{outline_of_document}

-- A reader with limits can read the record `n`: it has at most 16 MiB of content and 65,536 Elements. A condition on Info, Tracks, Chapters and Tags
-- of an output. Used by `OutputBlocksAreRead`, `RecordsAreSmall` and others.
pub record KeepsReaderLimits (n : Node) : Type 0 where
  pub short : length (content n) ≤ MAX_MASTER_LEN
  pub few : kept n ≤ MAX_NODES

-- The document `d` is as a reader finds it, with a Duration only as a child of its Info. A reader with limits can read its Info, Tracks, Chapters and
-- Tags. A condition of the laws on an output that is read.
pub record RecordsKeepLimits (d : Document) : Type 0 where
  pub lasting : d.front.lasting ≡ None
  pub info : KeepsReaderLimits d.front.info
  pub tracks : KeepsReaderLimits d.front.tracks
  pub chapters : IfSome d.chapters KeepsReaderLimits
  pub tags : IfSome d.tags KeepsReaderLimits

-- A reader with limits finds the outline of the output with the valid document `d`, as the document gives it, if its Info, Tracks, Chapters and Tags
-- keep the limits. The law `outlines_are_read` states it.
abbrev pub OutlinesAreRead : Type 0
OutlinesAreRead =
    (d : Document) → IsSoundDocument d → RecordsKeepLimits d → outline_of 0 (layout d) ≡ Ok (outline_of_document d (length (layout d)))
