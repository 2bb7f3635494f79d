-- The limits of a reader as conditions on the bytes of an output: RFC 9559, section 5.1 (Segment Element). The limits are this project's.
use Rattle.std.specs.Prelude.{◌≡◌, ◌≤◌, ℕ, true, false, List, length, IfSome, None, Ok}
use Rattle.mkv_io.specs.declared.outside.TheConstants.{LONGEST_FILE}
use Rattle.mkv_schema.specs.declared.ids.TheConstants.{ATTACHMENTS, INFO}
use Rattle.mkv_schema.specs.declared.element.Header.{Header}
use Rattle.mkv_schema.specs.declared.limits.TheConstants.{MAX_MASTER_LEN}
use Rattle.mkv_schema.specs.Element.{known}
use Rattle.mkv_schema.specs.Outline.{Outlined}
use Rattle.mkv_schema.specs.Value.{first_of}
use Rattle.mkv_schema.specs.WithoutLimits.{outline_without_limits}
use Rattle.tree_format.specs.declared.limits.TheConstants.{MAX_NODES}
use Rattle.tree_format.specs.Standing.{kept}
use Rattle.file_format.specs.FileBlocks.{file_events}
use Rattle.output_model.specs.Document.{Document, layout}
use Rattle.output_model.specs.Sound.{IsSoundDocument}
use Rattle.remerge_laws.specs.Files.{AttachmentsKeepLimits}
use Rattle.remerge_laws.specs.Outline.{KeepsReaderLimits}
use Rattle.remerge_laws.specs.Records.{OutputKeepsLimits}

-- A file with the content `bytes` keeps a reader's limits: at most LONGEST_FILE (2^48) bytes, a first Info of at most 16 MiB, and the limits of its
-- first Attachments. Its blocks are the same with and without limits. A condition of the law that an output, merged by itself, is written as it was.
pub record IsWithinLimits (bytes : List ℕ) : Type 0 where
  pub short : length bytes ≤ LONGEST_FILE
  pub info : (o : Outlined) → outline_without_limits bytes ≡ Ok o → IfSome (first_of INFO o.list) (λ (h : Header). known h.size ≤ MAX_MASTER_LEN)
  pub attachments : (o : Outlined) → outline_without_limits bytes ≡ Ok o → IfSome (first_of ATTACHMENTS o.list) (AttachmentsKeepLimits bytes)
  pub blocks : (o : Outlined) → outline_without_limits bytes ≡ Ok o → file_events true bytes o.segment ≡ file_events false bytes o.segment

-- The records of the document `d`, as a reader finds it, are small: its Info has at most 65,536 Elements, and its Tracks, Chapters and Tags keep a
-- reader's limits. A condition of `OctetsKeepLimits`.
pub record RecordsAreSmall (d : Document) : Type 0 where
  pub lasting : d.front.lasting ≡ None
  pub info : kept d.front.info ≤ MAX_NODES
  pub tracks : KeepsReaderLimits d.front.tracks
  pub chapters : IfSome d.chapters KeepsReaderLimits
  pub tags : IfSome d.tags KeepsReaderLimits

-- The output with the document `d` keeps a reader's limits if `d` is valid, its records are small, and its bytes keep the limits. The law
-- `octets_keep_limits` states it.
abbrev pub OctetsKeepLimits : Type 0
OctetsKeepLimits = (d : Document) → IsSoundDocument d → RecordsAreSmall d → IsWithinLimits (layout d) → OutputKeepsLimits d
