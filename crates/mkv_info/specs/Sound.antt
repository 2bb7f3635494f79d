-- Properties of the records of a file that was read without refusal.
use Rattle.std.specs.Prelude.{All, IfSome}
use Rattle.mkv_schema.specs.declared.ids.TheConstants.{ATTACHED_FILE, TAGS}
use Rattle.tree_format.specs.Node.{Node}
use Rattle.tree_format.specs.Standing.{IsSoundOf}
use Rattle.track_records.specs.Sound.{IsEntry}
use Rattle.track_records.specs.declared.track.Track.{Track}
use Rattle.output_model.specs.declared.attachment.Attachment.{Attachment}
use Rattle.meta_records.specs.Records.{IsGoodInfo}
use Rattle.meta_records.specs.declared.records.Records.{Records}

-- The Matroska table allows each child of the AttachedFile of `a` there. It holds for each attached file that was read, so `attachment_value` may
-- read its texts.
abbrev pub IsAttached : Attachment → Type 0
IsAttached a = IsSoundOf ATTACHED_FILE a.entry

-- The Matroska table allows each child of `tags`, a Tags, there. It holds for tags that were read, which are counted for `merge -J`.
abbrev pub AreTags : Node → Type 0
AreTags tags = IsSoundOf TAGS tags

-- The records `r` can be described by `merge -J`: the Matroska table allows the children of each Element, and the Info isn't refused. The contract of
-- `read_file` promises it.
pub record CanBeTold (r : Records) : Type 0 where
  pub info : IfSome r.info IsGoodInfo
  pub tracks : All (λ (t : Track). IsEntry t.entry) r.tracks
  pub attachments : All IsAttached r.attachments
  pub tags : IfSome r.tags AreTags
