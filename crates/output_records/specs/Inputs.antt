-- The records of the inputs of a merge, besides tracks and blocks. The choice of kept records is this project's.
use Rattle.std.specs.Prelude.{List, [], ◌∷◌, All, Option, Some, None, IfSome}
use Rattle.mkv_schema.specs.declared.ids.TheConstants.{CHAPTERS, TAGS}
use Rattle.tree_format.specs.Node.{Node, children}
use Rattle.ebml_tree.specs.Building.{IsRead}
use Rattle.output_model.specs.declared.attachment.Attachment.{Attachment}
use Rattle.output_model.specs.Sound.{IsAttachment}
use Rattle.output_records.specs.declared.inputs.InputRecords.{InputRecords}

-- The AttachedFile of the attached file `a` of an input or an output can be written and read again. Used by `with_uid`, `attachments_of` and others.
abbrev pub IsAttached : Attachment → Type 0
IsAttached a = IsAttachment a.entry

-- The records of the input `i` of a merge were read, so that they can be written again, as merging them requires. Used by `attachments_of`,
-- `push_chapters` and others.
pub record IsInput (i : InputRecords) : Type 0 where
  pub attachments : All IsAttached i.attachments
  pub chapters : IfSome i.chapters (IsRead CHAPTERS)
  pub tags : IfSome i.tags (IsRead TAGS)

-- the children of an input's Chapters or Tags, or none if it is absent; for `chapters_in` and `tags_in`
abbrev pub children_in : Option Node → List Node
children_in None = []
children_in (Some n) = children n

-- the identifiers that `f` finds in an input's Chapters, or none if it is absent; for `uids_of`
abbrev pub uids_in : {A : Type 0} → (Node → List A) → Option Node → List A
uids_in f None = []
uids_in f (Some n) = f n

-- the record `n` of an output, or None if the list of its children, the second argument, is empty; for `with_some`
abbrev pub unless_empty : Node → List Node → Option Node
unless_empty n [] = None
unless_empty n (child ∷ others) = Some n

-- the record `n` of an output, its Chapters or Tags, or None if it has no children and so isn't written; for `merged_chapters` and `merged_tags`
abbrev pub with_some : Node → Option Node
with_some n = unless_empty n (children n)
