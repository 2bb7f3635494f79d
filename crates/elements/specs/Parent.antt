-- The parents of the code as the settings that the definition of an Element has.
use Rattle.mkv_schema.specs.Element.{Setting, at_level_0, in_segment, in_master, in_tree, anywhere}
use Rattle.elements.specs.declared.parent.Parent.{Parent}
use Rattle.elements.specs.declared.parent.Parent.TheVariants.{File, Segment, Master, Tree, Any}

-- the setting that the definition of an Element has for a parent of the code. For contracts of calls with a `Parent`. Used by `element`, `child_at`
-- and others.
abbrev pub setting_of : Parent → Setting
setting_of File = at_level_0
setting_of Segment = in_segment
setting_of Master = in_master
setting_of (Tree id) = in_tree id
setting_of Any = anywhere
