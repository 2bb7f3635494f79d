-- Records that are too large to be read again. The limits are this project's.
use Rattle.std.specs.Prelude.{nat_lt, Bool, ◌||◌, length}
use Rattle.mkv_schema.specs.declared.limits.TheConstants.{MAX_MASTER_LEN}
use Rattle.tree_format.specs.declared.limits.TheConstants.{MAX_NODES}
use Rattle.tree_format.specs.Node.{Node}
use Rattle.tree_format.specs.NormalForm.{content}
use Rattle.tree_format.specs.Standing.{kept}

-- The record `tree` of an output of `merge` is too large to be read again: it has more than 16 MiB after its header, or more than 65,536 written
-- Elements with itself.
abbrev pub is_too_large : Node → Bool
is_too_large tree = nat_lt MAX_MASTER_LEN (length (content tree)) || nat_lt MAX_NODES (kept tree)
