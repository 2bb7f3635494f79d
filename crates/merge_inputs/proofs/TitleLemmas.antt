-- A Title is a text of the table.
use Rattle.std.proofs.Common.{◌≡◌, true, Some, refl, ap, ◌∙◌}
use Rattle.std.specs.Str.{IsUtf8}
use Rattle.std.proofs.lemmas.Str.{IsUtf8-from_is_utf8}
use Rattle.mkv_schema.specs.declared.ids.TheConstants.{INFO, TITLE}
use Rattle.mkv_schema.specs.declared.kind.ElementKind.TheVariants.{Utf8}
use Rattle.mkv_schema.specs.Table.{table}
use Rattle.mkv_schema.specs.Schema.{entry_of, kind_of, may_stand}
use Rattle.mkv_schema.specs.Value.{text_of}
use Rattle.tree_format.specs.Node.{Node, body_of}
use Rattle.tree_format.specs.Standing.{IsSoundOf}
use Rattle.tree_format.specs.Values.{first_child}
use Rattle.tree_format.proofs.ChildLemmas.{first_child-value}

title_stands : may_stand TITLE INFO ≡ true
unfolding entry_of table
title_stands = refl

title_kind : kind_of TITLE ≡ Some Utf8
unfolding entry_of table
title_kind = refl

pub title-utf8 : (info n : Node) → IsSoundOf INFO info → first_child TITLE info ≡ Some n → IsUtf8 (text_of (body_of n))
title-utf8 info n is found =
    IsUtf8-from_is_utf8 (text_of (body_of n)) (first_child-value info n TITLE Utf8 is.sound (ap (may_stand TITLE) is.id ∙ title_stands) title_kind found)
