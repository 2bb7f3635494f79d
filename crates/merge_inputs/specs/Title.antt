-- The title of a file: RFC 9559, section 5.1.2 (Info), Title.
use Rattle.std.specs.Prelude.{ℕ, List, [], Option}
use Rattle.std.specs.Option.{option_map_or}
use Rattle.mkv_schema.specs.declared.ids.TheConstants.{TITLE}
use Rattle.mkv_schema.specs.Value.{text_of}
use Rattle.tree_format.specs.Node.{Node, body_of}
use Rattle.tree_format.specs.Values.{first_child}

-- the text of the first Title in the Info `info` of an input, up to its first zero byte, or empty if absent
abbrev pub title_text : Node → List ℕ
title_text info = option_map_or (λ n. text_of (body_of n)) (first_child TITLE info) []

-- the title in an input's first Info, the argument, or empty if absent; a candidate for the title of the output. Used by `title_of`, `input_with` and
-- others.
abbrev pub title_of_info : Option Node → List ℕ
title_of_info info = option_map_or title_text info []
