-- The Info of an output: RFC 9559, section 5.1.2 (Info). Its children are this project's choice.
use Rattle.std.specs.Prelude.{ℕ, List, [], ◌∷◌, ◌++◌, codes}
use Rattle.mkv_schema.specs.declared.ids.TheConstants.{INFO, TIMESTAMP_SCALE, TITLE, MUXING_APP, WRITING_APP}
use Rattle.tree_format.specs.Node.{Node, leaf, master, nodes_of}
use Rattle.tree_format.specs.Children.{uint_leaf}

-- the name and version of the program, for MuxingApp and WritingApp in the Info of an output; for `output_info`
abbrev pub application : List ℕ
application = codes "mkvsuite 1"

-- the Title Element for a title in the Info of an output, or none if the title is empty; for `output_info`
abbrev pub title_elements : List ℕ → List Node
title_elements [] = []
title_elements (octet ∷ octets) = leaf TITLE 0 (octet ∷ octets) ∷ []

-- the Info of an output of a merge or of `generate` with `scale` nanoseconds per tick and the title `title`, without a Duration
abbrev pub output_info : ℕ → List ℕ → Node
output_info scale title = master INFO 0 (nodes_of (
    uint_leaf TIMESTAMP_SCALE scale ∷ title_elements title ++ (leaf MUXING_APP 0 application ∷ leaf WRITING_APP 0 application ∷ [])))
