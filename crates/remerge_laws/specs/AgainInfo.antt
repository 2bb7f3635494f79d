-- The Info of an output that is merged by itself: RFC 9559, section 5.1.2 (Info Element). This is this project's promise.
use Rattle.std.specs.Prelude.{◌≡◌, List, ℕ, [], ◌∷◌, Option, Some}
use Rattle.tree_format.specs.Node.{Node}
use Rattle.tree_format.specs.Text.{HasNoZero}
use Rattle.output_model.specs.Document.{info_told}
use Rattle.requests.specs.declared.merge.MergeWords.{MergeWords}
use Rattle.merge_inputs.specs.Input.{InputRead}
use Rattle.merge_inputs.specs.Title.{title_of_info}
use Rattle.merge_plan.specs.Records.{info_of, title_of}
use Rattle.remerge_laws.specs.Placed.{MayStandAs}
use Rattle.remerge_laws.specs.Plain.{plain_merge}

-- An input `again` with the title of the Info that a merge `words` of the inputs `reads` wrote has this Info again after it is merged by itself.
-- `info` is the Info as it is read, with the Duration that `lasting` gives, `name` the file, and `out` the new output. The title has no zero byte, and
-- both merges have the default scale.
abbrev pub InfoIsWrittenAgain : Type 0
InfoIsWrittenAgain =
    (words : MergeWords) (reads : List InputRead) (lasting : Option ℕ) (out name : List ℕ) (info : Option Node) (again : InputRead) → words.scale ≡ 1000000
    → HasNoZero (title_of words reads) → MayStandAs (Some (info_told (info_of words reads) lasting)) info → again.title ≡ title_of_info info
    → info_of (plain_merge out name) (again ∷ []) ≡ info_of words reads
