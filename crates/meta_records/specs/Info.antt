-- An Info as values: RFC 9559, section 5.1.2 (Info).
use Rattle.std.specs.Prelude.{◌≡◌, ℕ, List, Some, Result, Ok}
use Rattle.mkv_io.specs.declared.damage.Damage.{Damage}
use Rattle.mkv_io.specs.Results.{unless}
use Rattle.tree_format.specs.Node.{Node}
use Rattle.file_format.specs.Info.{first_info, info_refusal, info_tree, scale_of}
use Rattle.meta_records.specs.declared.info.Info.{Info}
use Rattle.mkv_schema.specs.declared.element.Header.{Header}

-- the values of the Info `info`, or its damage. The contract of `read_info` states it.
abbrev pub info_of : Node → Result Info Damage
info_of info = unless (info_refusal info) (record { scale = scale_of info })

-- `P` holds for the content and the Segment of each file whose first Info is `info`. Used by the contract of `read_info`, to state that its scale is
-- the file's.
abbrev pub IfFirst : Node → (List ℕ → Header → Type 0) → Type 0
IfFirst info P = (bytes : List ℕ) (segment h : Header) → first_info bytes segment ≡ Some h → info_tree bytes h ≡ Ok info → P bytes segment
