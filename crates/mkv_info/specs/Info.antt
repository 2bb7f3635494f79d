-- The outcome of `info` and `merge -J` for one file. All of it is this project's, after mkvinfo(1) and `mkvmerge -J`.
use Rattle.std.specs.Prelude.{ℕ, Bool, List, Option, Some, None}
use Rattle.mkv_lines.specs.Line.{missing_line}
use Rattle.mkv_lines.specs.Verdict.{Verdict, refused, unless_pending}
use Rattle.sidecar_edit.specs.Pending.{is_pending}
use Rattle.mkv_info.specs.Identified.{identified_verdict}
use Rattle.mkv_info.specs.Listed.{listed_verdict}
use Rattle.mkv_info.specs.declared.info.Form.{Form}
use Rattle.mkv_info.specs.declared.info.Form.TheVariants.{Lines, Json}

-- the outcome for the file `name` with the content `bytes`, in this form: of `info` or of `merge -J`. `name_verdict` uses it.
abbrev pub content_verdict : Form → List ℕ → List ℕ → Verdict
content_verdict Lines name bytes = listed_verdict name bytes
content_verdict Json name bytes = identified_verdict name bytes

-- the outcome of `info` or `merge -J` for the file `name` in the form `form`, given its content, or None if it doesn't exist. If `pending` is true,
-- its journal has a pending edit, and the file is refused.
abbrev pub name_verdict : Form → List ℕ → Bool → Option (List ℕ) → Verdict
name_verdict form name pending None = refused (missing_line name)
name_verdict form name pending (Some bytes) = unless_pending name pending (content_verdict form name bytes)

-- the outcome of `info` or `merge -J` for the open file `name` with the content `bytes`, in the form `form`. `world` has the content of each name,
-- and so of the file's journal. The contract of `report_unless_pending` promises it.
abbrev pub settled_verdict : Form → (List ℕ → Option (List ℕ)) → List ℕ → List ℕ → Verdict
settled_verdict form world name bytes = name_verdict form name (is_pending world name) (Some bytes)

-- the outcome of `info` or `merge -J` for the file `name` in the form `form`; `world` has the content of each name. The contract of `info_of`
-- promises it.
abbrev pub info_verdict : Form → (List ℕ → Option (List ℕ)) → List ℕ → Verdict
info_verdict form world name = name_verdict form name (is_pending world name) (world name)
