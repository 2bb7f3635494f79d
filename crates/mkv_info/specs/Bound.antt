-- The limits on the bytes that `info` and `merge -J` read of a file. They are this project's.
use Rattle.std.specs.Prelude.{ℕ, ◌+◌, ◌*◌, min, List, length, Option, Some, None}
use Rattle.meta_records.specs.declared.limits.TheConstants.{MAX_ATTACHMENTS_LEN}
use Rattle.mkv_lines.specs.Command.{with_sidecar_head}
use Rattle.mkv_info.specs.declared.info.Form.{Form}
use Rattle.mkv_info.specs.declared.info.Form.TheVariants.{Lines, Json}

-- the limit in bytes for `info` on a file of `octets` bytes: its outline twice, Tracks once, and level 1 once more
abbrev pub most_to_list : ℕ → ℕ
most_to_list octets = 4 * octets

-- the limit in bytes for `merge -J` on a file of `octets` bytes. It is its outline twice; Info, Tracks, Chapters and Tags once each; and attached
-- files without their data.
abbrev pub most_to_identify : ℕ → ℕ
most_to_identify octets = 6 * octets + min (16 * octets) (2 * MAX_ATTACHMENTS_LEN)

-- the limit in bytes for describing a file of `octets` bytes in this form, by `info` or `merge -J`
abbrev pub most_of_form : Form → ℕ → ℕ
most_of_form Lines octets = most_to_list octets
most_of_form Json octets = most_to_identify octets

-- the limit in bytes for describing a file with the content `bytes` in the form `form`, the head of its journal included. It is 0 without a file.
-- `most_to_tell` uses it.
abbrev pub most_with : Form → Option (List ℕ) → ℕ
most_with form None = 0
most_with form (Some bytes) = with_sidecar_head (most_of_form form) (length bytes)

-- the limit in bytes for describing the file `name` in the form `form`, if `world` has the content of each name. The contract of `info_of` promises
-- it.
abbrev pub most_to_tell : Form → (List ℕ → Option (List ℕ)) → List ℕ → ℕ
most_to_tell form world name = most_with form (world name)
