-- The lines that report the outputs of a merge and warn of damage. They are this project's.
use Rattle.std.specs.Prelude.{ℕ, suc, ◌==◌, Bool, ◌||◌, List, [], ◌∷◌, ◌++◌, length, map, filter}
use Rattle.requests.specs.declared.merge.FileWords.{FileWords}
use Rattle.requests.specs.declared.merge.MergeWords.{MergeWords}
use Rattle.mkv_lines.specs.Line.{more_damages_line, warning_line, wrote_blocks_line}
use Rattle.mkv_lines.specs.declared.status.Status.{Status}
use Rattle.mkv_io.specs.Lists.{is_some_of}
use Rattle.mkv_merge.specs.Merge.{has_other_count, warned_if, uuid_lines}
use Rattle.remux_plan.specs.declared.summary.InputDamage.{InputDamage}
use Rattle.remux_plan.specs.declared.summary.MoreDamage.{MoreDamage}
use Rattle.remux_plan.specs.declared.summary.Summary.{Summary}
use Rattle.remux_plan.specs.declared.summary.Written.{Written}

-- the damaged places in `damages` that are in the input number `input`, counted from 0; they are reported one by one. For `damage_warnings`, in the
-- messages of `merge`.
abbrev pub damages_at : ℕ → List InputDamage → List InputDamage
damages_at input damages = filter (λ (d : InputDamage). d.input == input) damages

-- the numbers of damaged places in `more` that are for the input number `input`, counted from 0; these places aren't reported one by one. For
-- `more_warnings`, in the messages of `merge`.
abbrev pub more_at : ℕ → List MoreDamage → List MoreDamage
more_at input more = filter (λ (m : MoreDamage). m.input == input) more

-- a warning for each damaged place in `damages` that is in the input number `input`, counted from 0, with the name `name`. The contract of `warn_of`
-- states it.
abbrev pub damage_warnings : List ℕ → ℕ → List InputDamage → List (List ℕ)
damage_warnings name input damages = map (λ (d : InputDamage). warning_line name d.damage) (damages_at input damages)

-- the warning with the number of further damaged places of the input number `input`, counted from 0, with the name `name`, if `more` has one. The
-- contract of `warn_more` states it.
abbrev pub more_warnings : List ℕ → ℕ → List MoreDamage → List (List ℕ)
more_warnings name input more = map (λ (m : MoreDamage). more_damages_line name m.count) (more_at input more)

-- the warnings about damage that the summary `s` has for the input number `input`, counted from 0, with the name `name`. For `warnings_from`, in the
-- messages of `merge`.
abbrev pub input_warnings : Summary → ℕ → List ℕ → List (List ℕ)
input_warnings s input name = damage_warnings name input s.damages ++ more_warnings name input s.more

-- the warnings about damage that the summary `s` has for the inputs from the number `input`, counted from 0, onwards. The contract of `warn` states
-- it.
abbrev pub warnings_from : Summary → ℕ → List FileWords → List (List ℕ)
warnings_from s input [] = []
warnings_from s input (file ∷ files) = input_warnings s input file.name ++ warnings_from s (suc input) files

-- The merge has something to warn of: an option names a track that its input lacks (`absent`), or the summary `s` has damage. For `told_status`.
abbrev pub is_warned : Bool → Summary → Bool
is_warned absent s = absent || is_some_of s.damages

-- a message for each complete output, with its name and number of blocks. The contract of `say_wrote` states it.
abbrev pub wrote_lines : List Written → List (List ℕ)
wrote_lines outputs = map (λ (w : Written). wrote_blocks_line w.name w.blocks) outputs

-- the messages about the outputs in the summary `s`, and then the warnings about damage of the inputs. The contract of `tell_outputs` states it.
-- `words` are the options of the merge.
abbrev pub told_outputs : MergeWords → Summary → List (List ℕ)
told_outputs words s = wrote_lines s.outputs ++ warnings_from s 0 words.files

-- the messages after the outputs in the summary `s` are written: the outputs, the damage of the inputs, and the number of segment identifiers. The
-- contract of `tell` states it. `words` are the options of the merge.
abbrev pub told_summary : MergeWords → Summary → List (List ℕ)
told_summary words s = told_outputs words s ++ uuid_lines words (length s.outputs)

-- the status of a merge whose messages are all printed; `absent` holds if an option names a track that its input lacks. The contract of `tell` states
-- it. `words` are the options of the merge, and `s` is the summary of its outputs.
abbrev pub told_status : MergeWords → Bool → Summary → Status
told_status words absent s = warned_if (is_warned absent s || has_other_count words (length s.outputs))
