-- Parts and writes of the code, in the form of the definitions of edits.
use Rattle.std.specs.Prelude.{ℕ, List, map, Result}
use Rattle.std.specs.Option.{option_map}
use Rattle.element_reader.specs.Outline.{FileOutline}
use Rattle.output_model.specs.Element.{element}
use Rattle.sidecar_edit.specs.Writes as disk
use Rattle.edit_changes.specs.Plan as spec
use Rattle.edit_changes.specs.declared.refusal.Refusal.{Refusal}
use Rattle.edit_plan.specs.declared.part.Part.{Part}
use Rattle.edit_plan.specs.declared.seek_rule.Rewriting.{Rewriting}
use Rattle.edit_plan.specs.declared.write.Write.{Write}

-- the code's part `p` of a plan, as the definitions of edits have it. Contracts of planning compare the two with it. Used by `moving_body`, `moves`
-- and others.
abbrev pub shown : Part → spec.Part
shown p = record { id = p.id; place = p.place; room = p.room; nodes = p.nodes; element = option_map (element p.id) p.body }

-- the code's write `w` of a plan, as the definitions of edits have it. Contracts of planning compare the two with it. Used by `moving_len`, `joined`
-- and others.
abbrev pub written : Write → disk.Write
written w = record { at = w.at; bytes = w.octets.items }

-- the writes of `parts` to a file with the content `bytes` and the outline `o`, or the first refusal. The rule `r` is for the SeekHead. Contracts of
-- planning promise it.
abbrev pub writes_in : Rewriting → List ℕ → FileOutline → List Part → Result (List disk.Write) Refusal
writes_in r bytes o parts = spec.writes_of_parts r.ids.now r.always bytes o (map shown parts)
