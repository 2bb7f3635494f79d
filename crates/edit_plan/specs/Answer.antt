-- Results of the calls that plan an edit, against the definitions of edits. Nothing is promised about a failed read or if memory runs out.
use Rattle.std.specs.Prelude.{◌≡◌, ⊤, Bool, true, false, List, map, Result, Ok, Err}
use Rattle.std.specs.declared.alloc.Global.{Global}
use Rattle.std.specs.declared.vec.Vec.{Vec}
use Rattle.sidecar_edit.specs.Writes as disk
use Rattle.edit_changes.specs.declared.refusal.Refusal.{Refusal}
use Rattle.edit_plan.specs.declared.plan_end.PlanEnd.{PlanEnd}
use Rattle.edit_plan.specs.declared.plan_end.PlanEnd.TheVariants as end
use Rattle.edit_plan.specs.declared.write.Write.{Write}
use Rattle.edit_plan.specs.Shown.{writes_in, written}
use Rattle.mkv_io.specs.Sources.{IfTold}
use Rattle.mkv_io.specs.declared.reads.Reads.{Ghosts}
use Rattle.mkv_io.specs.declared.outside.FileId.{FileId}
use Rattle.element_reader.specs.Outline.{FileOutline}
use Rattle.edit_plan.specs.declared.part.Part.{Part}
use Rattle.edit_plan.specs.declared.seek_rule.Rewriting.{Rewriting}
use Rattle.element_reader.specs.declared.outline_end.OutlineEnd.{OutlineEnd}
use Rattle.meta_records.specs.Records.{IfOutlined, ReadsAs}
use Rattle.edit_changes.specs.declared.trees.Trees.{Trees}
use Rattle.edit_changes.specs.Plan.{if_editable}
use Rattle.edit_changes.specs.Records.{trees_of}
use Rattle.edit_plan.specs.Opening.{IfOutline}

-- The result of planning has `found`, the writes or their refusal that the definitions give; or a read failed, or memory ran out. Contracts of
-- `edit_writes` and of the two kinds of plan promise it.
abbrev pub Answers : Result (List disk.Write) Refusal → Result (Vec Write Global) PlanEnd → Type 0
Answers found (Ok writes) = found ≡ Ok (map written writes.items)
Answers found (Err (end.Refused r)) = found ≡ Err r
Answers found (Err end.ReadFault) = ⊤
Answers found (Err end.Memory) = ⊤

-- Planning ended because a read failed. Contracts of planning count only this end as a reading fault. Used by `place_writes`, `moving_writes` and
-- others.
abbrev pub is_plan_fault : PlanEnd → Bool
is_plan_fault (end.Refused r) = false
is_plan_fault end.ReadFault = true
is_plan_fault end.Memory = false

-- The result of a step of planning has `found`, the value or its refusal that the definitions give; or a read failed, or memory ran out. Contracts of
-- `plan` and of its steps promise it.
abbrev pub Gives : {A : Type 0} → Result A Refusal → Result A PlanEnd → Type 0
Gives found (Ok x) = found ≡ Ok x
Gives found (Err (end.Refused r)) = found ≡ Err r
Gives found (Err end.ReadFault) = ⊤
Gives found (Err end.Memory) = ⊤

-- `result` has the writes of `parts` with the rule `rewriting` for the file `file` with the outline `outline`, or their refusal. It is promised if
-- the file's content is visible to the proof in the state `src`; `r` has the live files of a state. The contract of `parts_writes` promises it.
abbrev pub AnswersWrites : {S : Type 0} → Ghosts S → S → FileId → Rewriting → FileOutline → List Part → Result (Vec Write Global) PlanEnd → Type 0
AnswersWrites r src file rewriting outline parts result = IfTold r src file (λ bytes. Answers (writes_in rewriting bytes outline parts) result)

-- `result` has the editable parts of the file `file` with the outline `outline`, or its refusal. It is promised if the content is visible to the
-- proof in the state `src`; `r` has the live files of a state. The contract of `read_trees` promises it.
abbrev pub ReadsTrees : {S : Type 0} → Ghosts S → S → FileId → FileOutline → Result Trees OutlineEnd → Type 0
ReadsTrees r src file outline result = IfOutlined r src file outline (λ bytes. ReadsAs (trees_of bytes outline.segment) result)

-- `result` has the editable parts of the file `file` with the outline `outline`, or the refusal of its edits. It is promised if the content is
-- visible to the proof in the state `src`; `r` has the live files of a state. The contract of `open_trees` promises it.
abbrev pub AnswersTrees : {S : Type 0} → Ghosts S → S → FileId → FileOutline → Result Trees PlanEnd → Type 0
AnswersTrees r src file outline result = IfOutline r src file outline (λ bytes. Gives (if_editable (trees_of bytes outline.segment)) result)
