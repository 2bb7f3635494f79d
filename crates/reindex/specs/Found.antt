-- A file that was read for a new index, and the calls that read it.
use Rattle.std.specs.Prelude.{◌≡◌, ⊤, ℕ, List, Result, Ok, Err}
use Rattle.mkv_io.specs.declared.damage.Damage.{Damage}
use Rattle.mkv_io.specs.Results.{and_then}
use Rattle.element_reader.specs.Outline.{FileOutline, outline_in}
use Rattle.element_reader.specs.declared.outline_end.OutlineEnd.{OutlineEnd}
use Rattle.element_reader.specs.declared.outline_end.OutlineEnd.TheVariants as outline_end
use Rattle.output_model.specs.declared.places.CuePoint.{CuePoint}
use Rattle.edit_changes.specs.declared.refusal.Refusal.TheVariants.{Damaged}
use Rattle.edit_changes.specs.Records.{trees_of}
use Rattle.edit_plan.specs.declared.plan_end.PlanEnd.{PlanEnd}
use Rattle.edit_plan.specs.declared.plan_end.PlanEnd.TheVariants as end
use Rattle.reindex.specs.Index.{points_of}
use Rattle.reindex.specs.Reading.{cues_of}
use Rattle.reindex.specs.declared.indexable.IndexableFile.{IndexableFile}
use Rattle.std.specs.declared.alloc.Global.{Global}
use Rattle.std.specs.declared.vec.Vec.{Vec}
use Rattle.mkv_io.specs.declared.reads.Reads.{Ghosts}
use Rattle.mkv_io.specs.declared.outside.FileId.{FileId}
use Rattle.edit_plan.specs.Answer.{Answers}
use Rattle.edit_plan.specs.Opening.{IfOutline}
use Rattle.edit_plan.specs.declared.write.Write.{Write}
use Rattle.reindex.specs.Plan.{index_writes}

-- A file that gets a new index by `reindex`: its outline, and the cue points of its new Cues.
pub record Pointed : Type 0 where
  pub outline : FileOutline
  pub points : List CuePoint

-- the file with the content `bytes` and its new cue points, or the damage for which `reindex` refuses it
abbrev pub pointed : List ℕ → Result Pointed Damage
pointed bytes =
    and_then (outline_in 0 bytes) (λ o.
    and_then (trees_of bytes o.segment) (λ trees.
    and_then (points_of bytes o.segment trees.tracks) (λ points. Ok (record { outline = o; points = points }))))

-- the file `f` that `reindex` gives an index, as the code has read it, in the form of the definitions
abbrev pub shown : IndexableFile → Pointed
shown f = record { outline = f.outline; points = cues_of f.points }

-- The last argument, which `find` returned, has the file with the content `bytes`, or its refusal; or a read failed, or memory ran out.
abbrev pub IsFound : List ℕ → Result IndexableFile OutlineEnd → Type 0
IsFound bytes (Ok f) = pointed bytes ≡ Ok (shown f)
IsFound bytes (Err (outline_end.Refused d)) = pointed bytes ≡ Err d
IsFound bytes (Err outline_end.ReadFault) = ⊤
IsFound bytes (Err outline_end.Memory) = ⊤

-- `result` has the writes of the new index of `found`, or their refusal. It is promised if the content of the file `file` is visible to the proof in
-- the state `src`. `r` gives the proof's view of it. It is the contract of `writes_of`.
abbrev pub WritesFound : {S : Type 0} → Ghosts S → S → FileId → IndexableFile → Result (Vec Write Global) PlanEnd → Type 0
WritesFound r src file found result =
    IfOutline r src file found.outline (λ bytes. Answers (index_writes bytes found.outline (cues_of found.points)) result)

-- the error of the plan of `reindex` for a file that couldn't be read: the same refusal, a failed read, or out of memory
abbrev pub ends_as : OutlineEnd → PlanEnd
ends_as (outline_end.Refused d) = end.Refused (Damaged d)
ends_as outline_end.ReadFault = end.ReadFault
ends_as outline_end.Memory = end.Memory
