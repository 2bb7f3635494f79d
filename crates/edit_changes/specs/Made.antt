-- Results of the calls that make one edit, against the definitions of the edit.
use Rattle.std.specs.Prelude.{◌≡◌, Result, Ok, Err}
use Rattle.tree_format.specs.Node.{Node, IsMaster, id_of}
use Rattle.tree_format.specs.Standing.{IsSound}
use Rattle.edit_changes.specs.declared.refusal.EditRefusal.{EditRefusal}
use Rattle.edit_changes.specs.declared.change.EditEnd.{EditEnd}
use Rattle.edit_changes.specs.declared.change.EditEnd.TheVariants.{Refused, Memory}

-- A call that makes one edit changed the value `old` to `new`, and `made` is what the definitions give for it. After success `new` is the value that
-- they give. If the edit is refused, they give the same refusal, and the value stays; it stays too if memory ran out.
abbrev pub BecomesOrStays : {A X : Type 0} → Result A EditEnd → X → X → Result X EditRefusal → Type 0
BecomesOrStays (Ok done) old new made = made ≡ Ok new
BecomesOrStays (Err (Refused why)) old new made = (made ≡ Err why) × (new ≡ old)
BecomesOrStays (Err Memory) old new made = new ≡ old

-- An edit changed the node `old`, an Info or TrackEntry, to `new`, which is a master with the same ID. If `old` is sound, so is `new`. Contracts of
-- the calls that make one edit promise it.
pub record Sounds (old new : Node) : Type 0 where
  pub id : id_of new ≡ id_of old
  pub master : IsMaster new
  pub sound : IsSound old → IsSound new
