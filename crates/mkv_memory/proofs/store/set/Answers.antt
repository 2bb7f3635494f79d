use Rattle.std.proofs.lemmas.Map.Text.{btree_map_updates_text}
use Rattle.mkv_io.proofs.NamesLemmas.{same_world}
use Rattle.mkv_memory.proofs.store.set.Goals as goal

-- An insertion at the name's key changes only the content of this name.
pub returns-clause-ok : goal.returns-clause-ok
returns-clause-ok c =
    same_world _ _
    (λ other. rw c.in_ok-key.ensures.ok at (btree_map_updates_text _ c.args.contents.now c.insert.new.self _ c.in_ok-insert.ensures.updates other))
