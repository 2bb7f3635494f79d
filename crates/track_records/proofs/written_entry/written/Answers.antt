-- The changes are made in sequence.
use Rattle.std.proofs.Common.{◌∙◌, ap}
use Rattle.tree_format.specs.Children.{set_each}
use Rattle.track_records.specs.Entry.{children_set}
use Rattle.track_records.proofs.StandLemmas.{set-all, number, uid, name, language, language_tag, flag_default, flag_forced}
use Rattle.track_records.proofs.written_entry.written.Goals as goal

pub set_uint-requires-clause-id : goal.set_uint-requires-clause-id
set_uint-requires-clause-id c = number

pub set_uint-requires-2-clause-id : goal.set_uint-requires-2-clause-id
set_uint-requires-2-clause-id c = uid

pub set_text-requires-clause-id : goal.set_text-requires-clause-id
set_text-requires-clause-id c = name

pub set_text-requires-2-clause-id : goal.set_text-requires-2-clause-id
set_text-requires-2-clause-id c = language

pub set_text-requires-3-clause-id : goal.set_text-requires-3-clause-id
set_text-requires-3-clause-id c = language_tag

pub set_flag-requires-clause-id : goal.set_flag-requires-clause-id
set_flag-requires-clause-id c = flag_default

pub set_flag-requires-2-clause-id : goal.set_flag-requires-2-clause-id
set_flag-requires-2-clause-id c = flag_forced

pub returns-clause-exact : goal.returns-clause-exact
returns-clause-exact c =
    let change = c.args.change.now in
    set-all change _ _ _ _ _ _ _ _ _ c.in_ok-set_uint.ensures c.in_ok-set_uint-2.ensures c.in_ok-set_text.ensures c.in_ok-set_text-2.ensures c.in_ok-set_text-3.ensures c.in_ok-set_flag.ensures
    c.in_ok-set_flag-2.ensures c.in_ok-set_flags.ensures
    ∙ ap (set_each (children_set change)) c.in_ok-entry.ensures.exact
