-- The child is a SimpleTag that lists names.
use Rattle.std.proofs.Common.{◌≡◌, ◌==◌, true, List, ℕ, OnOk, sym, subst}
use Rattle.mkv_schema.specs.declared.ids.TheConstants.{SIMPLE_TAG}
use Rattle.tree_format.specs.Node.{id_of}
use Rattle.record_changes.specs.Statistics.{AddsNames, lists_names}
use Rattle.record_changes.proofs.StatisticsLemmas.{listed-some}
use Rattle.record_changes.proofs.statistics.add_names.Goals as goal

pub returns-in-Some : goal.returns-in-Some
returns-in-Some c =
    let child = c.args.child.now in
    let simple : (id_of child == SIMPLE_TAG) ≡ true = cc in
    let lists : lists_names child ≡ true = cc in
    let P : List (List ℕ) → Type 0 = λ names. OnOk c.add_list.result (AddsNames c.args.names.now.keys c.add_list.new.names.keys names) in
    subst P (sym (listed-some child c.in-Some.list.now simple lists (sym c.in-Some.ensures))) c.add_list.ensures
