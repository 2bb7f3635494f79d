-- The search runs over the code's entries, and its result shows the definition's entry.
use Rattle.std.proofs.Common.{◌==◌, ◌∙◌, ap, rules}
use Rattle.std.proofs.lemmas.Iterator.{YieldsList-from_slice}
use Rattle.std.proofs.lemmas.Iterator.Search.{find_from_yields_List}
use Rattle.std.specs.Option.{option_map}
use Rattle.mkv_schema.specs.View.{shown}
use Rattle.mkv_schema.proofs.FindLemmas.{find-map, option_map-map}
use Rattle.mkv_schema.proofs.table.first_of.Goals as goal

pub returns : goal.returns
returns c =
    let found = find_from_yields_List (λ e. e.row.id == c.args.id) _ _ _ c.find.ensures.ran (YieldsList-from_slice c.args.entries.now cc) (λ x b q k. search rules) in
    option_map-map shown c.find.result ∙ ap (option_map shown) found ∙ find-map shown (λ e. e.id == c.args.id) c.args.entries.now
