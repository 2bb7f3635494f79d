use Rattle.std.proofs.Common.{◌==◌, ap, ◌∙◌, length, unwrap_or, rules, tests}
use Rattle.mkv_schema.specs.declared.ids.TheConstants.{FILE_DATA}
use Rattle.tree_format.specs.Node.{id_of}
use Rattle.std.proofs.lemmas.Iterator.{YieldsList-from_slice}
use Rattle.std.proofs.lemmas.Iterator.Search.{position_from_yields_List}
use Rattle.cues_seekhead.proofs.AttachedLemmas.{index-inside, index-is}
use Rattle.cues_seekhead.proofs.attached.data_index.Goals as goal

pub returns-clause-exact : goal.returns-clause-exact
returns-clause-exact c =
    let found = position_from_yields_List (λ n. id_of n == FILE_DATA) _ _ c.position-found.result c.position-found.ensures.ran (YieldsList-from_slice c.args.children.now cc) (λ x b q k. search (rules, tests)) in
    c.unwrap_or.ensures ∙ ap (λ p. unwrap_or p (length c.args.children.now)) found ∙ index-is (λ n. id_of n == FILE_DATA) c.args.children.now

pub returns-clause-inside : goal.returns-clause-inside
returns-clause-inside c = rw (returns-clause-exact c) (index-inside (λ n. id_of n == FILE_DATA) c.args.children.now)
