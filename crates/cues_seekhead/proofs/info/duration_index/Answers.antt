use Rattle.std.proofs.Common.{not, ap, ◌∙◌, length, unwrap_or, rules, tests}
use Rattle.output_model.specs.Document.{is_before_duration}
use Rattle.std.proofs.lemmas.Iterator.{YieldsList-from_slice}
use Rattle.std.proofs.lemmas.Iterator.Search.{position_from_yields_List}
use Rattle.cues_seekhead.proofs.AttachedLemmas.{index-inside, index-is}
use Rattle.cues_seekhead.proofs.info.duration_index.Goals as goal

pub returns-clause-exact : goal.returns-clause-exact
returns-clause-exact c =
    let found = position_from_yields_List (λ n. not (is_before_duration n)) _ _ c.position-found.result c.position-found.ensures.ran (YieldsList-from_slice c.args.children.now cc) (λ x b q k. search (rules, tests)) in
    c.unwrap_or.ensures ∙ ap (λ p. unwrap_or p (length c.args.children.now)) found ∙ index-is (λ n. not (is_before_duration n)) c.args.children.now

pub returns-clause-inside : goal.returns-clause-inside
returns-clause-inside c = rw (returns-clause-exact c) (index-inside (λ n. not (is_before_duration n)) c.args.children.now)
