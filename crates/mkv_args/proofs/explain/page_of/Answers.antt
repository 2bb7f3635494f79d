use Rattle.std.proofs.Common.{◌++◌}
use Rattle.mkv_args.specs.Explain.{word_topics, refusal_topics, edit_topics, damage_topics, warning_topics, result_topics, general_topics}
use Rattle.mkv_args.proofs.ExplainLemmas.{in-group, in-next}
use Rattle.mkv_args.proofs.explain.page_of.Goals as goal

-- Each group is searched if no group before it has the name.
pub returns : goal.returns
returns c =
    let name = c.args.name.now in
    let g1 = in-group name c.page_among.result c.word_topics.result.now word_topics c.page_among.ensures c.word_topics.ensures in
    let g2 = in-group name c.page_among-2.result c.refusal_topics.result.now refusal_topics c.page_among-2.ensures c.refusal_topics.ensures in
    let g3 = in-group name c.page_among-3.result c.edit_topics.result.now edit_topics c.page_among-3.ensures c.edit_topics.ensures in
    let g4 = in-group name c.page_among-4.result c.damage_topics.result.now damage_topics c.page_among-4.ensures c.damage_topics.ensures in
    let g5 = in-group name c.page_among-5.result c.warning_topics.result.now warning_topics c.page_among-5.ensures c.warning_topics.ensures in
    let g6 = in-group name c.page_among-6.result c.result_topics.result.now result_topics c.page_among-6.ensures c.result_topics.ensures in
    let g7 = in-group name c.page_among-7.result c.general_topics.result.now general_topics c.page_among-7.ensures c.general_topics.ensures in
    let to2 = in-next name c.page_among.result c.page_among-2.result c.or.result word_topics refusal_topics g1 g2 c.or.ensures in
    let to3 = in-next name c.or.result c.page_among-3.result c.or-2.result (word_topics ++ refusal_topics) edit_topics to2 g3 c.or-2.ensures in
    let to4 = in-next name c.or-2.result c.page_among-4.result c.or-3.result (word_topics ++ refusal_topics ++ edit_topics) damage_topics to3 g4 c.or-3.ensures in
    let to5 = in-next name c.or-3.result c.page_among-5.result c.or-4.result (word_topics ++ refusal_topics ++ edit_topics ++ damage_topics) warning_topics to4 g5 c.or-4.ensures in
    let to6 = in-next name c.or-4.result c.page_among-6.result c.or-5.result (word_topics ++ refusal_topics ++ edit_topics ++ damage_topics ++ warning_topics) result_topics to5 g6 c.or-5.ensures in
    in-next name c.or-5.result c.page_among-7.result c.or-6.result (word_topics ++ refusal_topics ++ edit_topics ++ damage_topics ++ warning_topics ++ result_topics) general_topics to6 g7 c.or-6.ensures
