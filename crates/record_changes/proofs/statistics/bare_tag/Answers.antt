-- The set has the names of the statistics in the Tag.
use Rattle.std.proofs.Common.{sym, ◌∙◌}
use Rattle.record_changes.specs.Statistics.{bytes_of, statistics_names}
use Rattle.record_changes.proofs.StatisticsLemmas.{tag-none, tag-left}
use Rattle.record_changes.proofs.statistics.bare_tag.Goals as goal

pub returns-then-has_nothing_else-clause-exact : goal.returns-then-has_nothing_else-clause-exact
returns-then-has_nothing_else-clause-exact c =
    tag-none (bytes_of c.in_ok-names.names.keys) (statistics_names c.args.tag.now) c.args.tag.now c.in_ok-names.ensures (sym c.has_nothing_else.ensures ∙ c.if-has_nothing_else.true)

pub returns-clause-exact : goal.returns-clause-exact
returns-clause-exact c =
    tag-left (bytes_of c.in_ok-names.names.keys) (statistics_names c.args.tag.now) c.args.tag.now _ c.in_ok-names.ensures (sym c.has_nothing_else.ensures ∙ c.if-has_nothing_else.false) c.in_ok-bare.ensures.exact
