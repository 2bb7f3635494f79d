use Rattle.std.proofs.Common.{◌∙◌, ℤ, pos, ◌+ℤ◌, SFits, w64, sym, ap, subst, rules, Err}
use Rattle.std.proofs.lemmas.Int.{to_z-of_z}
use Rattle.block_reader.specs.Made.{has_too_large_ticks}
use Rattle.block_reader.specs.Time.{IsSmallTime}
use Rattle.block_reader.proofs.LendableLemmas.{times-small}
use Rattle.block_reader.proofs.MadeLemmas.{group_found-large, group_found-ok, none_where}
use Rattle.block_reader.proofs.block.group_head.Goals as goal

-- A time is too large.
pub returns-in_default-times_of-clause-exact : goal.returns-in_default-times_of-clause-exact
returns-in_default-times_of-clause-exact c = λ bytes children frames gathers.
    let g = c.args.gathered.now in
    let s = c.args.spelled.now in
    let fits : SFits w64 s.relative = search rules in
    let none = none_where g.too_many c.in_default.not-Some in
    group_found-large c.args.scale c.args.timestamp c.args.offset bytes children s frames g gathers none
    (ap (λ (z : ℤ). has_too_large_ticks c.args.scale (pos c.args.timestamp +ℤ z) g.duration g.references.items) (sym (to_z-of_z w64 s.relative fits)) ∙ c.in_default-times_of.ensures.exact)
    ∙ ap Err (sym c.damage-in_default-times_of.ensures)

-- No time is too large.
pub returns-clause-exact : goal.returns-clause-exact
returns-clause-exact c = λ bytes children frames gathers.
    let g = c.args.gathered.now in
    let s = c.args.spelled.now in
    let relative : SFits w64 s.relative = search rules in
    let time : SFits w64 c.in-Some-times_of.times.time = search rules in
    let none = none_where g.too_many c.in_default.not-Some in
    group_found-ok c.args.scale c.args.timestamp c.args.offset bytes children s frames g c.times_of.new.gathered c.in-Some-times_of.times _ _ c.is_empty-key.result c.has_flag.result c.lace_of.result gathers none c.in-Some-times_of.ensures.exact
    (ap (λ (z : ℤ). pos c.args.timestamp +ℤ z) (to_z-of_z w64 s.relative relative)) c.in-Some-times_of.ensures.kept (to_z-of_z w64 c.in-Some-times_of.times.time time)
    c.is_empty-key.ensures c.has_flag.ensures c.lace_of.ensures

-- The times are small.
pub returns-clause-small : goal.returns-clause-small
returns-clause-small c =
    let small = times-small c.args.scale _ _ _ c.in-Some-times_of.times c.in-Some-times_of.ensures.exact in
    let time : SFits w64 c.in-Some-times_of.times.time = search rules in
    record {
      times = record { time = subst IsSmallTime (sym (to_z-of_z w64 c.in-Some-times_of.times.time time)) small.0; duration = small.1.0 };
      references = small.1.1;
      most = c.in-Some-times_of.ensures.exact.few;
      lace = c.lace_of.ensures;
    }
