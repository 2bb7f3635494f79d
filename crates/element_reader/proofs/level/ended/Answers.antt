use Rattle.std.proofs.Common.{if◌then◌else◌, refl, ◌∙◌, ap}
use Rattle.std.specs.Option.{option_map_or}
use Rattle.mkv_io.specs.declared.damage.Damage.{Damage}
use Rattle.mkv_schema.specs.Element.{is_unknown, end_in}
use Rattle.element_reader.proofs.LevelLemmas.{HasLevel-ended}
use Rattle.element_reader.proofs.level.ended.Goals as goal

-- The reader has passed all Elements.
pub returns-clause-level : goal.returns-clause-level
returns-clause-level c = λ held bytes total way.
    let h = c.args.segment.now in
    HasLevel-ended held bytes h c.args.at c.args.damage _ way refl
    (c.segment_end-end.ensures
    ∙ ap (λ n. if is_unknown h.size then option_map_or (λ (d : Damage). n) c.args.damage c.args.at else end_in n h) total)
