use Rattle.std.proofs.Common.{Bool, [], if◌then◌else◌, sym, ◌∙◌, ap}
use Rattle.mkv_schema.specs.Outline.{first_damage}
use Rattle.file_format.specs.Encoding.{usable_causes}
use Rattle.track_records.specs.Usable.{usable_track}
use Rattle.meta_records.proofs.CausesLemmas.{usable-some}
use Rattle.mkv_extract.proofs.ReadLemmas.{usable-none}
use Rattle.mkv_extract.proofs.reading.cause_of.Goals as goal

-- The frames of the track can't be used.
pub returns-in-Err : goal.returns-in-Err
returns-in-Err c =
    sym (ap (λ (a : Bool). first_damage (if a then usable_causes c.args.track.now.entry else [])) (sym c.is_named.ensures ∙ c.if-not-is_named.false)
    ∙ usable-some c.args.track.now.entry c.in-Err.damage (sym (c.in-Err.ensures.exact ∙ ap usable_track c.requires.said)))

-- They can be used.
pub returns-in-Ok : goal.returns-in-Ok
returns-in-Ok c =
    sym (ap (λ (a : Bool). first_damage (if a then usable_causes c.args.track.now.entry else [])) (sym c.is_named.ensures ∙ c.if-not-is_named.false)
    ∙ usable-none c.args.track.now.entry _ (sym (c.in-Ok.ensures.exact ∙ ap usable_track c.requires.said)))
