-- Each of the four maps is right.
use Rattle.std.proofs.Common.{ap₂, ap, ◌∙◌}
use Rattle.output_records.specs.Tags.{number_of, all_uids}
use Rattle.output_records.proofs.UidLemmas.{map-for}
use Rattle.output_records.proofs.uids.map_of.Goals as goal

pub returns : goal.returns
returns c =
    let same = c.requires in
    map-for c.args.input.now (all_uids c.args.editions.now c.args.chapters.now c.args.attachments.now)
    (record { tracks = c.in_ok-number_map.field-0; editions = c.in_ok-number_map-2.field-0; chapters = c.in_ok-number_map-3.field-0; attachments = c.in_ok-number_map-4.field-0 })
    (λ uid. c.in_ok-number_map.ensures uid ∙ ap₂ (λ s n. number_of s n uid) c.as_slice.ensures c.as_slice-2.ensures)
    (λ uid. c.in_ok-number_map-2.ensures uid ∙ ap (λ s. number_of s c.args.editions.now uid) (c.as_slice-3.ensures ∙ ap (λ u. u.editions) same))
    (λ uid. c.in_ok-number_map-3.ensures uid ∙ ap (λ s. number_of s c.args.chapters.now uid) (c.as_slice-4.ensures ∙ ap (λ u. u.chapters) same))
    (λ uid. c.in_ok-number_map-4.ensures uid ∙ ap (λ s. number_of s c.args.attachments.now uid) (c.as_slice-5.ensures ∙ ap (λ u. u.attachments) same))
