use Rattle.std.proofs.Common.{[], ◌∙◌, ap, map, refl}
use Rattle.serde_json.proofs.Views.{view-Object}
use Rattle.serde_json.specs.Data.{object, string}
use Rattle.serde_json.specs.View.{members_view}
use Rattle.meta_records.specs.Attached.{in_file}
use Rattle.meta_records.specs.Records.{described_by}
use Rattle.mkv_info.specs.declared.tags.Scope.TheVariants.{Global}
use Rattle.mkv_info.specs.Attachments.{attachments_value}
use Rattle.mkv_info.specs.Chapters.{chapter_count, entries_value}
use Rattle.mkv_info.specs.Identification.{container_value, identification, told_of}
use Rattle.mkv_info.specs.Tags.{tag_count, track_tags_value}
use Rattle.mkv_info.specs.ToldTracks.{tracks_value}
use Rattle.mkv_info.proofs.JsonLemmas.{ArePut, put-given, put-members}
use Rattle.mkv_info.proofs.line.identification.Goals as goal

-- The members are put in the order of their keys.
pub returns : goal.returns
unfolding identification
returns c =
    let file = described_by c.args.records.now in
    let is0 : ArePut [] (members_view c.new-object.result.entries) = record { are = ap members_view c.new-object.ensures.empty } in
    let is1 = put-given _ _ _ _ _ (attachments_value file.attachments) is0 c.in_ok-put.ensures.ok (c.in_ok-attachments.ensures ∙ ap (λ l. attachments_value (map in_file l)) c.as_slice.ensures) in
    let is2 = put-given _ _ _ _ _ (entries_value (chapter_count file.chapters)) is1 c.in_ok-put-2.ensures.ok (c.in_ok-chapters.ensures ∙ ap entries_value c.in_ok-chapter_count.ensures) in
    let is3 = put-given _ _ _ _ _ (container_value file.info) is2 c.in_ok-put-3.ensures.ok c.in_ok-container.ensures in
    let is4 = put-given _ _ _ _ _ (string c.args.name.now) is3 c.in_ok-put-4.ensures.ok c.in_ok-file_name.ensures in
    let is5 = put-given _ _ _ _ _ (entries_value (tag_count Global file.tags)) is4 c.in_ok-put-5.ensures.ok (c.in_ok-global_tags.ensures ∙ ap entries_value c.in_ok-tag_count.ensures) in
    let is6 = put-given _ _ _ _ _ (track_tags_value file.tags file.tracks) is5 c.in_ok-put-6.ensures.ok (c.in_ok-track_tags.ensures ∙ ap (track_tags_value file.tags) c.as_slice-2.ensures) in
    let is7 = put-given _ _ _ _ _ (tracks_value file.tracks) is6 c.in_ok-put-7.ensures.ok (c.in_ok-tracks.ensures ∙ ap tracks_value c.as_slice-3.ensures) in
    view-Object c.put-7.new.map ∙ ap object (put-members (told_of c.args.name.now file) _ is7 refl)
