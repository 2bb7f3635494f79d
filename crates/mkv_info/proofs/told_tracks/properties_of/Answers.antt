use Rattle.std.proofs.Common.{[], ◌∙◌, ap, refl}
use Rattle.std.specs.Option.{option_map}
use Rattle.serde_json.proofs.Views.{view-Object}
use Rattle.serde_json.specs.Data.{object, string}
use Rattle.serde_json.specs.View.{members_view}
use Rattle.mkv_info.specs.Texts.{unless_empty}
use Rattle.mkv_info.specs.ToldTracks.{properties_of}
use Rattle.mkv_info.proofs.JsonLemmas.{ArePut, put-given, put-if_there, put-members}
use Rattle.mkv_info.proofs.told_tracks.properties_of.Goals as goal

-- The members are put in the order of their keys.
pub returns : goal.returns
returns c =
    let is0 : ArePut [] (members_view c.new-properties.result.entries) = record { are = ap members_view c.new-properties.ensures.empty } in
    let is1 = put-given _ _ _ _ _ _ is0 c.in_ok-put.ensures.ok (c.in_ok-codec.ensures ∙ ap string c.as_str.ensures.same) in
    let is2 = put-if_there _ _ _ _ _ _ is1 c.in_ok-put_if.ensures c.number_if.ensures in
    let is3 = put-given _ _ _ _ _ _ is2 c.in_ok-put-2.ensures.ok c.flag.ensures in
    let is4 = put-given _ _ _ _ _ _ is3 c.in_ok-put-3.ensures.ok c.flag-2.ensures in
    let is5 = put-given _ _ _ _ _ _ is4 c.in_ok-put-4.ensures.ok c.flag-3.ensures in
    let is6 = put-given _ _ _ _ _ _ is5 c.in_ok-put-5.ensures.ok (c.in_ok-language.ensures ∙ ap string c.as_str-2.ensures.same) in
    let is7 = put-if_there _ _ _ _ _ _ is6 c.in_ok-put_if-2.ensures (c.in_ok-bcp47.ensures ∙ ap (option_map string) c.text_in.ensures) in
    let is8 = put-given _ _ _ _ _ _ is7 c.in_ok-put-6.ensures.ok c.from.ensures in
    let is9 = put-if_there _ _ _ _ _ _ is8 c.in_ok-put_if-3.ensures c.in_ok-dimensions.ensures in
    let is10 = put-if_there _ _ _ _ _ _ is9 c.in_ok-put_if-4.ensures (c.in_ok-name.ensures ∙ ap (option_map string) (c.unless_empty.ensures ∙ ap unless_empty c.text_or_empty.ensures)) in
    let is11 = put-given _ _ _ _ _ _ is10 c.in_ok-put-7.ensures.ok c.from-2.ensures in
    view-Object c.put-7.new.map ∙ ap object (put-members (properties_of c.args.track.now) _ is11 refl)
