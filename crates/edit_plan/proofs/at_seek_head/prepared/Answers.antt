-- The prepared writes are the definition's.
use Rattle.std.proofs.Common.{◌≡◌, ℕ, List, length, map, option_map, sym, ◌∙◌, ap, arith}
use Rattle.std.specs.Option.{unwrap_or}
use Rattle.mkv_schema.specs.declared.ids.TheConstants.{SEEK_HEAD}
use Rattle.output_model.specs.Element.{Element, element, octets_of}
use Rattle.sidecar_edit.specs.Writes as disk
use Rattle.edit_changes.specs.Span.{fitted}
use Rattle.edit_plan.specs.Found.{found}
use Rattle.edit_plan.specs.Shown.{shown, written}
use Rattle.edit_plan.specs.declared.write.Write.{Write}
use Rattle.edit_plan.proofs.OrderLemmas.{bytes_in}
use Rattle.edit_plan.proofs.PartLemmas.{seek_head-valid}
use Rattle.edit_plan.proofs.MovedLemmas.{IsCounted, len-is, octets-are}
use Rattle.edit_plan.proofs.at_seek_head.prepared.Goals as goal

pub fitted_or_whole-requires-clause-id : goal.fitted_or_whole-requires-clause-id
fitted_or_whole-requires-clause-id c = seek_head-valid

pub shortest-requires-clause-id : goal.shortest-requires-clause-id
shortest-requires-clause-id c = seek_head-valid

pub returns : goal.returns
returns c =
    let ids = c.args.ids.now in
    let o = c.args.outline.now in
    let ps = map shown c.args.parts.now in
    let head = option_map found c.args.head.now in
    let body = c.in_ok-body.body in
    let octets : List ℕ = c.in_ok-octets.octets.items in
    let moved : List ℕ = c.in_ok-moved.moved.items in
    let places : List disk.Write = map written c.in_ok-places.places.items in
    let counted = ap (λ (l : List Write). bytes_in (map written l)) c.as_slice-2.ensures.value in
    let added : c.len.result ≡ length moved = omega (arith, c.len.ensures, c.in_ok-moved.moved.ok.0) in
    let head_len : c.len-2.result ≡ length octets = omega (arith, c.len-2.ensures, c.in_ok-octets.octets.ok.0) in
    let is : IsCounted ids o ps head body octets moved places c.room_of-room.result c.size_added.result c.in_ok-length.length =
    record {
      body_is = c.in_ok-body.ensures.exact;
      room_is = c.room_of-room.ensures.exact;
      octets_is = c.in_ok-octets.ensures
          ∙ ap (λ (b : List ℕ). unwrap_or (fitted (element SEEK_HEAD b) c.room_of-room.result) (octets_of (element SEEK_HEAD b))) c.as_slice.ensures;
      places_is = c.in_ok-places.ensures;
      moved_is = c.in_ok-moved.ensures;
      size_is = c.size_added.ensures;
      len_is = omega (arith, c.in_ok-length.ensures.exact, counted, added, head_len);
    } in
    record {
      head = octets-are ids o ps head body octets moved places _ _ _ is;
      need = sym (c.shortest.ensures.exact body (sym c.len-3.ensures.exact)) ∙ ap (λ (e : Element). length (octets_of e)) c.in_ok-body.ensures.exact;
      room = c.room_of-room.ensures.exact;
      places = c.in_ok-places.ensures;
      moved = c.in_ok-moved.ensures;
      all = len-is ids o ps head body octets moved places _ _ _ is;
    }
