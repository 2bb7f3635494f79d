use Rattle.std.proofs.Common.{◌≡◌, ◌++◌, ◌∙◌, ap, arith, get_or}
use Rattle.std.proofs.lemmas.Grind.{common_steps}
use Rattle.byteorder.specs.Endian.{big_bytes}
use Rattle.sidecar_edit.specs.declared.place.Place.{Place}
use Rattle.sidecar_edit.specs.Fields.{no_place, spelled}
use Rattle.sidecar_edit.proofs.PlanLemmas.{more}
use Rattle.sidecar_edit.proofs.plan.append_place.Goals as goal

pub returns : goal.returns
returns c =
    let was = c.args.octets.now in
    let at = big_bytes 8 c.unwrap_or-place.result.at in
    let len = big_bytes 8 c.unwrap_or-place.result.len in
    let place : c.unwrap_or-place.result ≡ get_or c.args.places.now c.args.k no_place = grind (arith, common_steps) in
    let one : c.append.new.self ≡ was ++ at = c.in_ok-append.ensures.ok ∙ ap (λ bytes. was ++ bytes) c.to_be_bytes.ensures in
    let two : c.append-2.new.self ≡ c.append.new.self ++ len = c.in_ok-append-2.ensures.ok ∙ ap (λ bytes. c.append.new.self ++ bytes) c.to_be_bytes-2.ensures in
    more c.append.new.self c.append-2.new.self was at len one two ∙ ap (λ (p : Place). was ++ spelled p) place
