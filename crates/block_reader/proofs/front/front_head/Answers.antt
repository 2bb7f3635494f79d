use Rattle.std.proofs.Common.{◌≡◌, ◌-◌, Some, SFits, w64, drop, sym, ◌∙◌, ap, arith, rules}
use Rattle.std.proofs.lemmas.Int.{to_z-of_z}
use Rattle.std.proofs.lemmas.List.{take_rest}
use Rattle.ebml_numbers.specs.Number.{AreOctets}
use Rattle.mkv_schema.specs.Element.{known}
use Rattle.block_format.specs.Content.{lace_of}
use Rattle.block_reader.specs.Front.{frame_count}
use Rattle.block_reader.proofs.FrontLemmas.{HasHead-settled, frame_count-read, front_head-found, head_with-large, head_with-some}
use Rattle.block_reader.proofs.front.front_head.Goals as goal
use Rattle.block_reader.proofs.front.front_head.Goals.{After-simple_head}

-- The frame count is settled.
counted : (c : After-simple_head) → frame_count (lace_of c.in_ok-found.found.flags) (drop c.in_ok-found.found.len c.args.front.now) (known c.args.header.now.size - c.in_ok-found.found.len) ≡ Some c.in_ok-frames.frames
counted c =
    let len = c.in_ok-found.found.len in
    frame_count-read c.lace_of.result _ _ _ _ _ c.frame_count.result _ c.lace_of.ensures (take_rest c.args.front.now len) (ap (λ n. n - len) c.known.ensures) c.frame_count.ensures.exact c.in_ok-frames.was

-- The time is too large.
pub returns-in-Err-clause-exact : goal.returns-in-Err-clause-exact
returns-in-Err-clause-exact c =
    let fits : SFits w64 c.in_ok-found.found.relative = search rules in
    sym (front_head-found c.args.scale c.args.timestamp c.args.header.now c.args.front.now c.in_ok-found.found _ _ c.in_ok-found.ensures (to_z-of_z w64 c.in_ok-found.found.relative fits) (counted (goal.at.returns-in-Err-clause-exact c).After-simple_head)
    ∙ head_with-large c.args.scale c.args.timestamp c.in_ok-frames.frames c.args.header.now c.in_ok-found.found _ _ c.in-Err.ensures.exact)

-- The block is valid.
pub returns-in-Ok-clause-exact : goal.returns-in-Ok-clause-exact
returns-in-Ok-clause-exact c =
    let fits : SFits w64 c.in_ok-found.found.relative = search rules in
    sym (front_head-found c.args.scale c.args.timestamp c.args.header.now c.args.front.now c.in_ok-found.found _ _ c.in_ok-found.ensures (to_z-of_z w64 c.in_ok-found.found.relative fits) (counted (goal.at.returns-in-Ok-clause-exact c).After-simple_head)
    ∙ head_with-some c.args.scale c.args.timestamp c.in_ok-frames.frames c.args.header.now c.in_ok-found.found _ c.in-Ok.head c.in-Ok.ensures.exact)

pub returns-in-Ok-clause-settles : goal.returns-in-Ok-clause-settles
returns-in-Ok-clause-settles c = λ bytes front long.
    let fits : SFits w64 c.in_ok-found.found.relative = search rules in
    let octets : AreOctets c.args.front.now = λ i. omega (arith, c.type_inv.front i) in
    HasHead-settled c.args.scale c.args.timestamp c.in_ok-frames.frames bytes c.args.front.now c.args.header.now c.in_ok-found.found _ c.in-Ok.head octets c.requires.few long front c.in_ok-found.ensures
    (to_z-of_z w64 c.in_ok-found.found.relative fits) (counted (goal.at.returns-in-Ok-clause-settles c).After-simple_head) c.in-Ok.ensures.exact
