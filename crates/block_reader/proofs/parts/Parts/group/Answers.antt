use Rattle.std.proofs.Common.{◌≡◌, ◌+◌, ◌-◌, ◌≤◌, ℕ, List, take, drop, length, None, Err, refl, sym, ap, ◌∙◌, arith}
use Rattle.std.proofs.lemmas.List.{length-take, length-drop}
use Rattle.mkv_schema.specs.Value.{body_of}
use Rattle.block_format.specs.Elements.{group_run, group_refusal}
use Rattle.elements.specs.Body.{IsBody}
use Rattle.block_reader.specs.Group.{Gathers, GathersRun}
use Rattle.block_reader.proofs.BufferLemmas.{block_group-refused, block_group-without, block_group-spelled, frames-place, same-block, IsBody-held, GathersRun-held, Block-held}
use Rattle.block_reader.proofs.LendableLemmas.{IsBlock-made}
use Rattle.block_reader.proofs.parts.Parts.group.Goals as goal
use Rattle.block_reader.proofs.parts.Parts.group.Goals.{After-gather, In_ok-damage, In_default, After-spell}

-- The bytes are the group's body.
body_held : (c : After-gather) (bytes : List ℕ) → length bytes ≡ c.args.total → c.args.octets.now ≡ body_of bytes c.args.header.now → IsBody bytes c.args.header.now.body c.args.total c.args.octets.now
body_held c bytes whole body = IsBody-held bytes c.args.total c.args.header.now c.args.octets.now whole body c.requires.length c.requires.inside

-- The children are gathered.
gathered : (c : In_ok-damage) (bytes : List ℕ) → length bytes ≡ c.args.total → c.args.octets.now ≡ body_of bytes c.args.header.now → GathersRun bytes (group_run bytes c.args.header.now) c.gather.new.self c.in_ok-damage.field-0
gathered c bytes whole body =
    let after = (goal.at.In_ok-damage c).After-gather in
    GathersRun-held bytes c.args.header.now c.args.octets.now c.gather.new.self c.in_ok-damage.field-0 c.requires.length
    (c.in_ok-damage.ensures.exact bytes (body_held after bytes whole body))

-- A child refuses the group.
pub returns-in-Err-clause-exact : goal.returns-in-Err-clause-exact
returns-in-Err-clause-exact c = λ bytes whole body.
    block_group-refused c.args.scale c.args.timestamp bytes c.args.header.now c.in-Err.damage c.requires.few
    (rw c.in-Err.is at (gathered (goal.at.returns-in-Err-clause-exact c).In_ok-damage bytes whole body))

-- No child refuses the group.
good : (c : In_default) (bytes : List ℕ) → length bytes ≡ c.args.total → c.args.octets.now ≡ body_of bytes c.args.header.now → (group_refusal bytes (group_run bytes c.args.header.now) ≡ None) × Gathers bytes (group_run bytes c.args.header.now).list c.gather.new.self
good c bytes whole body = rw c.in_default.is at (gathered (goal.at.In_default c).In_ok-damage bytes whole body)

-- There is no Block.
pub returns-in_default-block-clause-exact : goal.returns-in_default-block-clause-exact
returns-in_default-block-clause-exact c = λ bytes whole body.
    let found = good (goal.at.returns-in_default-block-clause-exact c).In_default bytes whole body in
    block_group-without c.args.scale c.args.timestamp bytes c.args.header.now c.requires.few found.0 (sym found.1.block ∙ c.in_default-block.is) ∙ ap Err (sym c.damage.ensures)

-- The bytes are the Block's body.
block_held : (c : After-spell) (bytes : List ℕ) → length bytes ≡ c.args.total → c.args.octets.now ≡ body_of bytes c.args.header.now → take (c.in-Some.block.body - c.args.header.now.body + c.known.result - (c.in-Some.block.body - c.args.header.now.body)) (drop (c.in-Some.block.body - c.args.header.now.body) c.args.octets.now) ≡ body_of bytes c.in-Some.block
block_held c bytes whole body =
    let h = c.args.header.now in
    let lies = rw c.in-Some.is at c.in_ok-damage.ensures.block in
    Block-held bytes h.body c.args.total c.args.octets.now c.in-Some.block (c.in-Some.block.body - h.body) (c.in-Some.block.body - h.body + c.known.result)
    (body_held (goal.at.After-spell c).After-gather bytes whole body) lies.from lies.within refl (omega (arith, c.known.ensures))

-- The Block is invalid.
pub returns-in-Err-2-clause-exact : goal.returns-in-Err-2-clause-exact
returns-in-Err-2-clause-exact c = λ bytes whole body.
    let found = good (goal.at.returns-in-Err-2-clause-exact c).In_default bytes whole body in
    block_group-spelled c.args.scale c.args.timestamp bytes _ c.args.header.now c.in-Some.block (Err c.in-Err-2.kind) c.requires.few found.0 (sym found.1.block ∙ c.in-Some.is)
    (block_held (goal.at.returns-in-Err-2-clause-exact c).After-spell bytes whole body) (rw c.in-Err-2.is at c.in_ok-spelled.ensures.exact)
    ∙ ap Err (sym c.damage-in-Err-2.ensures)

-- The references are too many, or a time is too large.
pub returns-in-Err-group_head-clause-exact : goal.returns-in-Err-group_head-clause-exact
returns-in-Err-group_head-clause-exact c = λ bytes whole body.
    let found = good (goal.at.returns-in-Err-group_head-clause-exact c).In_default bytes whole body in
    let spells = rw c.in-Ok.is at c.in_ok-spelled.ensures.exact in
    block_group-spelled c.args.scale c.args.timestamp bytes _ c.args.header.now c.in-Some.block _ c.requires.few found.0 (sym found.1.block ∙ c.in-Some.is)
    (block_held (goal.at.returns-in-Err-group_head-clause-exact c).After-spell bytes whole body) spells.0
    ∙ c.in-Err-group_head.ensures.exact bytes (group_run bytes c.args.header.now).list _ found.1

-- The Block's bytes are within the group's body.
block_place : (c : After-spell) → let base = c.in-Some.block.body - c.args.header.now.body in let part = take (base + c.known.result - base) (drop base c.args.octets.now) in (length part ≡ c.known.result) × (base + c.known.result ≤ length c.args.octets.now)
block_place c =
    let h = c.args.header.now in
    let base = c.in-Some.block.body - h.body in
    let lies = rw c.in-Some.is at c.in_ok-damage.ensures.block in
    let from = lies.from in
    let within = lies.within in
    let rest = length-drop base c.args.octets.now in
    let count = length-take (base + c.known.result - base) (drop base c.args.octets.now) in
    let inside : base + c.known.result ≤ length c.args.octets.now = omega (arith, c.known.ensures) in
    (omega arith, inside)

-- The block is valid.
pub returns-in-Ok-group_head-clause-exact : goal.returns-in-Ok-group_head-clause-exact
returns-in-Ok-group_head-clause-exact c = λ bytes whole body.
    let found = good (goal.at.returns-in-Ok-group_head-clause-exact c).In_default bytes whole body in
    let spells = rw c.in-Ok.is at c.in_ok-spelled.ensures.exact in
    let base = c.in-Some.block.body - c.args.header.now.body in
    let count = (block_place (goal.at.returns-in-Ok-group_head-clause-exact c).After-spell).0 in
    let inside = spells.1.inside in
    let frames = frames-place c.args.octets.now base c.in-Ok.spelled.start (base + c.known.result) (omega arith) in
    block_group-spelled c.args.scale c.args.timestamp bytes _ c.args.header.now c.in-Some.block _ c.requires.few found.0 (sym found.1.block ∙ c.in-Some.is)
    (block_held (goal.at.returns-in-Ok-group_head-clause-exact c).After-spell bytes whole body) spells.0
    ∙ c.in-Ok-group_head.ensures.exact bytes (group_run bytes c.args.header.now).list _ found.1
    ∙ same-block c.in-Ok-group_head.head c.spell.new.sizes.items _ _ _ _ _ _ (sym frames) refl refl

-- The block can be written.
pub returns-in-Ok-group_head-clause-lent : goal.returns-in-Ok-group_head-clause-lent
returns-in-Ok-group_head-clause-lent c =
    let base = c.in-Some.block.body - c.args.header.now.body in
    let o = c.args.octets.now in
    let part = take (base + c.known.result - base) (drop base o) in
    let place = block_place (goal.at.returns-in-Ok-group_head-clause-lent c).After-spell in
    let spells = rw c.in-Ok.is at c.in_ok-spelled.ensures.exact in
    IsBlock-made o part base c.in-Ok.spelled.start c.in-Ok.spelled.flags _ (omega (arith, c.requires.few, c.requires.length)) refl (omega (arith, place.0)) place.1 c.len.ensures.value spells.1
    c.in-Ok-group_head.ensures.small (omega (arith, c.in_ok-damage.ensures.kept, ap (λ v. length v.items) c.in-Ok-group_head.ensures.kept))
