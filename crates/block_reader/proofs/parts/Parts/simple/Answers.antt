use Rattle.std.proofs.Common.{length, drop, refl, sym, ap, ◌∙◌, Err, arith}
use Rattle.block_format.specs.Content.{frames_cut}
use Rattle.block_reader.proofs.BufferLemmas.{simple_block-spelled, same-block}
use Rattle.block_reader.proofs.LendableLemmas.{frames-rest, IsBlock-made}
use Rattle.block_reader.proofs.parts.Parts.simple.Goals as goal

-- The block is invalid.
pub returns-in-Err-clause-exact : goal.returns-in-Err-clause-exact
returns-in-Err-clause-exact c = λ bytes body.
    simple_block-spelled c.args.scale c.args.timestamp bytes c.args.octets.now c.args.header.now (Err c.in-Err.kind) c.requires.few body (rw c.in-Err.is at c.in_ok-spelled.ensures.exact)
    ∙ ap Err (sym c.damage.ensures)

-- The time is too large.
pub returns-in-Err-simple_head-clause-exact : goal.returns-in-Err-simple_head-clause-exact
returns-in-Err-simple_head-clause-exact c = λ bytes body.
    let o = c.args.octets.now in
    let spells = rw c.in-Ok.is at c.in_ok-spelled.ensures.exact in
    simple_block-spelled c.args.scale c.args.timestamp bytes o c.args.header.now _ c.requires.few body spells.0
    ∙ c.in-Err-simple_head.ensures.exact (frames_cut c.spell.new.sizes.items (drop c.in-Ok.spelled.start o))

-- The block is valid.
pub returns-in-Ok-simple_head-clause-exact : goal.returns-in-Ok-simple_head-clause-exact
returns-in-Ok-simple_head-clause-exact c = λ bytes body.
    let o = c.args.octets.now in
    let start = c.in-Ok.spelled.start in
    let sizes = c.spell.new.sizes.items in
    let spells = rw c.in-Ok.is at c.in_ok-spelled.ensures.exact in
    let frames = frames-rest o start _ refl in
    simple_block-spelled c.args.scale c.args.timestamp bytes o c.args.header.now _ c.requires.few body spells.0
    ∙ c.in-Ok-simple_head.ensures.exact (frames_cut sizes (drop start o))
    ∙ same-block c.in-Ok-simple_head.head sizes (drop start o) _ _ _ _ _ (sym frames) (sym c.forget.ensures.empty.references) (sym c.forget.ensures.empty.kept)

-- The block can be written.
pub returns-in-Ok-simple_head-clause-lent : goal.returns-in-Ok-simple_head-clause-lent
returns-in-Ok-simple_head-clause-lent c =
    let spells = rw c.in-Ok.is at c.in_ok-spelled.ensures.exact in
    let none = c.forget.ensures.empty in
    IsBlock-made c.args.octets.now c.args.octets.now 0 c.in-Ok.spelled.start c.in-Ok.spelled.flags _ (omega (arith, c.requires.few, c.requires.length)) (omega arith) (omega arith) (omega arith) c.len.ensures.value spells.1
    (rw none.references (c.in-Ok-simple_head.ensures.small)) (omega (arith, ap length none.kept))
