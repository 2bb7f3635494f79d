use Rattle.std.proofs.Common.{◌≤◌, length, Some, None, refl, arith}
use Rattle.mkv_schema.specs.Element.{stated_end}
use Rattle.cluster_reader.specs.Takes.{held_front}
use Rattle.cluster_reader.proofs.ChildLemmas.{body_of-whole}
use Rattle.cluster_reader.proofs.PassedLemmas.{passes-settled, settled-other}
use Rattle.cluster_reader.proofs.TakesLemmas.{makes-passed}
use Rattle.cluster_reader.proofs.child.passes.Goals as goal

-- A skipped block isn't wanted.
pub returns-in-Some-clause-found : goal.returns-in-Some-clause-found
returns-in-Some-clause-found g c = λ yes bytes told.
    let h = c.args.header.now in
    let other = settled-other c.args.takes c.args.walk.now.scale c.args.ticks h (held_front c.hold.new.self h) c.in-Some.front c.in-Some.ensures.exact in
    let size = g.met.R.Reads.told_size (g.R.Reads.standing c.args.src.now) c.args.walk.now.file.n bytes told in
    let inside : stated_end h ≤ length bytes = omega (arith, size, c.requires.inside, c.requires.ready.stands.inside) in
    makes-passed c.args.takes c.in-Some.front c.pass.new.self _ (c.in-Some.ensures.found bytes (body_of-whole bytes h inside) (c.hold.ensures.holds bytes told)) c.pass.ensures.head c.pass.ensures.frames other

-- The first bytes settle it.
pub returns-in-Some-clause-exact : goal.returns-in-Some-clause-exact
returns-in-Some-clause-exact g c =
    passes-settled c.args.takes c.args.walk.now.scale c.args.ticks c.args.header.now c.hold.new.self c.pass.new.self _ (Some c.in-Some.front) c.if-header-ne-SIMPLE_BLOCK.false c.in-Some.ensures.exact
    (record { passed = refl; head = c.pass.ensures.head; frames = c.pass.ensures.frames })

-- The first bytes don't settle it.
pub returns-in-None-clause-exact : goal.returns-in-None-clause-exact
returns-in-None-clause-exact g c =
    passes-settled c.args.takes c.args.walk.now.scale c.args.ticks c.args.header.now c.hold.new.self c.args.walk.now.block _ None c.if-header-ne-SIMPLE_BLOCK.false c.in-None.ensures.exact refl
