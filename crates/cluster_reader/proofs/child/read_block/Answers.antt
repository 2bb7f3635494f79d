use Rattle.std.proofs.Common.{Some, sym, ◌∙◌, ap, subst}
use Rattle.block_format.specs.Elements.{with_limits, simple_block, block_group}
use Rattle.cluster_reader.specs.Takes.{MakesBlock, MakesWanted}
use Rattle.cluster_reader.specs.declared.walk.Walk.{Walk}
use Rattle.cluster_reader.proofs.ChildLemmas.{block_found-refused, block_found-simple, block_found-group, timestamp_for-is}
use Rattle.cluster_reader.proofs.PassedLemmas.{passed-lends, passed-simple}
use Rattle.cluster_reader.proofs.TakesLemmas.{makes-wanted}
use Rattle.cluster_reader.proofs.child.read_block.Goals as goal

-- The block is too long, or no Timestamp precedes it.
pub returns-in-Err-clause-ok : goal.returns-in-Err-clause-ok
returns-in-Err-clause-ok g c = λ bytes told.
    block_found-refused (with_limits c.args.walk.now.scale) bytes c.args.timestamp c.args.header.now c.in-Err.damage (sym (c.in-Err.ensures.exact c.args.walk.now.scale))

-- The block is skipped.
pub returns-then-branch-clause-ok : goal.returns-then-branch-clause-ok
returns-then-branch-clause-ok g c = λ bytes told.
    let r = with_limits c.args.walk.now.scale in
    let h = c.args.header.now in
    let before = timestamp_for-is r c.args.timestamp h c.in-Ok.ticks (sym (c.in-Ok.ensures.exact c.args.walk.now.scale)) in
    let w = c.passes.new.walk in
    let simple = passed-simple c.args.takes c.args.walk.now.scale c.in-Ok.ticks h w.window w.block c.in_ok-passes.field-0 c.in_ok-passes.ensures.exact c.if-branch.true in
    let is = block_found-simple r bytes c.args.timestamp h simple ∙ ap (λ t. simple_block r bytes t h) before in
    subst (MakesBlock c.args.takes c.passes.new.walk.block) (sym is) (c.in_ok-passes.ensures.found c.if-branch.true bytes told)

pub returns-then-branch-clause-lends : goal.returns-then-branch-clause-lends
returns-then-branch-clause-lends g c =
    let w = c.passes.new.walk in
    passed-lends c.args.takes c.args.walk.now.scale c.in-Ok.ticks c.args.header.now w.window w.block c.in_ok-passes.field-0 c.in_ok-passes.ensures.exact c.if-branch.true

-- A SimpleBlock is read.
pub returns-in_ok-found-clause-ok : goal.returns-in_ok-found-clause-ok
returns-in_ok-found-clause-ok g c = λ bytes told.
    let r = with_limits c.args.walk.now.scale in
    let h = c.args.header.now in
    let w = c.passes.new.walk in
    let same = c.in_ok-passes.ensures.only in
    let here = ap (λ s. (g.R.Reads.files s).content w.file.n) c.in_ok-passes.ensures.standing
    ∙ ap (λ (x : Walk). (g.R.Reads.files (g.R.Reads.standing c.args.src.now)).content x.file.n) same ∙ told in
    let before = timestamp_for-is r c.args.timestamp h c.in-Ok.ticks (sym (c.in-Ok.ensures.exact c.args.walk.now.scale)) in
    let is = block_found-simple r bytes c.args.timestamp h c.if-header-eq-SIMPLE_BLOCK.true ∙ ap (λ t. simple_block r bytes t h) before
    ∙ sym (ap (λ (x : Walk). simple_block (with_limits x.scale) bytes (Some c.in-Ok.ticks) h) same) in
    subst (MakesWanted c.args.takes c.in_ok-found.found c.spell_simple.new.self) (sym is)
    (makes-wanted c.args.takes c.in_ok-found.found c.spell_simple.new.self _ c.in_ok-found.ensures.lent (c.in_ok-found.ensures.exact bytes (c.in_ok-read.ensures.ok bytes here)))

-- A BlockGroup is read.
pub returns-in_ok-found-2-clause-ok : goal.returns-in_ok-found-2-clause-ok
returns-in_ok-found-2-clause-ok g c = λ bytes told.
    let r = with_limits c.args.walk.now.scale in
    let h = c.args.header.now in
    let w = c.passes.new.walk in
    let same = c.in_ok-passes.ensures.only in
    let here = ap (λ s. (g.R.Reads.files s).content w.file.n) c.in_ok-passes.ensures.standing
    ∙ ap (λ (x : Walk). (g.R.Reads.files (g.R.Reads.standing c.args.src.now)).content x.file.n) same ∙ told in
    let before = timestamp_for-is r c.args.timestamp h c.in-Ok.ticks (sym (c.in-Ok.ensures.exact c.args.walk.now.scale)) in
    let is = block_found-group r bytes c.args.timestamp h c.if-header-eq-SIMPLE_BLOCK.false ∙ ap (λ t. block_group r bytes t h) before
    ∙ sym (ap (λ (x : Walk). block_group (with_limits x.scale) bytes (Some c.in-Ok.ticks) h) same) in
    let total = g.met.R.Reads.told_size (g.R.Reads.standing c.passes.new.src) w.file.n bytes here
    ∙ sym (c.size-total.ensures.exact ∙ ap (λ s. (g.R.Reads.files s).size w.file.n) c.in_ok-read.ensures.standing) in
    subst (MakesWanted c.args.takes c.in_ok-found-2.found c.spell_group.new.self) (sym is)
    (makes-wanted c.args.takes c.in_ok-found-2.found c.spell_group.new.self _ c.in_ok-found-2.ensures.lent (c.in_ok-found-2.ensures.exact bytes total (c.in_ok-read.ensures.ok bytes here)))
