-- A child is read and counted.
use Rattle.std.proofs.Common.{Ok, Err, refl, ◌∙◌, ap, arith}
use Rattle.std.proofs.lemmas.Result.{err_from_is_err_and}
use Rattle.meta_records.specs.Attachments.{at_part, leaf_of, no_value, part_of}
use Rattle.meta_records.specs.declared.end.MetaEnd.TheVariants.{Refused}
use Rattle.meta_records.specs.declared.part.Part.{Part}
use Rattle.meta_records.proofs.HeaderLemmas.{IsChild-longer}
use Rattle.meta_records.proofs.LeafLemmas.{octets_of-counted}
use Rattle.meta_records.proofs.MetLemmas.{Meets-at, Meets-damage, leaf-is, part-bad, part-good, part-over}
use Rattle.meta_records.proofs.PaidLemmas.{IsPaid-one, IsSpent-header, IsSpent-one}
use Rattle.meta_records.proofs.part.read_part.Goals as goal

pub counted_of-requires-clause-behind : goal.counted_of-requires-clause-behind
counted_of-requires-clause-behind g c = let placed = c.in_ok-header.ensures.child.placed in omega arith

pub counted_of-requires-clause-short : goal.counted_of-requires-clause-short
counted_of-requires-clause-short g c = omega (arith, c.in_ok-header.ensures.child.inside)

pub leaf_of-requires-clause-child : goal.leaf_of-requires-clause-child
leaf_of-requires-clause-child g c =
    let size = ap (λ s. (g.R.Reads.files s).size c.args.file.n) c.in_ok-header.ensures.standing in
    rw size (IsChild-longer _ _ _ _ c.in_ok-header.ensures.child c.requires.inside)

-- There is no element.
pub returns-in_err-header-clause-meets : goal.returns-in_err-header-clause-meets
returns-in_err-header-clause-meets g c = λ bytes told.
    let p = err_from_is_err_and c.from_residual.result c.from_residual.ensures.1 in
    rw (p.1, p.2) (Meets-damage Part (at_part bytes) _ c.args.counts.now c.args.counts.now c.in_err-header.field-0.0 (c.in_err-header.ensures.exact bytes told))

pub returns-in_err-header-clause-pays : goal.returns-in_err-header-clause-pays
returns-in_err-header-clause-pays g c =
    let p = err_from_is_err_and c.from_residual.result c.from_residual.ensures.1 in
    rw p.1 (IsSpent-header _ _ _ _ _ refl c.in_err-header.ensures.octets)

-- The element passes a limit.

pub returns-in_err-add-clause-meets : goal.returns-in_err-add-clause-meets
returns-in_err-add-clause-meets g c = λ bytes told.
    let h = c.in_ok-header.header in
    let p = err_from_is_err_and c.from_residual-in_err-add.result c.from_residual-in_err-add.ensures.1 in
    let over = rw c.counted_of.ensures at c.in_err-add.ensures.err in
    rw (p.1, p.2) (Meets-at {T = Part} (at_part bytes) _ h c.args.counts.now c.add.new.self (Err (Refused c.in_err-add.field-0.0)) (c.in_ok-header.ensures.exact bytes told)
    (part-over Part bytes h c.args.counts.now c.add.new.self c.in_err-add.field-0.0 over))

pub returns-in_err-add-clause-pays : goal.returns-in_err-add-clause-pays
returns-in_err-add-clause-pays g c =
    let p = err_from_is_err_and c.from_residual-in_err-add.result c.from_residual-in_err-add.ensures.1 in
    rw p.1 (IsSpent-header _ _ _ _ _ c.in_err-add.ensures.refused c.in_ok-header.ensures.octets)

-- The element's body is invalid, or couldn't be read.

pub returns-in_err-leaf-clause-meets : goal.returns-in_err-leaf-clause-meets
returns-in_err-leaf-clause-meets g c = λ bytes told.
    let h = c.in_ok-header.header in
    let now = ap (λ s. (g.R.Reads.files s).content c.args.file.n) c.in_ok-header.ensures.standing ∙ told in
    let p = err_from_is_err_and c.from_residual-in_err-leaf.result c.from_residual-in_err-leaf.ensures.1 in
    let within = rw c.counted_of.ensures at c.in_ok-add.ensures.ok in
    rw (p.1, p.2) (Meets-at {T = Part} (at_part bytes) _ h c.args.counts.now c.add.new.self (Err c.in_err-leaf.field-0.0) (c.in_ok-header.ensures.exact bytes told)
    (part-bad Part bytes h c.args.counts.now c.add.new.self c.in_err-leaf.field-0.0 within (c.in_err-leaf.ensures.exact bytes now)))

pub returns-in_err-leaf-clause-pays : goal.returns-in_err-leaf-clause-pays
returns-in_err-leaf-clause-pays g c =
    let h = c.in_ok-header.header in
    let placed = c.in_ok-header.ensures.child.placed in
    let ends = c.in_ok-header.ensures.child.inside in
    let few = octets_of-counted h (omega arith) in
    let p = err_from_is_err_and c.from_residual-in_err-leaf.result c.from_residual-in_err-leaf.ensures.1 in
    rw p.1 (IsSpent-one _ _ _ _ _ _ _ _ c.in_ok-header.ensures.octets c.in_err-leaf.ensures.octets (rw c.counted_of.ensures at c.in_ok-add.ensures.octets) c.in_ok-add.ensures.nodes few.0 (omega (arith, few.1)))

-- The element is read.

pub returns-clause-meets : goal.returns-clause-meets
returns-clause-meets g c = λ bytes told.
    let h = c.in_ok-header.header in
    let now = ap (λ s. (g.R.Reads.files s).content c.args.file.n) c.in_ok-header.ensures.standing ∙ told in
    let part : Part = record { header = h; leaf = c.in_ok-leaf.leaf } in
    Meets-at {T = Part} (at_part bytes) _ h c.args.counts.now c.add.new.self (Ok part) (c.in_ok-header.ensures.exact bytes told)
    (part-good {T = Part} bytes h c.args.counts.now c.add.new.self c.in_ok-leaf.leaf part (rw c.counted_of.ensures at c.in_ok-add.ensures.ok) (c.in_ok-leaf.ensures.exact bytes now) (rw c.counted_of.ensures at c.in_ok-add.ensures.octets) c.in_ok-add.ensures.nodes)

pub returns-clause-exact : goal.returns-clause-exact
returns-clause-exact g c = λ bytes told.
    let h = c.in_ok-header.header in
    let now = ap (λ s. (g.R.Reads.files s).content c.args.file.n) c.in_ok-header.ensures.standing ∙ told in
    record { found = c.in_ok-header.ensures.exact bytes told; leaf = leaf-is (no_value (part_of bytes h)) (leaf_of bytes h) c.in_ok-leaf.leaf (c.in_ok-leaf.ensures.exact bytes now) }

pub returns-clause-pays : goal.returns-clause-pays
returns-clause-pays g c =
    let h = c.in_ok-header.header in
    let placed = c.in_ok-header.ensures.child.placed in
    let few = octets_of-counted h (omega arith) in
    IsPaid-one _ _ _ _ _ _ _ _ (omega (arith, c.in_ok-header.ensures.octets)) c.in_ok-leaf.ensures.octets (rw c.counted_of.ensures at c.in_ok-add.ensures.octets) c.in_ok-add.ensures.nodes few.0 (omega arith) (omega (arith, few.1))
