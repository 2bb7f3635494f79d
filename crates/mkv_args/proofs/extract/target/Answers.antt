use Rattle.std.proofs.Common.{true, false, sym, ◌∙◌, ap, rules}
use Rattle.mkv_args.specs.Extract.{target, target_of}
use Rattle.mkv_args.specs.TargetNames.{AddsName}
use Rattle.mkv_args.proofs.TargetNamesLemmas.{target-free, target-taken}
use Rattle.mkv_args.proofs.extract.target.Goals as goal

-- A target before has the name.
pub returns-then-not-branch : goal.returns-then-not-branch
unfolding target
returns-then-not-branch c = λ before are.
    let taken : AddsName c.args.names.now.keys c.add.new.names.keys c.in-Some.out.now false = search rules in
    rw c.refused-then-not-branch.ensures
    (ap (target_of c.args.least before c.args.at) (sym c.in-Some.ensures) ∙ target-taken c.args.least c.args.at c.in-Some.id c.args.names.now.keys before c.in-Some.out.now are c.if-id-least.false taken, tt)

-- No target before has the name.
pub returns : goal.returns
unfolding target
returns c = λ before are.
    let free : AddsName c.args.names.now.keys c.add.new.names.keys c.in-Some.out.now true = search rules in
    let read = target-free c.args.least c.args.at c.in-Some.id c.args.names.now.keys c.add.new.names.keys before c.in-Some.out.now are c.if-id-least.false free.0 free.1 in
    rw c.in_ok-name.ensures
    (ap (target_of c.args.least before c.args.at) (sym c.in-Some.ensures) ∙ read.0, read.1)
