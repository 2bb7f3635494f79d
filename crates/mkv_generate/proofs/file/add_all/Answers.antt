use Rattle.std.proofs.Common.{◌≤◌, ◌+◌, List, refl, ◌∙◌, subst, arith}
use Rattle.std.proofs.lemmas.Result.{err_from_is_err_and}
use Rattle.mkv_io.proofs.EndsLemmas.{HasRemuxCause-then}
use Rattle.mkv_io.proofs.WritingLemmas.{WritesOnly-none}
use Rattle.output_model.specs.OutputBlock.{OutputBlock}
use Rattle.mkv_generate.specs.Writing.{IsOnTheWay}
use Rattle.mkv_generate.proofs.FileLemmas.{all-left, lane_left, next-left, none-left, rest-added, writes-then}
use Rattle.mkv_generate.proofs.file.add_all.Goals as goal

pub loop-i-init : goal.loop-i-init
loop-i-init g c = record {
  file = refl;
  is_open = c.requires.open;
  only = WritesOnly-none g.F.Reads g.F.Files _ c.args.files.now;
  writing = refl;
  way = λ before name d way. way;
}

-- A block was added.
pub loop-i-preserved : goal.loop-i-preserved
loop-i-preserved g c =
    let inv = c.loop-i.invariant in
    let added = c.in_ok-add_one.ensures in
    record {
      file = added.file ∙ inv.file;
      is_open = added.open;
      only = writes-then g.F.Reads g.F.Files c.args.files.now c.loop-i.files c.add_one.new.files c.args.out.now.file c.loop-i.out.file inv.file c.requires.open.live inv.only added.only;
      writing = added.cause.writing ∙ inv.writing;
      way = λ before name d way.
          let P : List OutputBlock → Type 0 = λ left. IsOnTheWay g.F.Reads g.F.Files before name c.args.medium d c.loop-i.files c.loop-i.out c.loop-i.buffer left in
          added.adds before name d (lane_left c.args.medium (c.loop-i.i + 1) c.count-count.result) (subst P (next-left c.args.medium c.loop-i.i c.count-count.result c.loop-i-test.true) (inv.way before name d way));
    }

-- A block couldn't be added.
pub returns-in_err-add_one-clause-adds : goal.returns-in_err-add_one-clause-adds
returns-in_err-add_one-clause-adds g c =
    let p = err_from_is_err_and c.from_residual.result c.from_residual.ensures.1 in
    let inv = c.loop-i.invariant in
    rw p.1 (λ before name d way.
    let P : List OutputBlock → Type 0 = λ left. IsOnTheWay g.F.Reads g.F.Files before name c.args.medium d c.loop-i.files c.loop-i.out c.loop-i.buffer left in
    let Q : List OutputBlock → Type 0 = λ left. IsOnTheWay g.F.Reads g.F.Files before name c.args.medium d c.args.files.now c.args.out.now c.args.buffer.now left in
    c.in_err-add_one.ensures.adds before name d (lane_left c.args.medium (c.loop-i.i + 1) c.count-count.result)
    (subst P (next-left c.args.medium c.loop-i.i c.count-count.result c.loop-i-test.true) (inv.way before name d (subst Q (all-left c.args.medium c.args.n c.count-count.result c.count-count.ensures) way))))

-- The last Cluster is written.
pub returns-clause-adds : goal.returns-clause-adds
returns-clause-adds g c =
    let inv = c.loop-i.invariant in
    let medium = c.args.medium in
    let count = c.count-count.result in
    let past : count ≤ c.loop-i.i = omega arith in
    rest-added g.F.Reads g.F.Files medium c.args.n c.args.files.now c.loop-i.files c.add_rest.new.files c.args.out.now c.loop-i.out c.add_rest.new.out c.args.buffer.now c.loop-i.buffer c.add_rest.result c.add_rest.ensures.ends
    (λ before name d way.
    let P : List OutputBlock → Type 0 = λ left. IsOnTheWay g.F.Reads g.F.Files before name medium d c.loop-i.files c.loop-i.out c.loop-i.buffer left in
    let Q : List OutputBlock → Type 0 = λ left. IsOnTheWay g.F.Reads g.F.Files before name medium d c.args.files.now c.args.out.now c.args.buffer.now left in
    subst P (none-left medium c.loop-i.i count past) (inv.way before name d (subst Q (all-left medium c.args.n count c.count-count.ensures) way)))

pub returns-clause-only : goal.returns-clause-only
returns-clause-only g c =
    let inv = c.loop-i.invariant in
    writes-then g.F.Reads g.F.Files c.args.files.now c.loop-i.files c.add_rest.new.files c.args.out.now.file c.loop-i.out.file inv.file c.requires.open.live inv.only c.add_rest.ensures.only

pub returns-clause-cause : goal.returns-clause-cause
returns-clause-cause g c =
    let inv = c.loop-i.invariant in
    HasRemuxCause-then g.F.Reads g.F.Files c.args.files.now c.loop-i.files c.add_rest.new.files c.add_rest.result inv.only.reading inv.writing c.add_rest.ensures.cause
