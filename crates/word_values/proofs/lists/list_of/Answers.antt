use Rattle.std.proofs.Common.{arith, sym, ◌≡◌, Some, None}
use Rattle.std.proofs.lemmas.Grind.{common_steps}
use Rattle.mkv_io.specs.Octets.{cut}
use Rattle.word_values.proofs.ListsLemmas.{joined_more, joined_bad, joined_last, joined_last_bad, cut_shorter}
use Rattle.word_values.proofs.lists.list_of.Goals as goal

pub loop-piece-smaller : goal.loop-piece-smaller
loop-piece-smaller g c = cut_shorter c.loop-piece.rest.now c.in-Some.piece.now c.in-Some.after.now (sym c.in-Some.ensures)

-- A piece of the form joins the values that were read.
pub loop-piece-preserved : goal.loop-piece-preserved
loop-piece-preserved g c =
    let l = c.loop-piece in
    let e : cut 44 l.rest.now ≡ Some (c.in-Some.piece.now, c.in-Some.after.now) = sym c.in-Some.ensures in
    let is : g.P.Piece.spelled c.in-Some.piece.now ≡ Some c.in-Some-read.value = cc in
    cc (joined_more g.P.Piece.spelled l.list c.in-Some-read.value l.rest.now c.in-Some.piece.now c.in-Some.after.now e is, c.in_ok-push.ensures.ok)

-- A piece without the form ends the reading.
pub returns-in_default-read : goal.returns-in_default-read
returns-in_default-read g c =
    let l = c.loop-piece in
    let e : cut 44 l.rest.now ≡ Some (c.in-Some.piece.now, c.in-Some.after.now) = sym c.in-Some.ensures in
    let is : g.P.Piece.spelled c.in-Some.piece.now ≡ None = grind (arith, common_steps) in
    cc (joined_bad g.P.Piece.spelled l.list l.rest.now c.in-Some.piece.now c.in-Some.after.now e is)

pub returns-in_default-read-2 : goal.returns-in_default-read-2
returns-in_default-read-2 g c =
    let l = c.loop-piece in
    let e : cut 44 l.rest.now ≡ None = grind (arith, common_steps) in
    let is : g.P.Piece.spelled l.rest.now ≡ None = grind (arith, common_steps) in
    cc (joined_last_bad g.P.Piece.spelled l.list l.rest.now e is)

pub returns : goal.returns
returns g c =
    let l = c.loop-piece in
    let e : cut 44 l.rest.now ≡ None = grind (arith, common_steps) in
    let is : g.P.Piece.spelled l.rest.now ≡ Some c.in-Some-read-2.last = cc in
    cc (joined_last g.P.Piece.spelled l.list c.in-Some-read-2.last l.rest.now e is, c.in_ok-push-2.ensures.ok)
