-- Cases of the reader, from the first fields on.
use Rattle.std.proofs.Common.{◌≡◌, true, List, ℕ, slice_index, Some, Err, sym, ◌∙◌, subst}
use Rattle.std.proofs.lemmas.List.{take_rest}
use Rattle.std.proofs.lemmas.Result.{err_from_is_err_and}
use Rattle.elementary.specs.Avc.{ReadsSets, behind_sets}
use Rattle.elementary.specs.Hevc.{arrays_at, has_hevc_front}
use Rattle.elementary.proofs.HevcLemmas.{hevc_of-bad, no_arrays, arrays_read}
use Rattle.elementary.proofs.hevc.read_hevc.Goals as goal

pub returns-then-not-has_hevc_front-clause-exact : goal.returns-then-not-has_hevc_front-clause-exact
returns-then-not-has_hevc_front-clause-exact c = hevc_of-bad _ (sym c.has_hevc_front.ensures ∙ c.if-not-has_hevc_front.true)

pub returns-in_err-read_arrays-clause-exact : goal.returns-in_err-read_arrays-clause-exact
returns-in_err-read_arrays-clause-exact c =
    let private = c.args.private.now in
    let front : has_hevc_front private ≡ true = sym c.has_hevc_front.ensures ∙ c.if-not-has_hevc_front.false in
    let P : List ℕ → Type 0 = λ o. ReadsSets (arrays_at (slice_index private 22) o) c.new-sets.result c.read_arrays.new.sets (Err c.in_err-read_arrays.field-0.0) in
    let p = err_from_is_err_and c.from_residual.result c.from_residual.ensures.1 in
    rw (p.1, p.2) (no_arrays private c.new-sets.result c.read_arrays.new.sets c.in_err-read_arrays.field-0.0 front (subst P (take_rest private 23) c.in_err-read_arrays.ensures))

pub returns-clause-exact : goal.returns-clause-exact
returns-clause-exact c =
    let private = c.args.private.now in
    let front : has_hevc_front private ≡ true = sym c.has_hevc_front.ensures ∙ c.if-not-has_hevc_front.false in
    let rest = c.in_ok-read_arrays.field-0.now in
    let P : List ℕ → Type 0 = λ o. behind_sets c.new-sets.result (arrays_at (slice_index private 22) o) ≡ Some (c.read_arrays.new.sets, rest) in
    arrays_read private rest c.new-sets.result c.read_arrays.new.sets front c.new-sets.ensures (subst P (take_rest private 23) c.in_ok-read_arrays.ensures)
