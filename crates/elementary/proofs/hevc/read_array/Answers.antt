-- An array has its first three bytes, or it is cut off; its sets follow them.
use Rattle.std.proofs.Common.{◌≡◌, ℕ, List, drop, ap, ◌∙◌, subst}
use Rattle.std.proofs.lemmas.List.{take_rest}
use Rattle.byteorder.specs.Endian.{big_number}
use Rattle.elementary.specs.Units.{units_at}
use Rattle.elementary.specs.Avc.{ReadsSets}
use Rattle.elementary.proofs.HevcLemmas.{array_at-long, array_at-short}
use Rattle.elementary.proofs.hevc.read_array.Goals as goal

pub returns-then-octets-lt3 : goal.returns-then-octets-lt3
returns-then-octets-lt3 c = array_at-short c.args.octets.now c.if-octets-lt3.true

pub returns : goal.returns
returns c =
    let octets = c.args.octets.now in
    let count : c.read_u16-count.result ≡ big_number 2 (drop 1 octets) = c.read_u16-count.ensures ∙ ap (big_number 2) (take_rest octets 1) in
    let P : List ℕ → Type 0 = λ o. ReadsSets (units_at 2 c.read_u16-count.result o) c.args.sets.now c.read_sets.new.sets c.read_sets.result in
    let Q : ℕ → Type 0 = λ n. ReadsSets (units_at 2 n (drop 3 octets)) c.args.sets.now c.read_sets.new.sets c.read_sets.result in
    rw (array_at-long octets c.if-octets-lt3.false) (subst Q count (subst P (take_rest octets 3) c.read_sets.ensures))
