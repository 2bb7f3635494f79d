use Rattle.std.proofs.Common.{◌≡◌, ℕ, List, [], ◌∷◌, get_or, ◌+◌, ◌-◌, ◌*◌, take, drop, refl, ap, sym, ◌∙◌, arith}
use Rattle.std.proofs.Math.Seq.{take-add}
use Rattle.std.proofs.lemmas.List.{take_more}
use Rattle.crc32.specs.Checksum.{after_bytes}
use Rattle.crc32.proofs.RegisterLemmas.{after_bytes-append}
use Rattle.crc32.proofs.checksum.after_bytes.Goals as goal

pub turns-init : goal.turns-init
unfolding after_bytes
turns-init c = refl

pub turns-preserved : goal.turns-preserved
turns-preserved c =
    let start : ℕ = 16 * c.turns.turn in
    let bytes : List ℕ = c.args.bytes.now in
    let size : start + 16 - start ≡ 16 = omega arith in
    let next : 16 * (c.turns.turn + 1) ≡ start + 16 = omega arith in
    c.after_turn-after.ensures ∙ ap (λ (k : ℕ). after_bytes c.turns.after (take k (drop start bytes))) size
    ∙ ap (λ (r : ℕ). after_bytes r (take 16 (drop start bytes))) c.turns.invariant
    ∙ sym (ap (λ (k : ℕ). after_bytes c.args.register (take k bytes)) next ∙ ap (after_bytes c.args.register) (take-add start 16 bytes)
    ∙ after_bytes-append c.args.register (take start bytes) (take 16 (drop start bytes)))

pub rest-preserved : goal.rest-preserved
rest-preserved c =
    let place : ℕ = c.rest.place in
    let bytes : List ℕ = c.args.bytes.now in
    c.after_byte-after.ensures ∙ ap (λ (r : ℕ). after_bytes r (get_or bytes place 0 ∷ [])) c.rest.invariant
    ∙ sym (ap (after_bytes c.args.register) (take_more bytes place 0 (omega arith))
    ∙ after_bytes-append c.args.register (take place bytes) (get_or bytes place 0 ∷ []))
