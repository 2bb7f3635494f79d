use Rattle.std.proofs.Common.{◌≡◌, ℕ, List, take, drop, length-drop, sym, ◌∙◌, arith}
use Rattle.std.proofs.lemmas.List.{take_all}
use Rattle.std.specs.Int.{w64, to_le_bytes}
use Rattle.crc32.proofs.RegisterLemmas.{after_eight, after_sixteen}
use Rattle.crc32.proofs.checksum.after_turn.Goals as goal

pub returns : goal.returns
returns c =
    let bytes : List ℕ = c.args.bytes.now in
    let first : ℕ = c.number_of.result in
    let second : ℕ = c.number_of-2.result in
    let back : to_le_bytes w64 second ≡ drop 8 bytes = c.number_of-2.ensures ∙ take_all _ (drop 8 bytes) (omega (arith, length-drop 8 bytes)) in
    rw (c.after_word.ensures, c.after_word-2.ensures, c.from.ensures)
    (sym (after_sixteen c.args.register first second bytes (after_eight c.args.register first (take 8 bytes) c.number_of.type_inv c.number_of.ensures)
    (λ before. after_eight before second (drop 8 bytes) c.number_of-2.type_inv back)))
