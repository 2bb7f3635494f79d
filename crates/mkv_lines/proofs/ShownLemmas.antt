-- Control characters in a message.
use Rattle.std.proofs.Common.{◌≡◌, ℕ, ◌+◌, ◌/◌, ◌%◌, ◌<◌, ◌≤◌, List, [], ◌∷◌, ◌++◌, flat_map, Bool, true, if◌then◌else◌, sym, ap, ◌∙◌, arith, append-nil, lt-ltb, le-ltb}
use Rattle.std.proofs.lemmas.Bool.{cond-true, cond-false}
use Rattle.std.proofs.lemmas.Bool.Decides.{nat_tests}
use Rattle.std.specs.Char.{encode_utf8}
use Rattle.mkv_lines.specs.Shown.{escaped, is_control, shown_char}

-- A character from U+0080 to U+009F has two bytes: C2 and its number.
encode-two : (c : ℕ) → 0x80 ≤ c → c < 0xA0 → encode_utf8 c ≡ 0xC2 ∷ (c ∷ [])
unfolding encode_utf8
encode-two c low high =
    let lead : 192 + c / 64 ≡ 0xC2 = omega arith in
    let last : 128 + c % 64 ≡ c = omega arith in
    cond-false _ _ _ (le-ltb c 128 low) ∙ cond-true _ _ _ (lt-ltb c 2048 (omega arith))
    ∙ ap (λ (n : ℕ). n ∷ (128 + c % 64) ∷ []) lead ∙ ap (λ (n : ℕ). 0xC2 ∷ n ∷ []) last

pub shown_char-two : (c : ℕ) → 0x80 ≤ c → c < 0xA0 → escaped 0xC2 ++ escaped c ≡ shown_char c
shown_char-two c low high =
    let control : is_control c ≡ true = grind (arith, nat_tests) in
    let shown : shown_char c ≡ flat_map escaped (encode_utf8 c) = ap (λ (b : Bool). if b then flat_map escaped (encode_utf8 c) else encode_utf8 c) control in
    sym (shown ∙ ap (flat_map escaped) (encode-two c low high) ∙ ap (λ (octets : List ℕ). escaped 0xC2 ++ octets) (append-nil (escaped c)))
