-- Texts printed in sequence.
use Rattle.std.proofs.Common.{ℕ, ◌+◌, ◌<◌, List, ◌∷◌, map, length, drop, get_or, sym, ap, subst, ◌∙◌, drop-cons, add-one}
use Rattle.std.specs.Borrow.{Bor}
use Rattle.mkv_lines.specs.Said.{ReportLines, SaysUpTo}

abbrev pub shown : List (Bor (List ℕ)) → List (List ℕ)
shown texts = map (λ (text : Bor (List ℕ)). text.now) texts

-- The next text is the first of the texts that are left.
pub texts-next : (old now : ReportLines) (all : List (List ℕ)) (k : ℕ) (texts : List (Bor (List ℕ))) (d : Bor (List ℕ)) → k < length texts
    → SaysUpTo old now all (shown (drop k texts)) → SaysUpTo old now all ((get_or texts k d).now ∷ shown (drop (k + 1) texts))
texts-next old now all k texts d below way =
    subst (λ (left : List (Bor (List ℕ))). SaysUpTo old now all (shown left))
    (drop-cons texts k d below ∙ ap (λ (n : ℕ). get_or texts k d ∷ drop n texts) (sym (add-one k))) way
