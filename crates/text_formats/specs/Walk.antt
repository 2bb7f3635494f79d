-- Search for the first bad line of SubRip, line by line, as the code reads it. It equals `Srt.first_bad`, by `bad_is` of proofs/WalkLemmas.
use Rattle.std.specs.Prelude.{ℕ, ◌+◌, Bool, not, ◌||◌, ◌==◌, nat_lt, if◌then◌else◌, List, [], ◌∷◌, length, Option, Some, None, ◌≡◌, false}
use Rattle.std.specs.Option.{is_some}
use Rattle.std.specs.Str.{is_utf8}
use Rattle.text_formats.specs.declared.times.Times.{Times}
use Rattle.text_formats.specs.Srt.{head, has_arrow}

-- Place of a line in a SubRip file: before the first head, as the second line of a head (with its times), or after one.
pub data Place : Type 0 where
  Front : Place
  Second : Times → Place
  Behind : Place

-- the place of the next line, after a line at `place` that begins a head with these times, if any. `bad_from` uses it.
abbrev pub next : Place → Option Times → Place
next place (Some t) = Second t
next Front None = Front
next (Second t) None = Behind
next Behind None = Behind

-- The line `l` isn't allowed at its place. `begins` is true if it begins a head. `is_bad_at` uses it.
abbrev pub is_misplaced : Place → Bool → List ℕ → Bool
is_misplaced Front begins l = has_arrow l || not (begins || length l == 0)
is_misplaced (Second t) begins l = nat_lt t.end t.start
is_misplaced Behind begins l = has_arrow l

-- The line `l` isn't UTF-8 or isn't allowed at `place`. `begins` is true if it begins a head. `bad_from` uses it.
abbrev pub is_bad_at : Place → Bool → List ℕ → Bool
is_bad_at place begins l = not (is_utf8 l) || is_misplaced place begins l

-- The line `line` is allowed in the text of an entry, and `text` is the same line as text. The contract of `plain` has it.
abbrev pub IsTextLine : List ℕ → List ℕ → Type 0
IsTextLine line text = (is_bad_at Behind false line ≡ false) × (text ≡ line)

-- the number of the first bad line in the list, or None; the first line has the number `n` and the place `place`. Contracts of the steps of
-- `read_srt` use it.
unfoldable pub bad_from : Place → ℕ → List (List ℕ) → Option ℕ
bad_from place n [] = None
bad_from place n (l ∷ ls) =
    if is_bad_at place (is_some (head (l ∷ ls))) l then Some n
    else bad_from (next place (head (l ∷ ls))) (n + 1) ls
