-- Simple chapters read line by line, as the code reads them. It equals `Pairs.simple`, by `simple_is` of proofs/PairsLemmas.
use Rattle.std.specs.Prelude.{◌≡◌, ℕ, ◌+◌, List, [], ◌∷◌, ◌++◌, Option, Some, None, Result, Ok, Err}
use Rattle.text_formats.specs.declared.end.TextEnd.{TextEnd}
use Rattle.text_formats.specs.Ends.{Reads}
use Rattle.text_formats.specs.declared.chapter_reading.Chapter.{Chapter}
use Rattle.text_formats.specs.declared.chapter_reading.FirstLine.{FirstLine}
use Rattle.text_formats.specs.Pairs.{Timed, chapter, first_line, second_line}

-- the chapter `c` and the chapters after it, or the number, from 1, of the first bad line. `after_second` uses it.
abbrev pub onto_chapters : Chapter → Result (List Chapter) ℕ → Result (List Chapter) ℕ
onto_chapters c (Ok cs) = Ok (c ∷ cs)
onto_chapters c (Err n) = Err n

-- the result of `rest` for the first line of a chapter, or the number `n` of the line if it isn't one. `pairs` uses it.
abbrev pub after_first : ℕ → Option Timed → (Option Timed → Result (List Chapter) ℕ) → Result (List Chapter) ℕ
after_first n None rest = Err n
after_first n (Some due) rest = rest (Some due)

-- the result of `rest`, after the chapter that starts at `start` nanoseconds and has the name of a second line. If the line isn't one, it is the
-- line's number `n`. `pairs` uses it.
abbrev pub after_second : ℕ → ℕ → Option (List ℕ) → Result (List Chapter) ℕ → Result (List Chapter) ℕ
after_second n start None rest = Err n
after_second n start (Some name) rest = onto_chapters (chapter start name) rest

-- The chapters of the listed lines, or the number of the first bad line; the first line has the number `n`. `due` is a first line whose second line
-- must follow, if any. Empty lines are counted and skipped. If a second line is missing, the line after the last is bad. `Turns` uses it for the
-- steps of `read_pairs`.
unfoldable pub pairs : List (List ℕ) → ℕ → Option Timed → Result (List Chapter) ℕ
pairs [] n None = Ok []
pairs [] n (Some due) = Err n
pairs ([] ∷ ls) n due = pairs ls (n + 1) due
pairs ((b ∷ bs) ∷ ls) n None = after_first n (first_line (b ∷ bs)) (λ due. pairs ls (n + 1) due)
pairs ((b ∷ bs) ∷ ls) n (Some due) = after_second n due.start (second_line due.number (b ∷ bs)) (pairs ls (n + 1) None)

-- the code's first line `f` of a chapter, in the form of the definitions. The contract of `first_line` uses it.
abbrev pub timed_of : FirstLine → Timed
timed_of f = record { number = f.number.now; start = f.start }

-- the code's first line of a chapter, if there is one, in the form of the definitions. `Turns` uses it.
abbrev pub timed_in : Option FirstLine → Option Timed
timed_in None = None
timed_in (Some f) = Some (timed_of f)

-- the items `xs`, which were read already, and the remaining ones after them, or the number of the first bad line. `Turns` uses it.
abbrev pub in_front_of : {X : Type 0} → List X → Result (List X) ℕ → Result (List X) ℕ
in_front_of xs (Ok ys) = Ok (xs ++ ys)
in_front_of xs (Err n) = Err n

-- A call took `line`, which isn't empty and has the number `n`; `due` is a first line that waited. For any lines after it, the chapters `old` with
-- the line are the chapters `new` without it. Or the line is bad. The contract of `take_line` has it.
abbrev pub Turns : List Chapter → List Chapter → List ℕ → ℕ → Option Timed → Result (Option FirstLine) TextEnd → Type 0
Turns old new line n due (Ok next) =
    (ls : List (List ℕ)) → in_front_of old (pairs (line ∷ ls) n due) ≡ in_front_of new (pairs ls (n + 1) (timed_in next))
Turns old new line n due (Err end) = (ls : List (List ℕ)) → Reads {A = List Chapter} (Err end) (pairs (line ∷ ls) n due)
