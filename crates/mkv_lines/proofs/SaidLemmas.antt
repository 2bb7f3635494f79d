-- Lines printed in sequence.
use Rattle.std.proofs.Common.{◌≡◌, ℕ, List, [], ◌++◌, append_assoc, append-nil, Some, None, Result, Ok, Err, refl, sym, ◌∙◌, ap}
use Rattle.mkv_io.specs.Lines.{with_lines}
use Rattle.mkv_lines.specs.Said.{ReportLines, Says, SaysPart, SaysUpTo}
use Rattle.mkv_lines.specs.declared.status.CommandEnd.{CommandEnd}

-- Printing no lines changes nothing.
pub with_lines-none : (old : ReportLines) → with_lines old [] ≡ old
with_lines-none None = refl
with_lines-none (Some lines) = ap Some (append-nil lines)

-- Printing lines in two steps is printing all of them.
pub with_lines-both : (old : ReportLines) (xs ys : List (List ℕ)) → with_lines (with_lines old xs) ys ≡ with_lines old (xs ++ ys)
with_lines-both None xs ys = refl
with_lines-both (Some lines) xs ys = ap Some (append_assoc lines xs ys)

-- A part of the lines may be none of them, or all.
pub SaysPart-none : (old : ReportLines) (all : List (List ℕ)) → SaysPart old old all
SaysPart-none old all = record { said = []; left = all; whole = refl; added = sym (with_lines-none old) }

pub SaysPart-all : (old new : ReportLines) (all : List (List ℕ)) → new ≡ with_lines old all → SaysPart old new all
SaysPart-all old new all added = record { said = all; left = []; whole = sym (append-nil all); added = added }

-- A part of the first lines is a part of all lines.
pub SaysPart-before : (old new : ReportLines) (xs ys : List (List ℕ)) → SaysPart old new xs → SaysPart old new (xs ++ ys)
SaysPart-before old new xs ys part = record {
  said = part.said;
  left = part.left ++ ys;
  whole = ap (λ lines. lines ++ ys) part.whole ∙ append_assoc part.said part.left ys;
  added = part.added;
}

-- The first lines and a part of the next ones are a part of all lines.
pub SaysPart-behind : (old mid new : ReportLines) (xs ys : List (List ℕ)) → mid ≡ with_lines old xs → SaysPart mid new ys → SaysPart old new (xs ++ ys)
SaysPart-behind old mid new xs ys first part = record {
  said = xs ++ part.said;
  left = part.left;
  whole = ap (λ lines. xs ++ lines) part.whole ∙ sym (append_assoc xs part.said part.left);
  added = part.added ∙ ap (λ (held : ReportLines). with_lines held part.said) first ∙ with_lines-both old xs part.said;
}

-- ---- two calls in sequence

-- The first call has printed its lines, and the second prints its own.
pub Says-then : {T : Type 0} (old mid new : ReportLines) (xs ys : List (List ℕ)) (r : Result T CommandEnd) → mid ≡ with_lines old xs → Says mid new ys r → Says old new (xs ++ ys) r
Says-then old mid new xs ys (Ok done) first second = second ∙ ap (λ (held : ReportLines). with_lines held ys) first ∙ with_lines-both old xs ys
Says-then old mid new xs ys (Err why) first second = SaysPart-behind old mid new xs ys first second

-- ---- a list of lines, up to the rest

pub SaysUpTo-begins : (old : ReportLines) (all : List (List ℕ)) → SaysUpTo old old all all
SaysUpTo-begins old all = record { said = []; whole = refl; added = sym (with_lines-none old) }

pub SaysUpTo-more : (old mid new : ReportLines) (all xs left : List (List ℕ)) → SaysUpTo old mid all (xs ++ left) → new ≡ with_lines mid xs → SaysUpTo old new all left
SaysUpTo-more old mid new all xs left way more = record {
  said = way.said ++ xs;
  whole = way.whole ∙ sym (append_assoc way.said xs left);
  added = more ∙ ap (λ (held : ReportLines). with_lines held xs) way.added ∙ with_lines-both old way.said xs;
}

pub SaysUpTo-ends : (old new : ReportLines) (all : List (List ℕ)) → SaysUpTo old new all [] → new ≡ with_lines old all
SaysUpTo-ends old new all way = way.added ∙ ap (with_lines old) (sym (way.whole ∙ append-nil way.said))

pub SaysUpTo-stops : (old mid new : ReportLines) (all xs left : List (List ℕ)) → SaysUpTo old mid all (xs ++ left) → SaysPart mid new xs → SaysPart old new all
SaysUpTo-stops old mid new all xs left way part = record {
  said = way.said ++ part.said;
  left = part.left ++ left;
  whole =
      way.whole ∙ ap (λ lines. way.said ++ (lines ++ left)) part.whole
      ∙ ap (λ lines. way.said ++ lines) (append_assoc part.said part.left left)
      ∙ sym (append_assoc way.said part.said (part.left ++ left));
  added = part.added ∙ ap (λ (held : ReportLines). with_lines held part.said) way.added ∙ with_lines-both old way.said part.said;
}
