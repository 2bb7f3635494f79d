-- The identifiers of an output: RFC 9559, sections 5.1.4.1.2 (TrackUID) and 5.1.6.1.5 (FileUID), and similar ones. The choice of identifiers is
-- this project's.
use Rattle.std.specs.Prelude.{◌≢◌, ◌<◌, ℕ, ◌+◌, ◌==◌, Bool, not, ◌&&◌, if◌then◌else◌, List, [], ◌∷◌, ◌++◌, length, All, find, unwrap_or}
use Rattle.std.specs.List.{list_any, range_with_len, AllPairs}

-- The number `n` isn't in `taken`, the identifiers in use, and so can be given to an item.
abbrev pub is_free : List ℕ → ℕ → Bool
is_free taken n = not (list_any (λ m. n == m) taken)

-- the smallest positive number that isn't in `taken`, the identifiers in use, at most one more than its length. `number_for` gives it.
abbrev pub smallest_free : List ℕ → ℕ
smallest_free taken = unwrap_or (find (is_free taken) (range_with_len 1 (length taken + 1))) 0

-- the output's number for the identifier `id` of an input: itself if it is positive and not in `given`. If not, it is the smallest positive number in
-- neither `source`, the inputs' identifiers, nor `given`. The contract of the function with this name promises it.
abbrev pub number_for : List ℕ → List ℕ → ℕ → ℕ
number_for source given id = if not (id == 0) && is_free given id then id else smallest_free (source ++ given)

-- the output's numbers for a list of identifiers, after the numbers `given`; `source` has all identifiers of the inputs. `renumbered` begins with
-- none given.
abbrev pub renumbered_from : List ℕ → List ℕ → List ℕ → List ℕ
renumbered_from source given [] = []
renumbered_from source given (id ∷ ids) =
    number_for source given id ∷ renumbered_from source (given ++ number_for source given id ∷ []) ids

-- the output's numbers for the identifiers `ids` of the inputs, in the order of writing; an absent identifier is 0. Tracks, editions, chapters and
-- attached files of a merge get them. Used by `numbers_of`, `renumber` and others.
abbrev pub renumbered : List ℕ → List ℕ
renumbered ids = renumbered_from ids [] ids

-- The identifiers `ids` can stay unchanged: each is positive, and all are distinct. The identifiers of an output are so.
pub record AreSettled (ids : List ℕ) : Type 0 where
  pub positive : All (λ id. 0 < id) ids
  pub distinct : AllPairs ◌≢◌ ids
