-- Bytes that are a join of pieces: NAL units after their lengths, or segments. A reader of the first piece cuts them.
use Rattle.std.specs.Prelude.{ℕ, zero, suc, List, [], ◌∷◌, length, Option, None, Some}
use Rattle.std.specs.Option.{option_map}

-- the result of `next` for a piece and the bytes after it, if there is a piece. For `pieces_within`, and for the sets of a configuration.
abbrev pub piece_then : {T : Type 0} → Option (List ℕ × List ℕ) → (List ℕ → List ℕ → Option T) → Option T
piece_then None next = None
piece_then (Some (piece, rest)) next = next piece rest

-- the pieces of the bytes, if they are exactly a join of at most `n` pieces. The reader `first` returns the first piece of bytes and the bytes after
-- it. For `pieces_of`.
abbrev pub pieces_within : (List ℕ → Option (List ℕ × List ℕ)) → ℕ → List ℕ → Option (List (List ℕ))
pieces_within first n [] = Some []
pieces_within first zero (octet ∷ octets) = None
pieces_within first (suc n) (octet ∷ octets) =
    piece_then (first (octet ∷ octets)) (λ piece rest. option_map (λ pieces. piece ∷ pieces) (pieces_within first n rest))

-- the pieces that the bytes `octets` are exactly a join of, if they are one. The reader `first` returns the first piece of bytes, which isn't empty,
-- and the bytes after it. For the units of an H.264 or H.265 frame and the segments of a PGS frame.
abbrev pub pieces_of : (List ℕ → Option (List ℕ × List ℕ)) → List ℕ → Option (List (List ℕ))
pieces_of first octets = pieces_within first (length octets) octets
