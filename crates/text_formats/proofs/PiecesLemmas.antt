-- Pieces written in sequence.
use Rattle.std.proofs.Common.{◌≡◌, ℕ, ◌++◌, append_assoc}

pub ruleset joins = (append_assoc)
