-- Results in sequence, and results that a check may refuse.
use Rattle.std.specs.Prelude.{Option, Some, None, Result, Ok, Err}

-- the result of `more` for the value of the given result; an error stays. Used to define steps in sequence, such as the checks of an edit.
abbrev pub and_then : {A B E : Type 0} → Result A E → (A → Result B E) → Result B E
and_then (Ok x) more = more x
and_then (Err e) more = Err e

-- the value `x`, unless the given option has an error, which is then the result. Used to define a check that may refuse. Used by `timestamp_for` of
-- `block_format` and others.
abbrev pub unless : {A E : Type 0} → Option E → A → Result A E
unless None x = Ok x
unless (Some e) x = Err e
