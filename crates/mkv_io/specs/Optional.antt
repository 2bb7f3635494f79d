-- Options in sequence.
use Rattle.std.specs.Prelude.{Option, option_and_then}

-- infix operator of `o >>= f`, below
infixl 10 ◌>>=◌
-- the value of `f` at the value of the option `o`, or None if it has none. Values of options and fields of timestamp files are read with it.
abbrev pub ◌>>=◌ : {A B : Type 0} → Option A → (A → Option B) → Option B
o >>= f = option_and_then f o
