-- Results of the code's parser, against the meaning of the command line by the definitions. Memory may run out at any time.
use Rattle.std.specs.Prelude.{◌≡◌, ℕ, Option, Some, None, Result, Ok, Err}
use Rattle.word_values.specs.declared.usage.Usage.{Usage}
use Rattle.word_values.specs.declared.usage.Why.{Why}
use Rattle.word_values.specs.declared.usage.ArgsEnd.{ArgsEnd}
use Rattle.word_values.specs.declared.usage.ArgsEnd.TheVariants as args_end
use Rattle.word_values.specs.declared.usage.ValueEnd.{ValueEnd}
use Rattle.word_values.specs.declared.usage.ValueEnd.TheVariants as value_end

-- A call read the value that the definitions give as `meant`: it succeeds exactly if the argument has its form. Out of memory, nothing is promised.
-- Contracts of all readers of an option's value promise it.
abbrev pub ReadsValue : {X : Type 0} → Result X ValueEnd → Option X → Type 0
ReadsValue (Ok x) meant = meant ≡ Some x
ReadsValue (Err value_end.Bad) meant = meant ≡ None
ReadsValue (Err value_end.Memory) meant = Unit {0}

-- The result of parsing, seen through `view`, has the value that the definitions give as `meant`, or the same first wrong argument with its reason.
-- Out of memory, nothing is promised. Contracts of parsers promise it for values by reference.
abbrev pub TellsOf : {X Y : Type 0} → (X → Y) → Result X ArgsEnd → Result Y Usage → Type 0
TellsOf view (Ok x) meant = meant ≡ Ok (view x)
TellsOf view (Err (args_end.Usage usage)) meant = meant ≡ Err usage
TellsOf view (Err args_end.Memory) meant = Unit {0}

-- The code's `result` of parsing has the value that the definitions give as `meant`, or the same first wrong argument with its reason. Out of memory,
-- nothing is promised. Contracts of parsers promise it.
abbrev pub Tells : {X : Type 0} → Result X ArgsEnd → Result X Usage → Type 0
Tells {X} result meant = TellsOf (λ (x : X). x) result meant

-- the refusal of the argument with the index `word`, from 0, for the reason `why`. The definitions of all commands refuse with it. Used by `due`,
-- `file_at` and others.
abbrev pub wrong : {X : Type 0} → ℕ → Why → Result X Usage
wrong word why = Err (record { word = word; why = why })

-- the refusal of the argument with the index `word`, from 0, for the reason `why`, as a result of the code. The contract of `refused` promises it.
abbrev pub refuses : {X : Type 0} → ℕ → Why → Result X ArgsEnd
refuses word why = Err (args_end.Usage (record { word = word; why = why }))

-- the next step, if nothing was wrong before
infixl 10 ◌>>=◌
-- the next step `f` of parsing with the value, or the refusal of a previous step, in the definitions of commands
abbrev pub ◌>>=◌ : {A B : Type 0} → Result A Usage → (A → Result B Usage) → Result B Usage
(Ok x) >>= f = f x
(Err e) >>= f = Err e
