-- The contents of outputs that grow side by side and aren't finished.
use Rattle.std.specs.Prelude.{◌≡◌, ℕ, ◌++◌, List, [], ◌∷◌}
use Rattle.mkv_io.specs.Names.{Names}
use Rattle.mkv_outputs.specs.Outputs.{Output, with_outputs}

-- The bytes `start` are a prefix of the bytes `all`. Used for outputs that aren't finished.
pub record IsStart (start all : List ℕ) : Type 0 where
  pub rest : List ℕ
  pub whole : all ≡ start ++ rest

-- The output `o` has the name of `whole`, and a prefix of its bytes. Used by `AreBegun`.
pub record IsBegun (o whole : Output) : Type 0 where
  pub name : o.name ≡ whole.name
  pub content : IsStart o.content whole.content

-- The outputs of the first list are the first outputs of the second, each with a prefix of its bytes. Used by `ArePrefixes`.
abbrev pub AreBegun : List Output → List Output → Type 0
AreBegun [] all = Unit {0}
AreBegun (o ∷ os) [] = ⊥
AreBegun (o ∷ os) (whole ∷ all) = IsBegun o whole × AreBegun os all

-- From `old` to `new` some first outputs of the list `all` were written in part, and no other name has changed. The contract of `extract` uses it for
-- a failure.
pub record ArePrefixes (old new : Names) (all : List Output) : Type 0 where
  pub stand : List Output
  pub begun : AreBegun stand all
  pub names : new ≡ with_outputs old stand
