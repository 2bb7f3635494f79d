-- Outputs: files that get a content.
use Rattle.std.specs.Prelude.{ℕ, zero, suc, ◌++◌, List, [], ◌∷◌, map}
use Rattle.mkv_io.specs.Names.{Names, with_content}

-- an output: the name of its file, and the content that it gets. Outcomes of `merge` and `extract` have a list of them.
pub record Output : Type 0 where
  pub name : List ℕ
  pub content : List ℕ

-- the output `name` that was created and has no bytes yet. `with_empty` uses it.
abbrev pub empty : List ℕ → Output
empty name = record { name = name; content = [] }

-- the names of the outputs `outputs`, in order. `HaveBeenGiven` uses them.
abbrev pub names_of : List Output → List (List ℕ)
names_of outputs = map (λ (o : Output). o.name) outputs

-- the given names after each of the outputs was written, in order. Contracts of `merge` and `extract` describe the files after them so.
abbrev pub with_outputs : Names → List Output → Names
with_outputs names [] = names
with_outputs names (o ∷ os) = with_outputs (with_content names o.name o.content) os

-- the outputs `outputs` with one more at the end, `name`, which is empty. Used by the contract of `Outputs::add`.
abbrev pub with_empty : List ℕ → List Output → List Output
with_empty name outputs = outputs ++ empty name ∷ []

-- the output `o` with the bytes `more` appended. `with_more` uses it.
abbrev pub with_end : List ℕ → Output → Output
with_end more o = record { name = o.name; content = o.content ++ more }

-- the given outputs, with the bytes `more` appended to the one with the number `k`, counted from 0. Used by the contract of `Outputs::write`.
abbrev pub with_more : ℕ → List ℕ → List Output → List Output
with_more k more [] = []
with_more zero more (o ∷ os) = with_end more o ∷ os
with_more (suc k) more (o ∷ os) = o ∷ with_more k more os
