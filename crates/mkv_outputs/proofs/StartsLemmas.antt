-- Laws on prefixes of outputs, for a caller that stops in the middle.
use Rattle.std.proofs.Common.{◌≡◌, ℕ, zero, suc, List, [], ◌∷◌, ◌++◌, refl, sym, ◌∙◌, ap, append_assoc, append-nil}
use Rattle.mkv_io.specs.Names.{Names}
use Rattle.mkv_outputs.specs.Outputs.{Output, with_more}
use Rattle.mkv_outputs.specs.Starts.{AreBegun, IsBegun, IsStart, ArePrefixes}

-- A prefix of a prefix is a prefix.
pub IsStart-then : (a b c : List ℕ) → IsStart a b → IsStart b c → IsStart a c
IsStart-then a b c one two = record {
  rest = one.rest ++ two.rest;
  whole = two.whole ∙ ap (λ (octets : List ℕ). octets ++ two.rest) one.whole ∙ append_assoc a one.rest two.rest;
}

-- An output is a prefix of itself.
pub IsBegun-whole : (o : Output) → IsBegun o o
IsBegun-whole o = record { name = refl; content = record { rest = []; whole = sym (append-nil o.content) } }

-- A list of prefixes of prefixes is a list of prefixes.
pub AreBegun-then : (a b c : List Output) → AreBegun a b → AreBegun b c → AreBegun a c
AreBegun-then [] b c one two = tt
AreBegun-then (o ∷ os) [] c one two = absurd one
AreBegun-then (o ∷ os) (p ∷ ps) [] one two = absurd two
AreBegun-then (o ∷ os) (p ∷ ps) (q ∷ qs) one two =
    (record { name = one.0.name ∙ two.0.name; content = IsStart-then o.content p.content q.content one.0.content two.0.content }, AreBegun-then os ps qs one.1 two.1)

-- Finished outputs are prefixes of themselves.
pub AreBegun-whole : (outputs : List Output) → AreBegun outputs outputs
AreBegun-whole [] = tt
AreBegun-whole (o ∷ os) = (IsBegun-whole o, AreBegun-whole os)

-- An output is a prefix of itself with more bytes.
pub AreBegun-more : (k : ℕ) (more : List ℕ) (outputs : List Output) → AreBegun outputs (with_more k more outputs)
AreBegun-more k more [] = tt
AreBegun-more zero more (o ∷ os) = (record { name = refl; content = record { rest = more; whole = refl } }, AreBegun-whole os)
AreBegun-more (suc k) more (o ∷ os) = (IsBegun-whole o, AreBegun-more k more os)

-- Prefixes of some outputs are prefixes of longer ones.
pub ArePrefixes-then : (old new : Names) (some all : List Output) → ArePrefixes old new some → AreBegun some all → ArePrefixes old new all
ArePrefixes-then old new some all stands begun = record { stand = stands.stand; begun = AreBegun-then stands.stand some all stands.begun begun; names = stands.names }

-- An output that is given more bytes later.
pub ArePrefixes-more : (old new : Names) (k : ℕ) (more : List ℕ) (outputs : List Output) → ArePrefixes old new outputs → ArePrefixes old new (with_more k more outputs)
ArePrefixes-more old new k more outputs stands = ArePrefixes-then old new outputs (with_more k more outputs) stands (AreBegun-more k more outputs)

-- Prefixes of outputs are prefixes of a longer list of outputs.
pub AreBegun-before : (stand all more : List Output) → AreBegun stand all → AreBegun stand (all ++ more)
AreBegun-before [] all more begun = tt
AreBegun-before (o ∷ os) [] more begun = absurd begun
AreBegun-before (o ∷ os) (whole ∷ all) more begun = (begun.0, AreBegun-before os all more begun.1)

-- Files with prefixes of outputs have prefixes of a longer list of outputs.
pub ArePrefixes-before : (old new : Names) (all more : List Output) → ArePrefixes old new all → ArePrefixes old new (all ++ more)
ArePrefixes-before old new all more stands = record { stand = stands.stand; begun = AreBegun-before stands.stand all more stands.begun; names = stands.names }
