-- Bytes that are appended in sequence.
use Rattle.std.proofs.Common.{ℕ, List, ◌++◌, append_assoc, ap, ◌∙◌, arith}
use Rattle.std.proofs.lemmas.List.{length-append}
use Rattle.std.specs.declared.alloc.Global.{Global}
use Rattle.std.specs.declared.vec.Vec.{Vec}
use Rattle.cluster_writer.specs.Room.{Adds}

pub Adds-two : (old mid new : Vec ℕ Global) (a b : List ℕ) → Adds old mid a → Adds mid new b → Adds old new (a ++ b)
Adds-two old mid new a b first second = record {
  items = second.items ∙ ap (λ w. w ++ b) first.items ∙ append_assoc old.items a b;
  len = omega (arith, first.len, second.len, length-append a b);
  capacity = omega (arith, first.capacity, second.capacity);
}
