-- Laws on bytes that are appended in sequence, and on the plan that is stored.
use Rattle.std.proofs.Common.{◌≡◌, ℕ, ◌-◌, List, ◌++◌, length, drop, ◌∙◌, ap, append_assoc, arith}
use Rattle.std.proofs.lemmas.List.{drop_at}
use Rattle.sidecar_edit.specs.declared.place.TheConstants.{HEAD}
use Rattle.sidecar_edit.specs.Fields.{Head, IsPlan, IsSound, Planned, body_of, head_octets}
use Rattle.sidecar_edit.proofs.RecordLemmas.{length-padded}

-- Two appends in sequence are one append of both.
pub more : (a b x p q : List ℕ) → a ≡ x ++ p → b ≡ a ++ q → b ≡ x ++ (p ++ q)
more a b x p q first second = second ∙ ap (λ l. l ++ q) first ∙ append_assoc x p q

pub length-head_octets : (h : Head) → IsSound h → length (head_octets h) ≡ HEAD - 1
length-head_octets h sound = let size = length-padded h sound in omega arith

-- A record that is built is stored as its plan.
pub recorded : (p : Planned) (octets : List ℕ) → IsPlan p → octets ≡ body_of p → drop (HEAD - 1) octets ≡ p.payload
recorded p octets plan is = ap (drop (HEAD - 1)) is ∙ drop_at (head_octets p.head) p.payload (HEAD - 1) (length-head_octets p.head plan.sound)
