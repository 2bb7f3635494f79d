-- The value of all digits is the value of the digits already read, and then of the rest.
use Rattle.std.proofs.Common.{◌≡◌, ◌^◌, ◌<◌, drop}
use Rattle.requests.specs.Decimal.{below, whole}
use Rattle.requests.proofs.DecimalLemmas.{read_on}
use Rattle.requests.proofs.decimal.whole.Given as goal

abbrev pub invariant-loop-octet : goal.invariant-loop-octet
invariant-loop-octet l = record {
  small : l.value < 2 ^ 64;
  left : below (2 ^ 64) (read_on l.value (drop l.octet-index l.word)) ≡ below (2 ^ 64) (whole l.word);
}
