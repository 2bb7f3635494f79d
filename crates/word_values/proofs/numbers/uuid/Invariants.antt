-- The value of all digits is the value of the digits already read, and then of the rest.
use Rattle.std.proofs.Common.{◌≡◌, ◌^◌, ◌<◌, drop}
use Rattle.word_values.proofs.NumbersLemmas.{hex_on}
use Rattle.word_values.proofs.numbers.uuid.Given as goal

abbrev pub invariant-loop-octet : goal.invariant-loop-octet
invariant-loop-octet l = record {
  small : l.value < 16 ^ l.octet-index;
  left : hex_on l.value (drop l.octet-index l.word) ≡ hex_on 0 l.word;
}
