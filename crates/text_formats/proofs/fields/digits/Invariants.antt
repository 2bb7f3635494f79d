-- The value of all digits is the value of the digits already read, and then of the rest.
use Rattle.std.proofs.Common.{◌≡◌, ◌^◌, ◌<◌, drop}
use Rattle.text_formats.proofs.FieldsLemmas.{read_on}
use Rattle.text_formats.specs.Fields as spec
use Rattle.text_formats.proofs.fields.digits.Given as goal

abbrev pub invariant-loop-octet : goal.invariant-loop-octet
invariant-loop-octet l = record {
  small : l.value < 10 ^ l.octet-index;
  left : read_on l.value (drop l.octet-index l.word) ≡ spec.digits l.least l.most l.word;
}
