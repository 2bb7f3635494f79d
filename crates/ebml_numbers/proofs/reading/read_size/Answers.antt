-- The result is the definition's, and each clause is a law on it.
use Rattle.std.proofs.Common.{◌∙◌, sym}
use Rattle.ebml_numbers.proofs.NumberLemmas.{size_at-found, size_at-more, size_at-is_cut, size_at-zero, size_at-is_zero, size_at-eight, size_at-append}
use Rattle.ebml_numbers.proofs.reading.read_size.Goals as goal

pub returns-clause-found : goal.returns-clause-found
returns-clause-found c = rw c.first_size.ensures (size_at-found c.args.bytes.now)

pub returns-clause-more : goal.returns-clause-more
returns-clause-more c = λ n.
    (λ more. size_at-more n c.args.bytes.now (sym c.first_size.ensures ∙ more), λ cut. c.first_size.ensures ∙ size_at-is_cut n c.args.bytes.now cut)

pub returns-clause-bad : goal.returns-clause-bad
returns-clause-bad c =
    (λ bad. size_at-zero c.args.bytes.now (sym c.first_size.ensures ∙ bad), λ zero. c.first_size.ensures ∙ size_at-is_zero c.args.bytes.now zero)

pub returns-clause-eight : goal.returns-clause-eight
returns-clause-eight c = λ eight. rw c.first_size.ensures (size_at-eight c.args.bytes.now eight)

pub returns-clause-settled : goal.returns-clause-settled
returns-clause-settled c = λ rest settled.
    size_at-append c.args.bytes.now rest (rw (← c.first_size.ensures) settled) ∙ sym c.first_size.ensures
