-- A valid ID is read back.
use Rattle.std.proofs.Common.{◌++◌, ◌∙◌, Ok, ap, sym}
use Rattle.ebml_numbers.specs.Number.{id_at, uint_octets, uint_width}
use Rattle.ebml_numbers.proofs.NumberLemmas.{id_at-octets}
use Rattle.ebml_numbers.proofs.writing.put_id.Goals as goal

pub returns-clause-read : goal.returns-clause-read
returns-clause-read c = λ rest valid.
    ap (λ o. id_at (o ++ rest)) (c.put_uint.ensures.exact ∙ ap uint_octets c.from.ensures)
    ∙ id_at-octets c.args.id rest valid
    ∙ ap (λ w. Ok (record { id = c.args.id; len = w })) (sym (c.put_uint.ensures.len ∙ ap uint_width c.from.ensures))
