-- The written bytes are a lace, which is read back.
use Rattle.lacing.proofs.WritingLemmas.{IsLace-octets, lace_in-octets}
use Rattle.lacing.proofs.writing.put_lace.Goals as goal

pub returns-clause-lace : goal.returns-clause-lace
returns-clause-lace c =
    rw (c.put_spelled.ensures, c.explicit_sizes.ensures) (IsLace-octets c.args.kind c.args.sizes.now c.requires.can)

pub returns-clause-read : goal.returns-clause-read
returns-clause-read c = λ frames fits.
    rw (c.put_spelled.ensures, c.explicit_sizes.ensures) (lace_in-octets c.args.kind c.args.sizes.now frames c.requires.can fits)
