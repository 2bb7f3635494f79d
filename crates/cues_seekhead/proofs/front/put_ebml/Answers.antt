use Rattle.ebml_numbers.specs.Number.{uint_width, least_size_width}
use Rattle.cues_seekhead.proofs.front.put_ebml.Goals as goal

pub returns-in_ok-append : goal.returns-in_ok-append
unfolding uint_width least_size_width
returns-in_ok-append c = record { ok = rw c.if-webm.true c.in_ok-append.ensures.ok }

pub returns-in_ok-append-2 : goal.returns-in_ok-append-2
unfolding uint_width least_size_width
returns-in_ok-append-2 c = record { ok = rw c.if-webm.false c.in_ok-append-2.ensures.ok }
