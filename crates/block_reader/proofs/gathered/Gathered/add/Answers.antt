use Rattle.std.proofs.Common.{refl, ap, ◌∙◌}
use Rattle.ebml_numbers.specs.Number.{uint_of}
use Rattle.block_reader.proofs.GroupLemmas.{duration-short, reference-short, Gathers-block, Gathers-duration, Gathers-kept, Gathers-left_out}
use Rattle.block_reader.proofs.gathered.Gathered.add.Goals as goal

pub returns-in-Block-clause-exact : goal.returns-in-Block-clause-exact
returns-in-Block-clause-exact c = λ bytes before value octets gathers.
    Gathers-block bytes before c.args.self.now c.args.child.now _ c.in-Block.ensures c.or-self.ensures gathers

-- An integer has at most eight bytes.
pub read_uint-requires : goal.read_uint-requires
read_uint-requires c = duration-short c.args.value.now (rw c.in-Duration.ensures at c.requires)

pub read_int-requires : goal.read_int-requires
read_int-requires c = reference-short c.args.value.now (rw c.in-Reference.ensures at c.requires)

pub returns-in-Duration-clause-exact : goal.returns-in-Duration-clause-exact
returns-in-Duration-clause-exact c = λ bytes before value octets gathers.
    Gathers-duration bytes before c.args.self.now c.args.child.now _ c.read_uint.result c.in-Duration.ensures (c.read_uint.ensures.exact ∙ ap uint_of value) c.or-self-in-Duration.ensures gathers

pub returns-in_ok-extend_from_slice-in-Kept-clause-exact :
    goal.returns-in_ok-extend_from_slice-in-Kept-clause-exact
returns-in_ok-extend_from_slice-in-Kept-clause-exact c = λ bytes before value octets gathers.
    Gathers-kept bytes before c.args.self.now _ c.args.child.now c.args.octets.now c.in-Kept.ensures octets refl refl refl refl c.in_ok-extend_from_slice-in-Kept.ensures.items gathers

pub returns-in-LeftOut-clause-exact : goal.returns-in-LeftOut-clause-exact
returns-in-LeftOut-clause-exact c = λ bytes before value octets gathers.
    Gathers-left_out bytes before c.args.self.now c.args.child.now c.in-LeftOut.ensures gathers
