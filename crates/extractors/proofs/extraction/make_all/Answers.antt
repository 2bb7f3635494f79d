use Rattle.std.proofs.Common.{◌≡◌, ◌<◌, ◌+◌, ℕ, List, [], true, length, take, sym, ◌∙◌, subst, arith}
use Rattle.mkv_io.specs.Names.{AreOthers}
use Rattle.mkv_outputs.specs.Outputs.{with_empty}
use Rattle.mkv_outputs.specs.Sinks.{HaveBeenGiven, names_under}
use Rattle.mkv_outputs.specs.Starts.{AreBegun, ArePrefixes}
use Rattle.mkv_outputs.proofs.FilesLemmas.{MadeSince-added, MadeSince-written}
use Rattle.mkv_outputs.proofs.GivenLemmas.{HaveBeenGiven-count}
use Rattle.mkv_outputs.proofs.StartsLemmas.{ArePrefixes-then}
use Rattle.extractors.specs.Content.{names_in, outputs_of}
use Rattle.extractors.proofs.MakeLemmas.{MakesOutputs-err, count-next, made-among, made-apart, made-begun, made-next-as, made-other, outputs_of-first}
use Rattle.extractors.proofs.extraction.make_all.Goals as goal

-- The next name differs from the others.
pub add-requires-clause-apart : goal.add-requires-clause-apart
add-requires-clause-apart g c =
    let below : c.loop-k.k < length c.args.list.now = omega (arith, c.loop-k-test.true) in
    subst (λ (name : List ℕ). AreOthers name (names_under g.F.Files c.loop-k.files c.loop-k.outputs)) (sym c.as_str.ensures.same)
    (made-apart (g.F.Files.names c.args.files.now) (g.F.Files.names c.loop-k.files) (g.F.Files.holder c.loop-k.files) c.loop-k.outputs c.args.list.now c.loop-k.k c.index-list-k.result
    c.loop-k.invariant.has c.requires.apart below c.index-list-k.is)

-- The output wasn't created.
pub returns-in_err-add-clause-makes : goal.returns-in_err-add-clause-makes
returns-in_err-add-clause-makes g c =
    let below : c.loop-k.k < length c.args.list.now = omega (arith, c.loop-k-test.true) in
    let since = g.F.Files.names c.args.files.now in
    let first = outputs_of (take c.loop-k.k c.args.list.now) [] in
    MakesOutputs-err g.F.Files c.args.files.now c.add.new.files c.add.new.self (outputs_of c.args.list.now []) c.from_residual.result c.from_residual.ensures.0
    (ArePrefixes-then since (g.F.Files.names c.add.new.files) (with_empty c.as_str.result.now first) (outputs_of c.args.list.now []) (c.in_err-add.ensures.gives since first c.loop-k.invariant.has)
    (subst (λ (name : List ℕ). AreBegun (with_empty name first) (outputs_of c.args.list.now [])) (sym c.as_str.ensures.same) (made-begun c.args.list.now c.loop-k.k c.index-list-k.result below c.index-list-k.is)))

-- No other name was changed.
pub returns-in_err-add-clause-made : goal.returns-in_err-add-clause-made
returns-in_err-add-clause-made g c =
    let below : c.loop-k.k < length c.args.list.now = omega (arith, c.loop-k-test.true) in
    MadeSince-added g.F.Reads g.F.Files (names_in c.args.list.now) c.as_str.result.now c.args.files.now c.loop-k.files c.add.new.files c.loop-k.outputs c.add.new.self
    (λ file live. g.met.F.Files.numbered c.args.files.now file live)
    (λ other others same. made-other c.args.list.now c.loop-k.k c.index-list-k.result other below c.index-list-k.is others (same ∙ c.as_str.ensures.same))
    c.loop-k.invariant.made c.add.ensures.only

-- There is one output more than before.
pub write-requires-clause-below : goal.write-requires-clause-below
write-requires-clause-below g c =
    let since = g.F.Files.names c.args.files.now in
    let first = outputs_of (take c.loop-k.k c.args.list.now) [] in
    let below : c.loop-k.k < length c.args.list.now = omega (arith, c.loop-k-test.true) in
    let has = c.in_ok-add.ensures.gives since first c.loop-k.invariant.has in
    count-next c.args.list.now c.loop-k.k c.as_str.result.now below (length c.add.new.self) (HaveBeenGiven-count since _ _ _ _ has)

-- The first bytes were written in part.
pub returns-in_err-write-clause-makes : goal.returns-in_err-write-clause-makes
returns-in_err-write-clause-makes g c =
    let below : c.loop-k.k < length c.args.list.now = omega (arith, c.loop-k-test.true) in
    let since = g.F.Files.names c.args.files.now in
    let first = outputs_of (take c.loop-k.k c.args.list.now) [] in
    let has = c.in_ok-add.ensures.gives since first c.loop-k.invariant.has in
    MakesOutputs-err g.F.Files c.args.files.now c.write.new.files c.write.new.self (outputs_of c.args.list.now []) c.from_residual-in_err-write.result c.from_residual-in_err-write.ensures.0
    (ArePrefixes-then since (g.F.Files.names c.write.new.files) (outputs_of (take (c.loop-k.k + 1) c.args.list.now) []) (outputs_of c.args.list.now [])
    (subst (ArePrefixes since (g.F.Files.names c.write.new.files))
    (made-next-as c.args.list.now c.loop-k.k c.index-list-k.result c.as_str.result.now c.as_slice.result.now below c.index-list-k.is c.as_str.ensures.same c.as_slice.ensures)
    (c.in_err-write.ensures.gives since (with_empty c.as_str.result.now first) has))
    (outputs_of-first c.args.list.now (c.loop-k.k + 1) []))

pub returns-in_err-write-clause-made : goal.returns-in_err-write-clause-made
returns-in_err-write-clause-made g c =
    let below : c.loop-k.k < length c.args.list.now = omega (arith, c.loop-k-test.true) in
    let since = g.F.Files.names c.args.files.now in
    let first = outputs_of (take c.loop-k.k c.args.list.now) [] in
    let has = c.in_ok-add.ensures.gives since first c.loop-k.invariant.has in
    let numbered = λ (file : ℕ) (live : (g.F.Reads.files (g.F.Reads.standing c.args.files.now)).live file ≡ true). g.met.F.Files.numbered c.args.files.now file live in
    let made = MadeSince-added g.F.Reads g.F.Files (names_in c.args.list.now) c.as_str.result.now c.args.files.now c.loop-k.files c.add.new.files c.loop-k.outputs c.add.new.self numbered
    (λ other others same. made-other c.args.list.now c.loop-k.k c.index-list-k.result other below c.index-list-k.is others (same ∙ c.as_str.ensures.same))
    c.loop-k.invariant.made c.add.ensures.only in
    let begun = subst (λ (name : List ℕ). AreBegun (with_empty name first) (outputs_of c.args.list.now [])) (sym c.as_str.ensures.same) (made-begun c.args.list.now c.loop-k.k c.index-list-k.result below c.index-list-k.is) in
    MadeSince-written g.F.Reads g.F.Files (names_in c.args.list.now) c.args.files.now c.add.new.files c.write.new.files c.add.new.self c.write.new.self numbered
    (λ name others. made-among since (g.F.Files.names c.add.new.files) (g.F.Files.holder c.add.new.files) c.add.new.self c.args.list.now (with_empty c.as_str.result.now first) name has begun others)
    made c.write.ensures.only

-- A further output was created.
pub loop-k-preserved : goal.loop-k-preserved
loop-k-preserved g c =
    let below : c.loop-k.k < length c.args.list.now = omega (arith, c.loop-k-test.true) in
    let since = g.F.Files.names c.args.files.now in
    let first = outputs_of (take c.loop-k.k c.args.list.now) [] in
    let has = c.in_ok-add.ensures.gives since first c.loop-k.invariant.has in
    let numbered = λ (file : ℕ) (live : (g.F.Reads.files (g.F.Reads.standing c.args.files.now)).live file ≡ true). g.met.F.Files.numbered c.args.files.now file live in
    let made = MadeSince-added g.F.Reads g.F.Files (names_in c.args.list.now) c.as_str.result.now c.args.files.now c.loop-k.files c.add.new.files c.loop-k.outputs c.add.new.self numbered
    (λ other others same. made-other c.args.list.now c.loop-k.k c.index-list-k.result other below c.index-list-k.is others (same ∙ c.as_str.ensures.same))
    c.loop-k.invariant.made c.add.ensures.only in
    let begun = subst (λ (name : List ℕ). AreBegun (with_empty name first) (outputs_of c.args.list.now [])) (sym c.as_str.ensures.same) (made-begun c.args.list.now c.loop-k.k c.index-list-k.result below c.index-list-k.is) in
    record {
      has = subst (HaveBeenGiven since (g.F.Files.names c.write.new.files) (g.F.Files.holder c.write.new.files) c.write.new.self)
          (made-next-as c.args.list.now c.loop-k.k c.index-list-k.result c.as_str.result.now c.as_slice.result.now below c.index-list-k.is c.as_str.ensures.same c.as_slice.ensures)
          (c.in_ok-write.ensures.gives since (with_empty c.as_str.result.now first) has);
      outputs = c.write.ensures.only.outputs;
      made = MadeSince-written g.F.Reads g.F.Files (names_in c.args.list.now) c.args.files.now c.add.new.files c.write.new.files c.add.new.self c.write.new.self numbered
          (λ name others. made-among since (g.F.Files.names c.add.new.files) (g.F.Files.holder c.add.new.files) c.add.new.self c.args.list.now (with_empty c.as_str.result.now first) name has begun others)
          made c.write.ensures.only;
      writing = c.in_ok-write.ensures.cause ∙ c.in_ok-add.ensures.cause ∙ c.loop-k.invariant.writing;
      reading = c.write.ensures.only.only.reading ∙ c.add.ensures.only.reading ∙ c.loop-k.invariant.reading;
      octets = c.write.ensures.only.only.octets ∙ c.add.ensures.only.octets ∙ c.loop-k.invariant.octets;
    }
