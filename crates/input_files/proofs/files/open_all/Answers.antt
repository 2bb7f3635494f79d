use Rattle.std.proofs.Common.{List, [], ◌∷◌, ◌++◌, ℕ, ◌+◌, take, map, sym, ◌∙◌, ap, subst}
use Rattle.std.proofs.lemmas.List.{take_all}
use Rattle.mkv_io.specs.Names.{AreOthers}
use Rattle.mkv_io.specs.Sources.{live_files}
use Rattle.mkv_io.proofs.AskedLemmas.{asks-opened}
use Rattle.mkv_io.proofs.WritingLemmas.{UsesOnly-more}
use Rattle.mkv_outputs.specs.Sinks.{EndsOnly}
use Rattle.input_files.specs.Inputs.{OpensInputs, contents_of}
use Rattle.input_files.proofs.InputsLemmas.{OpensInputs-more, UsesOnly-unopened, end-as-begun}
use Rattle.input_files.proofs.NamesLemmas.{contents-named, missing-passed, names-more, others-first}
use Rattle.input_files.proofs.files.open_all.Goals as goal

-- The open files are closed again.
pub returns-in-Err-clause-refused : goal.returns-in-Err-clause-refused
returns-in-Err-clause-refused g c =
    let names = c.args.names.now in
    let name = c.as_str.result.now in
    let before = take c.loop-k.k names in
    let fault = c.in-Err.ensures.err in
    let more = names-more names c.loop-k.k c.index-names-k.result name c.loop-k-test.true c.index-names-k.is c.as_str.ensures.same in
    UsesOnly-more g.F.Reads g.F.Files (before ++ name ∷ []) [] names [] c.args.files.now c.close_all.new.files
    (λ other others. subst (AreOthers other) more (others-first other names (c.loop-k.k + 1) others)) (λ other others. others)
    (end-as-begun g.F.Reads g.F.Files g.met.F.Files.numbered before (name ∷ []) []
    c.args.files.now c.loop-k.files c.open_file.new.self c.close_all.new.files c.loop-k.ids.items
    c.loop-k.invariant.opens
    (UsesOnly-unopened g.F.Reads g.F.Files name c.loop-k.files c.open_file.new.self fault
    (g.met.F.Files.given_stands c.open_file.new.self c.loop-k.files fault) c.open_file.ensures.stays.holders
    (asks-opened name [] (g.F.Files.asked c.loop-k.files) (g.F.Files.asked c.open_file.new.self) c.open_file.result c.open_file.ensures.asks))
    (subst (EndsOnly g.F.Reads g.F.Files c.open_file.new.self c.close_all.new.files) c.as_slice.ensures.value c.close_all.ensures))

-- One more file is open.
pub loop-k-preserved : goal.loop-k-preserved
loop-k-preserved g c = record {
  opens =
      subst (OpensInputs g.F.Reads g.F.Files (take (c.loop-k.k + 1) c.args.names.now) c.args.files.now c.open_file.new.self) (sym c.push_reserved.ensures.items)
      (subst (λ (names : List (List ℕ)). OpensInputs g.F.Reads g.F.Files names c.args.files.now c.open_file.new.self (c.loop-k.ids.items ++ c.in-Ok.file ∷ []))
      (sym (names-more c.args.names.now c.loop-k.k c.index-names-k.result c.as_str.result.now c.loop-k-test.true c.index-names-k.is c.as_str.ensures.same))
      (OpensInputs-more g.F.Reads g.F.Files (take c.loop-k.k c.args.names.now) c.as_str.result.now c.args.files.now c.loop-k.files c.open_file.new.self c.loop-k.ids.items c.in-Ok.file
      g.met.F.Files.numbered c.loop-k.invariant.opens (record {
        least = c.in-Ok.ensures.opened.is_new.number.0;
        most = c.in-Ok.ensures.opened.is_new.number.1;
        live = c.in-Ok.ensures.opened.is_new.live;
        alone = c.in-Ok.ensures.opened.is_new.alone;
        holder = c.in-Ok.ensures.opened.is_new.holder;
        holders = c.open_file.ensures.stays.holders;
        others = c.open_file.ensures.stays.others;
        asks = asks-opened c.as_str.result.now [] (g.F.Files.asked c.loop-k.files) (g.F.Files.asked c.open_file.new.self) c.open_file.result c.open_file.ensures.asks;
      })));
  missing = λ world told.
      c.loop-k.invariant.missing world told
      ∙ missing-passed world c.args.names.now c.loop-k.k c.index-names-k.result c.loop-k-test.true c.index-names-k.is
      (λ none. let refused = (c.in-Ok.ensures.missing world (c.loop-k.invariant.same.names ∙ told)).1 (ap world c.as_str.ensures.same ∙ none) in absurd (cc));
  same = record {
    names = c.open_file.ensures.stays.names ∙ c.loop-k.invariant.same.names;
    writing = c.open_file.ensures.stays.counts.writing ∙ c.loop-k.invariant.same.writing;
    octets = c.open_file.ensures.stays.counts.octets ∙ c.loop-k.invariant.same.octets;
  };
  count = c.push_reserved.ensures.len ∙ ap (λ (n : ℕ). n + 1) c.loop-k.invariant.count;
  room = c.push_reserved.ensures.capacity ∙ c.loop-k.invariant.room;
  reading = c.in-Ok.ensures.cause ∙ c.loop-k.invariant.reading;
}

-- The contents are the names'.
pub returns-clause-contents : goal.returns-clause-contents
returns-clause-contents g c = λ world told.
    let held = c.loop-k.invariant.opens.inputs in
    ap (contents_of (live_files g.F.Reads c.loop-k.files).content) c.from_vec.ensures
    ∙ contents-named (live_files g.F.Reads c.loop-k.files).live (live_files g.F.Reads c.loop-k.files).content (g.F.Files.holder c.loop-k.files) world c.loop-k.ids.items
    (λ file live. g.met.F.Files.named c.loop-k.files file live world (c.loop-k.invariant.same.names ∙ told)) held.live
    ∙ ap (map world) (held.under ∙ take_all c.loop-k.k c.args.names.now c.loop-k-test.false)
