use Rattle.std.proofs.Common.{◌≡◌, ℕ, List, [], ◌∷◌, All, Ok, Err, length, sym, ◌∙◌, ap, ap₂, subst}
use Rattle.std.proofs.lemmas.Result.{err_from_is_err_and}
use Rattle.mkv_io.specs.Faults.{counted}
use Rattle.mkv_io.specs.Sources.{live_files}
use Rattle.mkv_io.specs.Writing.{KeepsOthers}
use Rattle.mkv_io.proofs.WritingLemmas.{KeepsOthers-none}
use Rattle.mkv_outputs.proofs.DraftsLemmas.{AreWrittenInOrder-none}
use Rattle.tree_format.specs.Node.{IsMaster, Node, id_of}
use Rattle.cues_seekhead.specs.OpenOutput.{CanAttach}
use Rattle.time_merge.specs.Laws.{IsApart}
use Rattle.remux_plan.specs.Uuids.{uuids_at, with_uuids}
use Rattle.remux_plan.specs.declared.output.OutputSpec.{OutputSpec}
use Rattle.remux_plan.specs.declared.summary.Written.{Written}
use Rattle.remux_plan.specs.declared.uuids.PartUuids.{PartUuids}
use Rattle.remuxer.specs.Output.{CountsPart, WritesPart, own_name, own_spec}
use Rattle.remuxer.specs.Places.{part_in}
use Rattle.remuxer.specs.declared.output.WrittenPart.{WrittenPart}
use Rattle.remuxer.proofs.InfoLemmas.{with-id, with-master}
use Rattle.remuxer.proofs.parts.write_own.Given.{Over}
use Rattle.remuxer.proofs.parts.write_own.Goals as goal
use Rattle.remuxer.proofs.parts.write_own.Goals.{After-write_output}

-- There is no memory for its name.
pub returns-in_err-name-clause-writes : goal.returns-in_err-name-clause-writes
returns-in_err-name-clause-writes g c = λ told.
    let end = err_from_is_err_and c.from_residual.result c.from_residual.ensures.1 in
    rw end.1 (AreWrittenInOrder-none (g.F.Files.names c.args.files.now) _)

pub returns-in_err-name-clause-kept : goal.returns-in_err-name-clause-kept
returns-in_err-name-clause-kept g c = KeepsOthers-none g.F.Reads g.F.Files _ c.args.files.now

pub write_output-requires : goal.write_output-requires
write_output-requires g c =
    let plain = c.args.spec.now.front.info in
    let made : c.replace-plain.new.dest ≡ with_uuids c.uuids_at-uuids.result plain = c.replace-plain.ensures.after ∙ c.in_ok-info.ensures in
    let named : c.as_str.result.now ≡ own_name c.args.spec.now c.args.number = c.as_str.ensures.same ∙ c.in_ok-name.ensures in
    let has = c.requires.records in
    record {
      gives = c.requires.gives;
      begun = c.requires.begun;
      scale = c.requires.scale;
      apart = subst (λ (n : List ℕ). IsApart (g.F.Files.holder c.args.files.now) (n ∷ []) c.args.blocks.now.merge) (sym named) c.requires.apart;
      records = record {
        info = ap id_of made ∙ with-id c.uuids_at-uuids.result plain ∙ has.info;
        info_master = subst IsMaster (sym made) (with-master c.uuids_at-uuids.result plain has.info_master);
        tracks = has.tracks;
        attached = subst (λ (n : List ℕ). All (CanAttach g.F.Reads g.F.Files c.args.files.now n) c.args.spec.now.front.attachments) (sym named) has.attached;
        chapters = has.chapters;
        tags = has.tags;
      };
    }

-- ---- it was written

named : (g : Over) (c : After-write_output g) → c.as_str.result.now ≡ own_name c.args.spec.now c.args.number
named g c = c.as_str.ensures.same ∙ c.in_ok-name.ensures

-- The output has its own identifiers.
own : (g : Over) (c : After-write_output g) → (let o : OutputSpec = record c.args.spec.now { front = record c.args.spec.now.front { info = c.replace-plain.new.dest } } in o) ≡ own_spec c.args.spec.now c.args.number
own g c =
    let spec = c.args.spec.now in
    ap (λ (n : Node). let o : OutputSpec = record spec { front = record spec.front { info = n } } in o)
    (c.replace-plain.ensures.after ∙ c.in_ok-info.ensures ∙ ap (λ (u : PartUuids). with_uuids u spec.front.info) (c.uuids_at-uuids.ensures ∙ ap (λ (us : List ℕ). uuids_at us spec.link c.args.number) c.as_slice.ensures))

kept-own : (g : Over) (c : After-write_output g) → KeepsOthers g.F.Reads g.F.Files (c.as_str.result.now ∷ []) c.args.files.now c.write_output.new.files → KeepsOthers g.F.Reads g.F.Files (own_name c.args.spec.now c.args.number ∷ []) c.args.files.now c.write_output.new.files
kept-own g c = subst (λ (n : List ℕ). KeepsOthers g.F.Reads g.F.Files (n ∷ []) c.args.files.now c.write_output.new.files) (named g c)

-- The output couldn't be written.
pub returns-in_err-done-clause-writes : goal.returns-in_err-done-clause-writes
returns-in_err-done-clause-writes g c =
    let end = err_from_is_err_and c.from_residual-in_err-done.result c.from_residual-in_err-done.ensures.1 in
    let after = (goal.at.returns-in_err-done-clause-writes g c).After-write_output in
    rw end.1 (subst (λ (n : List ℕ). WritesPart {T = Written} g.F.Reads g.F.Files c.args.files.now c.write_output.new.files (own_spec c.args.spec.now c.args.number) n c.args.blocks.now (Err c.in_err-done.field-0.0)) (named g after)
    (subst (λ (o : OutputSpec). WritesPart {T = WrittenPart} g.F.Reads g.F.Files c.args.files.now c.write_output.new.files o c.as_str.result.now c.args.blocks.now (Err c.in_err-done.field-0.0)) (own g after) c.in_err-done.ensures.writes))

pub returns-in_err-done-clause-kept : goal.returns-in_err-done-clause-kept
returns-in_err-done-clause-kept g c = kept-own g (goal.at.returns-in_err-done-clause-kept g c).After-write_output c.in_err-done.ensures.kept

-- The output is complete.
pub returns-clause-writes : goal.returns-clause-writes
returns-clause-writes g c =
    let after = (goal.at.returns-clause-writes g c).After-write_output in
    subst (λ (n : List ℕ). WritesPart {T = WrittenPart} g.F.Reads g.F.Files c.args.files.now c.write_output.new.files (own_spec c.args.spec.now c.args.number) n c.args.blocks.now (Ok c.in_ok-done.done)) (named g after)
    (subst (λ (o : OutputSpec). WritesPart {T = WrittenPart} g.F.Reads g.F.Files c.args.files.now c.write_output.new.files o c.as_str.result.now c.args.blocks.now (Ok c.in_ok-done.done)) (own g after) c.in_ok-done.ensures.writes)

pub returns-clause-finds : goal.returns-clause-finds
returns-clause-finds g c =
    let after = (goal.at.returns-clause-finds g c).After-write_output in
    let f = live_files g.F.Reads c.args.files.now in
    let done = c.in_ok-done.done in
    record {
      told = λ told.
          let wrote = subst (λ (o : OutputSpec). CountsPart f (live_files g.F.Reads c.write_output.new.files) o c.args.blocks.now c.write_output.new.blocks done) (own g after) (c.in_ok-done.ensures.finds.told told) in
          record {
            says =
                ap (λ (n : List ℕ). let w : Written = record { name = n; blocks = done.blocks; clusters = done.counts.clusters; cues = done.counts.cues } in w) c.in_ok-name.ensures
                ∙ ap (λ (blocks : ℕ). let w : Written = record { name = own_name c.args.spec.now c.args.number; blocks = blocks; clusters = done.counts.clusters; cues = done.counts.cues } in w) wrote.count
                ∙ ap₂ (λ (clusters cues : ℕ). let w : Written = record { name = own_name c.args.spec.now c.args.number; blocks = counted 0 (length (part_in f c.args.blocks.now).blocks); clusters = clusters; cues = cues } in w) wrote.counts.clusters wrote.counts.cues;
            behind = wrote.behind;
          };
      over = c.in_ok-done.ensures.finds.over;
    }

pub returns-clause-kept : goal.returns-clause-kept
returns-clause-kept g c = kept-own g (goal.at.returns-clause-kept g c).After-write_output c.in_ok-done.ensures.kept
