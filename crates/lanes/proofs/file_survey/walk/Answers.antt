use Rattle.std.proofs.Common.{◌<◌, ◌≤◌, ◌+◌, ◌*◌, ℕ, List, length, max, refl, sym, ◌∙◌, ap, subst, arith}
use Rattle.std.specs.Prelude.{Bool, ◌||◌}
use Rattle.std.specs.List.{All}
use Rattle.std.proofs.lemmas.List.{length-replicate}
use Rattle.mkv_io.specs.declared.outside.FileId.{FileId}
use Rattle.mkv_io.specs.Sources.{live_files}
use Rattle.cluster_reader.specs.Reading.{left_of}
use Rattle.lanes.specs.Ends.{texts_end}
use Rattle.lanes.proofs.EndLemmas.{counted-length, end-all, end-damage, end-start, end-step, ends_from, known-head, more-counted, none-counted, stopped-all, stopped-block, stopped-damage}
use Rattle.lanes.specs.Frames.{by_head}
use Rattle.lanes.proofs.file_survey.walk.Goals as goal

pub steps-init : goal.steps-init
steps-init g c = record {
  standing = refl;
  faults = refl;
  ready = c.requires.ready;
  file = refl;
  pays = omega arith;
  texts = omega (arith, c.texts_end.ensures.exact);
  small = c.texts_end.ensures.small;
  each = ap length c.requires.counts ∙ length-replicate (length c.args.links.now) 0;
  few = subst (All (λ n. n ≤ 256 * c.args.cursor.now.place.at)) (sym c.requires.counts) (none-counted (length c.args.links.now) (256 * c.args.cursor.now.place.at));
  end = λ bytes told.
      ap (λ (n : ℕ). max n (ends_from (left_of bytes c.args.cursor.now) c.args.counts.now c.args.links.now)) c.texts_end.ensures.exact
      ∙ ap (λ (counts : List ℕ). max (texts_end c.args.links.now) (ends_from (left_of bytes c.args.cursor.now) counts c.args.links.now)) c.requires.counts
      ∙ end-start (left_of bytes c.args.cursor.now) c.args.links.now;
  stopped = λ bytes told. refl;
}

pub returns-in-End-clause-value : goal.returns-in-End-clause-value
returns-in-End-clause-value g c = λ bytes told.
    let here = ap (λ s. (g.R.Reads.files s).content c.steps.cursor.file.n) c.steps.invariant.standing
    ∙ ap (λ (f : FileId). (live_files g.R.Reads c.args.src.now).content f.n) c.steps.invariant.file ∙ told in
    let none = (rw c.in-End.is at (c.in_ok-advance_for.ensures.gives bytes here)).0 in
    record {
      end = end-all c.steps.survey.end (left_of bytes c.steps.cursor) (left_of bytes c.args.cursor.now) c.steps.counts c.args.links.now c.steps.invariant.each c.steps.invariant.texts (c.steps.invariant.end bytes told) none;
      stopped = stopped-all c.steps.survey.stopped (left_of bytes c.steps.cursor) (left_of bytes c.args.cursor.now) (c.steps.invariant.stopped bytes told) none;
    }

pub steps-preserved-in-Block : goal.steps-preserved-in-Block
steps-preserved-in-Block g c =
    record {
      standing = c.in_ok-advance_for.ensures.standing ∙ c.steps.invariant.standing;
      faults = c.in_ok-advance_for.ensures.cause ∙ c.steps.invariant.faults;
      ready = c.in_ok-advance_for.ensures.stands;
      file = c.in_ok-advance_for.ensures.moves.same.file ∙ c.steps.invariant.file;
      pays = omega (arith, c.steps.invariant.pays, c.in_ok-advance_for.ensures.spends.pays);
      each = ap length c.count_frames.ensures.exact ∙ counted-length (by_head c.advance_for.new.self.block) c.steps.counts c.args.links.now ∙ c.steps.invariant.each;
      few =
          let on : c.steps.cursor.place.at < c.advance_for.new.self.place.at = rw c.in-Block.is at c.in_ok-advance_for.ensures.moves.on in
          more-counted c.count_frames.new.counts (256 * c.steps.cursor.place.at + 256) (256 * c.advance_for.new.self.place.at) (omega arith) (c.count_frames.ensures.few (256 * c.steps.cursor.place.at) c.steps.invariant.few);
      texts = omega (arith, c.steps.invariant.texts, c.greatest_end.ensures.exact);
      small = c.greatest_end.ensures.small;
      end = λ bytes told.
          let here = ap (λ s. (g.R.Reads.files s).content c.steps.cursor.file.n) c.steps.invariant.standing
          ∙ ap (λ (f : FileId). (live_files g.R.Reads c.args.src.now).content f.n) c.steps.invariant.file ∙ told in
          let given = rw c.in-Block.is at (c.in_ok-advance_for.ensures.gives bytes here) in
          let known = known-head given.given c.advance_for.new.self.block given.known in
          end-step c.steps.survey.end c.greatest_end.result given.given c.advance_for.new.self.block (left_of bytes c.steps.cursor) (left_of bytes c.advance_for.new.self) (left_of bytes c.args.cursor.now) c.steps.counts c.count_frames.new.counts c.args.links.now known (c.steps.invariant.end bytes told) given.left c.greatest_end.ensures.exact c.count_frames.ensures.exact;
      stopped = λ bytes told.
          let here = ap (λ s. (g.R.Reads.files s).content c.steps.cursor.file.n) c.steps.invariant.standing
          ∙ ap (λ (f : FileId). (live_files g.R.Reads c.args.src.now).content f.n) c.steps.invariant.file ∙ told in
          let given = rw c.in-Block.is at (c.in_ok-advance_for.ensures.gives bytes here) in
          stopped-block c.steps.survey.stopped given.given (left_of bytes c.steps.cursor) (left_of bytes c.advance_for.new.self) (left_of bytes c.args.cursor.now) (c.steps.invariant.stopped bytes told) given.left;
    }

pub steps-preserved-then-stopped : goal.steps-preserved-then-stopped
steps-preserved-then-stopped g c =
    record {
      standing = c.in_ok-advance_for.ensures.standing ∙ c.steps.invariant.standing;
      faults = c.in_ok-advance_for.ensures.cause ∙ c.steps.invariant.faults;
      ready = c.in_ok-advance_for.ensures.stands;
      file = c.in_ok-advance_for.ensures.moves.same.file ∙ c.steps.invariant.file;
      pays = omega (arith, c.steps.invariant.pays, c.in_ok-advance_for.ensures.spends.pays);
      each = c.steps.invariant.each;
      few = more-counted c.steps.counts (256 * c.steps.cursor.place.at) (256 * c.advance_for.new.self.place.at) (omega (arith, c.in_ok-advance_for.ensures.moves.same.forwards)) c.steps.invariant.few;
      texts = c.steps.invariant.texts;
      small = c.steps.invariant.small;
      end = λ bytes told.
          let here = ap (λ s. (g.R.Reads.files s).content c.steps.cursor.file.n) c.steps.invariant.standing
          ∙ ap (λ (f : FileId). (live_files g.R.Reads c.args.src.now).content f.n) c.steps.invariant.file ∙ told in
          end-damage c.steps.survey.end c.advance_for.new.self.stopped c.in-Damaged.field-0 (left_of bytes c.steps.cursor) (left_of bytes c.advance_for.new.self) (left_of bytes c.args.cursor.now) c.steps.counts c.args.links.now (c.steps.invariant.end bytes told) (rw c.in-Damaged.is at (c.in_ok-advance_for.ensures.gives bytes here));
      stopped = λ bytes told.
          let here = ap (λ s. (g.R.Reads.files s).content c.steps.cursor.file.n) c.steps.invariant.standing
          ∙ ap (λ (f : FileId). (live_files g.R.Reads c.args.src.now).content f.n) c.steps.invariant.file ∙ told in
          stopped-damage c.steps.survey.stopped c.stopped.result c.advance_for.new.self.stopped c.in-Damaged.field-0 (left_of bytes c.steps.cursor) (left_of bytes c.advance_for.new.self) (left_of bytes c.args.cursor.now) (c.steps.invariant.stopped bytes told) (rw c.in-Damaged.is at (c.in_ok-advance_for.ensures.gives bytes here)) (c.if-stopped.true ∙ ap (λ (b : Bool). b || c.steps.survey.stopped) (sym c.if-stopped.true ∙ c.stopped.ensures));
    }

pub steps-preserved : goal.steps-preserved
steps-preserved g c =
    record {
      standing = c.in_ok-advance_for.ensures.standing ∙ c.steps.invariant.standing;
      faults = c.in_ok-advance_for.ensures.cause ∙ c.steps.invariant.faults;
      ready = c.in_ok-advance_for.ensures.stands;
      file = c.in_ok-advance_for.ensures.moves.same.file ∙ c.steps.invariant.file;
      pays = omega (arith, c.steps.invariant.pays, c.in_ok-advance_for.ensures.spends.pays);
      each = c.steps.invariant.each;
      few = more-counted c.steps.counts (256 * c.steps.cursor.place.at) (256 * c.advance_for.new.self.place.at) (omega (arith, c.in_ok-advance_for.ensures.moves.same.forwards)) c.steps.invariant.few;
      texts = c.steps.invariant.texts;
      small = c.steps.invariant.small;
      end = λ bytes told.
          let here = ap (λ s. (g.R.Reads.files s).content c.steps.cursor.file.n) c.steps.invariant.standing
          ∙ ap (λ (f : FileId). (live_files g.R.Reads c.args.src.now).content f.n) c.steps.invariant.file ∙ told in
          end-damage c.steps.survey.end c.advance_for.new.self.stopped c.in-Damaged.field-0 (left_of bytes c.steps.cursor) (left_of bytes c.advance_for.new.self) (left_of bytes c.args.cursor.now) c.steps.counts c.args.links.now (c.steps.invariant.end bytes told) (rw c.in-Damaged.is at (c.in_ok-advance_for.ensures.gives bytes here));
      stopped = λ bytes told.
          let here = ap (λ s. (g.R.Reads.files s).content c.steps.cursor.file.n) c.steps.invariant.standing
          ∙ ap (λ (f : FileId). (live_files g.R.Reads c.args.src.now).content f.n) c.steps.invariant.file ∙ told in
          stopped-damage c.steps.survey.stopped c.steps.survey.stopped c.advance_for.new.self.stopped c.in-Damaged.field-0 (left_of bytes c.steps.cursor) (left_of bytes c.advance_for.new.self) (left_of bytes c.args.cursor.now) (c.steps.invariant.stopped bytes told) (rw c.in-Damaged.is at (c.in_ok-advance_for.ensures.gives bytes here)) (ap (λ (b : Bool). b || c.steps.survey.stopped) (sym c.if-stopped.false ∙ c.stopped.ensures));
    }
