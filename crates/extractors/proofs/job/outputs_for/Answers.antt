use Rattle.std.proofs.Common.{◌≡◌, ◌+◌, ℕ, List, ◌∷◌, [], ◌++◌, map, Option, Some, None, slice_get, Err, sym, ◌∙◌, ap, subst}
use Rattle.std.specs.Option.{option_copied}
use Rattle.extractors.specs.Codec.{coding_of}
use Rattle.extractors.specs.Source.{entry_in}
use Rattle.extractors.specs.declared.track_output.TrackOutput.{TrackOutput}
use Rattle.extractors.proofs.JobLemmas.{AreMade, made-bad, made-good, made-missing, made-refused, usable-at}
use Rattle.extractors.proofs.job.outputs_for.Goals as goal
use Rattle.extractors.proofs.job.outputs_for.Goals.{in-Ok+in_ok-output_with-in-Ok+in_ok-push-in-Ok, in-Err+in-BadConfig}
use Rattle.extractors.specs.Job.{refusal}
use Rattle.extractors.specs.declared.frame_form.UnsupportedTrack.{UnsupportedTrack}
use Rattle.extractors.specs.declared.frame_form.UnsupportedTrack.TheVariants.{NoExtractor}

-- The file doesn't have the track.
pub loop-target-preserved-in_default : goal.loop-target-preserved-in_default
loop-target-preserved-in_default c =
    let found : slice_get c.args.tracks.now c.target-item.result.id ≡ None = sym c.get.ensures ∙ ap option_copied c.in_default.is in
    made-missing c.args.tracks.now c.loop-target.invariant c.target-item.result c.loop-target-test.true c.target-item.is found

-- The frames of the track can be used.
pub output_with-requires-clause-usable : goal.output_with-requires-clause-usable
output_with-requires-clause-usable c =
    let found : slice_get c.args.tracks.now c.target-item.result.id ≡ Some c.in-Some.track.now = sym c.get.ensures ∙ ap option_copied c.in-Some.is in
    usable-at c.args.targets.now c.args.tracks.now c.loop-target.target-index c.target-item.result c.in-Some.track.now c.requires.usable c.loop-target-test.true c.target-item.is found

-- No form of its codec is known.
pub returns-in-NoExtractor : goal.returns-in-NoExtractor
returns-in-NoExtractor c =
    let found : slice_get c.args.tracks.now c.target-item.result.id ≡ Some c.in-Some.track.now = sym c.get.ensures ∙ ap option_copied c.in-Some.is in
    let read : coding_of c.args.form c.in-Some.track.now.entry ≡ Err NoExtractor = sym c.in_ok-read.ensures ∙ c.in-Err.is ∙ ap Err c.in-NoExtractor.is in
    ap (λ (why : UnsupportedTrack). Err (refusal why c.target-item.result.id)) c.in-NoExtractor.is
    ∙ sym (made-refused c.args.tracks.now c.loop-target.invariant c.target-item.result c.loop-target-test.true c.target-item.is c.in-Some.track.now found read)

-- A further output is made, or a bad configuration is met.
pub loop-target-preserved : goal.loop-target-preserved
loop-target-preserved c =
    let found : slice_get c.args.tracks.now c.target-item.result.id ≡ Some c.in-Some.track.now = sym c.get.ensures ∙ ap option_copied c.in-Some.is in
    let made : List TrackOutput → Option ℕ → Type 0 = AreMade c.args.form c.args.targets.now (map entry_in c.args.tracks.now) (c.loop-target.target-index + 1) in
    elim c.match-read.branch [
      | in-Ok+in_ok-output_with-in-Ok+in_ok-push-in-Ok w ↦
          rw w.bad_config-is
          (subst (λ (list : List TrackOutput). made list c.loop-target.bad_config)
          (sym (w.list-is ∙ w.in_ok-push-in-Ok.ensures.ok ∙ ap (λ (o : TrackOutput). c.loop-target.list ++ o ∷ []) w.in_ok-output_with-in-Ok.ensures))
          (made-good c.args.tracks.now c.loop-target.invariant c.target-item.result c.loop-target-test.true c.target-item.is c.in-Some.track.now found w.in-Ok.coding (sym c.in_ok-read.ensures ∙ w.in-Ok.is)))
      | in-Err+in-BadConfig w ↦
          rw w.list-is
          (subst (made c.loop-target.list) (sym (w.bad_config-is ∙ w.or-bad_config.ensures))
          (made-bad c.args.tracks.now c.loop-target.invariant c.target-item.result c.loop-target-test.true c.target-item.is c.in-Some.track.now found (sym c.in_ok-read.ensures ∙ w.in-Err.is ∙ ap Err w.in-BadConfig.is)))
    ]
