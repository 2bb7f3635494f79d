use Rattle.std.proofs.Common.{◌≡◌, List, None, sym, ◌∙◌, ap}
use Rattle.requests.specs.declared.job.Target.{Target}
use Rattle.track_records.specs.declared.track.Track.{Track}
use Rattle.extractors.specs.Job.{targets_of}
use Rattle.meta_records.specs.Records.{described_by}
use Rattle.mkv_extract.specs.Read.{first_unusable}
use Rattle.mkv_extract.proofs.ReadLemmas.{AreUsableOf-read, events-read}
use Rattle.mkv_extract.proofs.reading.read_source.Goals as goal

-- The tracks that are named can be used.
pub returns-clause-usable : goal.returns-clause-usable
returns-clause-usable g c =
    let tracks = c.in_ok-records.records.tracks in
    let none : first_unusable (targets_of c.args.job.now) tracks ≡ None =
    ap (λ (ts : List Target). first_unusable ts tracks) (sym c.targets_of.ensures)
    ∙ ap (λ (each : List Track). first_unusable c.targets_of.result.now each) (sym c.as_slice.ensures)
    ∙ sym c.first_unusable.ensures ∙ c.in_default.is in
    AreUsableOf-read (targets_of c.args.job.now) tracks none

-- The Info that was read determines the tick.
pub returns-clause-events : goal.returns-clause-events
returns-clause-events g c = λ bytes told.
    let now = ap (λ s. (g.R.Reads.files s).content c.args.file.n) c.read.ensures.same.standing ∙ told in
    events-read bytes c.in_ok-outline.outline.segment (described_by c.in_ok-records.records)
    (c.in_ok-records.ensures.exact bytes now 0 (c.in_ok-outline.ensures.exact bytes told))
