use Rattle.std.proofs.Common.{◌≡◌, sym, subst, ◌∙◌}
use Rattle.track_records.specs.Track.{track_of}
use Rattle.track_records.specs.declared.track.Track.{Track}
use Rattle.mkv_extract.proofs.ReadLemmas.{causes-bad}
use Rattle.mkv_extract.proofs.reading.first_unusable.Goals as goal

-- A track refuses the file.
pub returns-in-Some : goal.returns-in-Some
returns-in-Some c =
    sym (c.loop-k.invariant
    ∙ causes-bad c.args.targets.now c.args.tracks.now c.loop-k.k c.index-tracks-k.result c.in-Some.damage c.loop-k-test.true c.index-tracks-k.is (sym c.cause_of.ensures ∙ c.in-Some.is))

-- Each track agrees with its entry.
pub cause_of-requires-clause-said : goal.cause_of-requires-clause-said
cause_of-requires-clause-said c =
    subst (λ (t : Track). t ≡ track_of t.entry) (sym c.index-tracks-k.is) (c.requires.said c.loop-k.k c.index-tracks-k.result c.loop-k-test.true)
