use Rattle.std.proofs.Common.{◌≡◌, ◌≤◌, ◌+◌, ◌-◌, ◌*◌, length, max}
use Rattle.std.specs.List.{All}
use Rattle.std.specs.Prelude.{◌||◌, is_some}
use Rattle.mkv_io.specs.Sources.{IfTold, live_files}
use Rattle.block_format.specs.Events.{last_of}
use Rattle.cluster_reader.specs.Reading.{CanRead, left_of, read_to}
use Rattle.lanes.specs.Ends.{end_of, texts_end}
use Rattle.lanes.specs.declared.survey_result.TheConstants.{MAX_END}
use Rattle.lanes.proofs.EndLemmas.{ends_from}
use Rattle.lanes.proofs.file_survey.walk.Given as goal

abbrev pub invariant-steps : goal.invariant-steps
invariant-steps g l = record {
  standing : g.R.Reads.standing l.src ≡ g.R.Reads.standing l.initial.src;
  faults : g.R.Reads.reading_faults l.src ≡ g.R.Reads.reading_faults l.initial.src;
  ready : CanRead (live_files g.R.Reads l.src) l.cursor;
  file : l.cursor.file ≡ l.initial.cursor.file;
  pays : g.R.Reads.octets_read l.src + read_to l.initial.cursor ≤ g.R.Reads.octets_read l.initial.src + read_to l.cursor;
  each : length l.counts ≡ length l.links;
  few : All (λ n. n ≤ 256 * l.cursor.place.at) l.counts;
  texts : texts_end l.links ≤ l.survey.end;
  small : l.survey.end ≤ MAX_END;
  end : IfTold g.R.Reads l.initial.src l.initial.cursor.file (λ bytes. max l.survey.end (ends_from (left_of bytes l.cursor) l.counts l.links) ≡ end_of (left_of bytes l.initial.cursor) l.links);
  stopped : IfTold g.R.Reads l.initial.src l.initial.cursor.file (λ bytes. (l.survey.stopped || is_some (last_of (left_of bytes l.cursor))) ≡ is_some (last_of (left_of bytes l.initial.cursor)));
}

abbrev pub decreases-steps : goal.decreases-steps
decreases-steps g l = l.cursor.place.end - l.cursor.place.at
