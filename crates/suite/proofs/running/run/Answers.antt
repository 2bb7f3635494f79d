use Rattle.mkv_propedit.specs.Recover.{disk_world}
use Rattle.mkv_run.specs.ByWords.{reach_for}
use Rattle.mkv_run.specs.RunSeen.{RunSeen, run_seen}
use Rattle.mkv_run.specs.Touched.{LeftOnTheWay}
use Rattle.word_values.specs.Place.{texts}
use Rattle.suite.proofs.GeneratedLemmas.{generates-well}
use Rattle.suite.proofs.MergedLemmas.{merges-again, merges-well}
use Rattle.suite.proofs.SeenLemmas.{crash-seen, leaves-seen}
use Rattle.suite.proofs.running.run.Goals as goal

-- Each field follows from the engine's clauses, and those about a merge, an edit or a new index from a law, too.
pub returns : goal.returns
returns g c =
    let did = c.run_command_line.ensures in
    let words = c.args.words.now.items in
    let reach = reach_for words in
    let pair = g.D.Disk.pair c.args.disk.now in
    let before : RunSeen = run_seen g.F.Reads g.F.Files g.D.Reads g.D.Disk g.R.Report c.args.files.now c.args.disk.now c.args.report.now in
    let after : RunSeen = run_seen g.F.Reads g.F.Files g.D.Reads g.D.Disk g.R.Report c.run_command_line.new.files c.run_command_line.new.disk c.run_command_line.new.report in
    let disk = disk_world g.D.Disk c.args.disk.now in
    let well = merges-well before after disk words c.run_command_line.result did.readable did.verdict in
    record {
      does_what_is_defined = did.verdict;
      reports_failures = did.cause;
      closes_its_files = did.files.live;
      opens_no_other_file = did.files.asks;
      reads_within_bounds = did.octets;
      changes_nothing_else = leaves-seen g.F.Reads g.F.Files g.D.Reads g.D.Disk g.R.Report c.args.files.now c.run_command_line.new.files c.args.disk.now c.run_command_line.new.disk
          c.args.report.now c.run_command_line.new.report g.met.D.Disk.pair_stands g.met.D.Disk.opened_stands c.edits_change_nothing_else.ensures c.new_index_is_whole.ensures
          reach c.run_command_line.result did.touches;
      output_holds_the_merge = well;
      merge_is_repeatable = merges-again c.outputs_are_written_again.ensures before after disk words c.run_command_line.result well did.verdict;
      generate_succeeds = generates-well c.generate_succeeds.ensures before after disk (texts words) c.run_command_line.result did.verdict;
      survives_crashes = λ told synced. crash-seen g.F.Reads g.F.Files g.D.Reads g.D.Disk g.R.Report c.args.files.now c.run_command_line.new.files c.args.disk.now c.run_command_line.new.disk
          c.args.report.now c.run_command_line.new.report g.met.D.Disk.pair_stands g.met.D.Disk.opened_stands (LeftOnTheWay reach c.run_command_line.result pair.media.reads pair.sidecar.reads) (did.any_moment (λ is. synced) told);
    }
