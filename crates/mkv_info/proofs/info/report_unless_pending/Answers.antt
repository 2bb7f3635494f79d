use Rattle.std.proofs.Common.{[], ◌∷◌}
use Rattle.sidecar_edit.specs.Name.{sidecar_of}
use Rattle.sidecar_edit.proofs.LooksLemmas.{LooksOnly-standing, LooksOnly-then}
use Rattle.mkv_info.proofs.info.report_unless_pending.Goals as goal

-- The journal was read, and then the file.
pub returns-in-Lines-clause-looks : goal.returns-in-Lines-clause-looks
returns-in-Lines-clause-looks g c =
    let laws = g.met.F.Files in
    let opened = sidecar_of c.args.name.now ∷ [] in
    LooksOnly-then g.F.Reads g.F.Files opened c.args.files.now c.is_pending.new.files c.list_file.new.src c.is_pending.ensures.looks
    (LooksOnly-standing g.F.Reads g.F.Files opened c.is_pending.new.files c.list_file.new.src (record {
      names = laws.names_stand;
      holders = laws.holders_stand;
      given = laws.given_stands;
      writing = laws.writing_stands;
      asked = laws.asked_stands;
    }) c.list_file.ensures.standing)

pub returns-in-Json-clause-looks : goal.returns-in-Json-clause-looks
returns-in-Json-clause-looks g c =
    let laws = g.met.F.Files in
    let opened = sidecar_of c.args.name.now ∷ [] in
    LooksOnly-then g.F.Reads g.F.Files opened c.args.files.now c.is_pending.new.files c.identify_file.new.src c.is_pending.ensures.looks
    (LooksOnly-standing g.F.Reads g.F.Files opened c.is_pending.new.files c.identify_file.new.src (record {
      names = laws.names_stand;
      holders = laws.holders_stand;
      given = laws.given_stands;
      writing = laws.writing_stands;
      asked = laws.asked_stands;
    }) c.identify_file.ensures.standing)
