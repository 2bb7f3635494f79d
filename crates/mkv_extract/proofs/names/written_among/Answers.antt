use Rattle.std.proofs.Common.{ℕ, ◌||◌, List, Option, option_map, ◌∙◌, ap}
use Rattle.std.specs.List.{find}
use Rattle.std.specs.Str.{bytes_eq}
use Rattle.requests.specs.declared.job.Target.{Target}
use Rattle.mkv_extract.specs.Names.{is_read}
use Rattle.mkv_extract.proofs.ExtractLemmas.{found-name}
use Rattle.mkv_extract.proofs.names.written_among.Goals as goal

pub returns-in-Some : goal.returns-in-Some
returns-in-Some c =
    let name = c.args.name.now in
    let named : Option Target → Option (List ℕ) = option_map (λ (t : Target). t.name) in
    ap named c.in-Some.ensures
    ∙ ap (λ (sidecar : List ℕ). named (find (λ (t : Target). bytes_eq t.name name || bytes_eq t.name sidecar) c.args.targets.now)) c.requires
    ∙ found-name (is_read name) c.args.targets.now

pub returns-in-None : goal.returns-in-None
returns-in-None c =
    let name = c.args.name.now in
    let named : Option Target → Option (List ℕ) = option_map (λ (t : Target). t.name) in
    ap named c.in-None.ensures
    ∙ ap (λ (sidecar : List ℕ). named (find (λ (t : Target). bytes_eq t.name name || bytes_eq t.name sidecar) c.args.targets.now)) c.requires
    ∙ found-name (is_read name) c.args.targets.now
