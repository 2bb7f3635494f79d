use Rattle.std.proofs.Common.{List, ℕ, inl, inr, Ok, Err, ◌∙◌, subst}
use Rattle.std.proofs.lemmas.Result.{err_from_is_err_and}
use Rattle.remuxer.specs.Output.{Writes}
use Rattle.mkv_generate.specs.Files.{file_of}
use Rattle.mkv_generate.specs.declared.blocks.MediaKind.TheVariants.{Pictures, Sounds}
use Rattle.mkv_generate.proofs.AskedLemmas.{file-asks}
use Rattle.mkv_generate.proofs.TurnLemmas.{one-stopped, two-written}
use Rattle.mkv_generate.proofs.making.write_files.Goals as goal

-- The first file couldn't be written.
pub returns-in_err-write_file-clause-writes : goal.returns-in_err-write_file-clause-writes
returns-in_err-write_file-clause-writes g c =
    let p = err_from_is_err_and c.from_residual.result c.from_residual.ensures.1 in
    let P : List ℕ → Type 0 = λ name. Writes {T = Unit {0}} (g.F.Files.names c.args.files.now) (g.F.Files.names c.write_file.new.files) name (file_of Pictures c.args.n) (Err c.in_err-write_file.field-0.0) in
    rw p.1 (one-stopped (g.F.Files.names c.args.files.now) (g.F.Files.names c.write_file.new.files) c.args.n c.args.names.now (subst P c.as_str.ensures.same c.in_err-write_file.ensures.writes))

pub returns-clause-writes : goal.returns-clause-writes
returns-clause-writes g c =
    let P : List ℕ → Type 0 = λ name. Writes {T = Unit {0}} (g.F.Files.names c.args.files.now) (g.F.Files.names c.write_file.new.files) name (file_of Pictures c.args.n) (Ok (tt {0})) in
    let Q : List ℕ → Type 0 = λ name. Writes (g.F.Files.names c.write_file.new.files) (g.F.Files.names c.write_file-2.new.files) name (file_of Sounds c.args.n) c.write_file-2.result in
    two-written (g.F.Files.names c.args.files.now) (g.F.Files.names c.write_file.new.files) (g.F.Files.names c.write_file-2.new.files) c.args.n c.args.names.now c.write_file-2.result (subst P c.as_str.ensures.same c.in_ok-write_file.ensures.writes) (subst Q c.as_str-2.ensures.same c.write_file-2.ensures.writes)

pub returns-clause-live : goal.returns-clause-live
returns-clause-live g c = λ file. c.write_file-2.ensures.kept.live file ∙ c.in_ok-write_file.ensures.kept.live file

-- ---- names that are made

pub returns-in_err-write_file-clause-asks : goal.returns-in_err-write_file-clause-asks
returns-in_err-write_file-clause-asks g c =
    file-asks c.args.names.now c.as_str.result.now (g.F.Files.asked c.args.files.now) (g.F.Files.asked c.write_file.new.files) (inl c.as_str.ensures.same) c.write_file.ensures.kept.asks

pub returns-clause-asks : goal.returns-clause-asks
returns-clause-asks g c = λ name besides unasked.
    file-asks c.args.names.now c.as_str-2.result.now (g.F.Files.asked c.write_file.new.files) (g.F.Files.asked c.write_file-2.new.files) (inr c.as_str-2.ensures.same) c.write_file-2.ensures.kept.asks name besides
    (file-asks c.args.names.now c.as_str.result.now (g.F.Files.asked c.args.files.now) (g.F.Files.asked c.write_file.new.files) (inl c.as_str.ensures.same) c.write_file.ensures.kept.asks name besides unasked)
