-- The bytes in the Duration's place may be anything.
use Rattle.std.proofs.Common.{◌≡◌, ◌≤◌, ◌+◌, ◌++◌, [], ◌∷◌, length, ℕ, List, IfSome, Option, inl, refl, ap, sym, subst, append-nil, ◌∙◌, arith}
use Rattle.std.proofs.lemmas.Result.{err_from_is_err_and}
use Rattle.mkv_io.specs.Contents.{overwritten}
use Rattle.mkv_io.specs.Names.{with_content}
use Rattle.mkv_io.specs.Sources.{file_size}
use Rattle.mkv_outputs.specs.Drafts.{Draft, Patch}
use Rattle.output_model.specs.Duration.{duration_element}
use Rattle.output_model.specs.Element.{octets_of}
use Rattle.cues_seekhead.specs.Draft.{StandsDrafted}
use Rattle.cues_seekhead.proofs.DraftLemmas.{IsPatched-none, IsPatched-over, StandsDrafted-patched, duration-some, overwrote}
use Rattle.output_model.proofs.DurationLemmas.{length-duration}
use Rattle.cues_seekhead.proofs.ending.put_duration.Goals as goal

pub returns-in_err-overwrite-clause-drafts : goal.returns-in_err-overwrite-clause-drafts
returns-in_err-overwrite-clause-drafts g c =
    let p = err_from_is_err_and c.from_residual.result c.from_residual.ensures.1 in
    let holder = g.F.Files.holder c.args.files.now c.args.file.n in
    let at = c.args.start + c.in-Some.place in
    let octets = octets_of (duration_element c.args.end) in
    let is = duration-some c.args.start c.args.place c.args.end c.in-Some.place c.in-Some.is c.if-end-gt0.true in
    let within = c.in_err-overwrite.ensures.err in
    let count : length within.now ≡ length octets = within.count ∙ ap length c.duration_octets.ensures in
    let P : Option ℕ → Type 0 = λ place. IfSome place (λ at. c.args.start + at + 11 ≤ file_size g.F.Reads c.args.files.now c.args.file) in
    let inside = subst P c.in-Some.is c.requires.inside in
    rw p.1 (λ before content long had.
    let all = content ++ [] in
    let same : length all ≡ length content = ap length (append-nil content) in
    let d : Draft = record { name = holder; appended = all; patches = record { at = at; octets = octets } ∷ [] } in
    let Q : List Patch → Type 0 = λ ps. StandsDrafted before (g.F.Files.names c.overwrite.new.self) (record { name = holder; appended = all; patches = ps }) in
    let begun = had ∙ ap (with_content before holder) (sym (append-nil content)) in
    let changed = overwrote before _ _ _ holder all within.now at refl begun within.changed.names in
    subst Q (sym is) (StandsDrafted-patched before _ d (overwritten all at within.now) changed
    (IsPatched-over all within.now d at (IsPatched-none d) (omega (arith, count, length-duration c.args.end, long, inside, same))
    (λ k low high. inl (low, omega (arith, count, high))))))
