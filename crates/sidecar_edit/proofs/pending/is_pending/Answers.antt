use Rattle.std.proofs.Common.{◌≡◌, List, [], ◌∷◌, ℕ, ◌∙◌, ap, subst}
use Rattle.mkv_io.proofs.AskedLemmas.{asks-opened}
use Rattle.mkv_io.specs.Asked.{AsksOnly}
use Rattle.sidecar_edit.specs.Name.{sidecar_of}
use Rattle.sidecar_edit.specs.Pending.{holds_edit}
use Rattle.sidecar_edit.proofs.LooksLemmas.{UsesOnly-looked, holds-read}
use Rattle.sidecar_edit.proofs.pending.is_pending.Goals as goal

-- The journal existed, and its state was read.
pub returns-clause-exact : goal.returns-clause-exact
returns-clause-exact g c = λ world told.
    let name = c.as_str.result.now in
    let named : name ≡ sidecar_of c.args.name.now = c.as_str.ensures.same ∙ c.in_ok-sidecar.ensures in
    c.is_begun.ensures
    ∙ holds-read (world name) c.in_ok-held.field-0
    (λ none. let refused = (c.in-Ok.ensures.missing world told).1 none in absurd (cc))
    (λ bytes is. c.in_ok-held.ensures.ok bytes (c.in-Ok.ensures.opened.content world told ∙ is))
    ∙ ap (λ (n : List ℕ). holds_edit (world n)) named

-- The journal was opened, read and closed.
pub returns-clause-looks : goal.returns-clause-looks
returns-clause-looks g c =
    let laws = g.met.F.Files in
    let opened = c.open_file.new.self in
    let read = c.state-held.new.src in
    let standing = c.state-held.ensures.only.standing in
    let P : List ℕ → Type 0 = λ name. AsksOnly (name ∷ []) [] (g.F.Files.asked c.args.files.now) (g.F.Files.asked opened) in
    record {
      kept = UsesOnly-looked g.F.Reads g.F.Files (sidecar_of c.args.name.now ∷ []) c.args.files.now opened read c.close.new.self c.in-Ok.file.n laws.numbered (record {
        least = c.in-Ok.ensures.opened.is_new.number.0;
        most = c.in-Ok.ensures.opened.is_new.number.1;
        alone = c.in-Ok.ensures.opened.is_new.alone;
        holders = c.open_file.ensures.stays.holders;
        others = c.open_file.ensures.stays.others;
        standing = standing;
        given = laws.given_stands read opened standing;
        held = laws.holders_stand read opened standing;
        ended = c.close.ensures.ended;
        closed_given = c.close.ensures.stays.given;
        closed_others = c.close.ensures.stays.others;
        closed_holders = c.close.ensures.stays.holders;
        asks = subst P (c.as_str.ensures.same ∙ c.in_ok-sidecar.ensures) (asks-opened c.as_str.result.now [] (g.F.Files.asked c.args.files.now) (g.F.Files.asked opened) c.open_file.result c.open_file.ensures.asks);
        asked = c.close.ensures.stays.asks ∙ laws.asked_stands read opened standing;
      });
      names = c.close.ensures.stays.names ∙ laws.names_stand read opened standing ∙ c.open_file.ensures.stays.names;
      writing = c.close.ensures.stays.writing ∙ laws.writing_stands read opened standing ∙ c.open_file.ensures.stays.counts.writing;
    }
