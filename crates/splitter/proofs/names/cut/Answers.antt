use Rattle.std.proofs.Common.{◌≡◌, ◌∙◌, sym, ap, length, take, drop, arith}
use Rattle.std.proofs.lemmas.Str.Pattern.{rfind_char}
use Rattle.splitter.specs.Names.{stem_len}
use Rattle.splitter.proofs.NameLemmas.{slash-told, stem-at, stem-none, stem-slash, whole-extension, whole-stem}
use Rattle.splitter.proofs.names.cut.Goals as goal
use Rattle.splitter.proofs.names.cut.Goals.{in_default-via-in-Some+else-not-contains, in_default-via-in_default}

pub returns-in-Some : goal.returns-in-Some
returns-in-Some c =
    let name = c.args.name.now in
    let here = rw c.in-Some.is at (rfind_char 46 name c.rfind.result c.rfind.ensures.cases (omega arith)) in
    let told = slash-told name c.as_bytes.result.now c.in-Some.at c.contains.result c.as_bytes.ensures.value c.contains.ensures.value in
    let at = stem-at name c.in-Some.at here.0 here.1 here.2 (told ∙ c.if-not-contains.true) in
    record { stem = c.split_at.ensures.front ∙ ap (λ k. take k name) (sym at); extension = c.split_at.ensures.back ∙ ap (λ k. drop k name) (sym at) }

-- There is no point, or a `/` follows the last one.
pub returns-in_default : goal.returns-in_default
returns-in_default c =
    let name = c.args.name.now in
    let found = rfind_char 46 name c.rfind.result c.rfind.ensures.cases (omega arith) in
    let whole : stem_len name ≡ length name =
    elim c.in_default.branch [
      | in_default-via-in-Some+else-not-contains w ↦
          let here = rw w.in-Some.is at found in
          let told = slash-told name w.as_bytes.result.now w.in-Some.at w.contains.result w.as_bytes.ensures.value w.contains.ensures.value in
          stem-slash name w.in-Some.at here.0 here.1 here.2 (told ∙ w.if-not-contains.false)
      | in_default-via-in_default w ↦ stem-none name (rw w.in_default.is at found)
    ] in
    record { stem = whole-stem name whole; extension = whole-extension name whole }
