-- Four bytes decide whether a file begins with an EBML header.
use Rattle.std.proofs.Common.{◌≡◌, ℕ, ◌≤◌, ◌&&◌, not, min, true, [], ◌∷◌, length, sym, ◌∙◌, ap, arith}
use Rattle.std.proofs.lemmas.List.{length-take-le}
use Rattle.input_files.specs.Names.{begins_ebml, is_srt_name}
use Rattle.merge_inputs.proofs.TextLemmas.{first-four}
use Rattle.merge_inputs.proofs.reading.is_text.Goals as goal

pub returns-clause-exact : goal.returns-clause-exact
returns-clause-exact g c = λ bytes told.
    let long : length bytes ≡ c.size.result = g.met.R.Reads.told_size (g.R.Reads.standing c.args.src.now) c.args.file.n bytes told ∙ sym c.size.ensures.exact in
    let few : c.min-known.result ≡ min (length bytes) 4 = c.min-known.ensures ∙ ap (λ (n : ℕ). min n 4) (sym long) in
    let small : c.min-known.result ≤ 4 = omega arith in
    let same = length-take-le c.min-known.result (0 ∷ 0 ∷ 0 ∷ 0 ∷ []) small in
    let begins : c.begins_ebml.result ≡ begins_ebml bytes = c.begins_ebml.ensures ∙ first-four bytes _ _ _ c.min-known.result few same (c.in_ok-read_at.ensures.ok bytes told) in
    let named : is_srt_name c.args.words.now.name ≡ true = ap is_srt_name (sym c.as_str.ensures.same) ∙ sym c.is_srt_name.ensures ∙ c.if-not-is_srt_name.false in
    ap not begins ∙ ap (λ b. b && not (begins_ebml bytes)) (sym named)
