use Rattle.std.proofs.Common.{◌≡◌, ℕ, ◌+◌, ◌≤◌, [], List, length, unwrap_or, subst, sym, ◌∙◌, ap, arith}
use Rattle.std.proofs.lemmas.Bool.Decides.{nat_tests}
use Rattle.ebml_numbers.specs.Number.{uint_of}
use Rattle.mkv_schema.specs.Value.{body_of, uint_value}
use Rattle.element_reader.specs.EbmlChildren.{children}
use Rattle.element_reader.proofs.FieldLemmas.{uint_in-is, uint_value-none, uint_value-some, short_of, take-short}
use Rattle.element_reader.proofs.ebml_values.uint_in.Goals as goal

-- An empty integer is the default.
pub returns-then-is_empty : goal.returns-then-is_empty
returns-then-is_empty c = λ bytes is none.
    let list = (children bytes c.args.base (c.args.base + length c.args.body.now)).list in
    let h = c.in-Some.child in
    let octets = c.body_in-octets.ensures bytes c.args.total is in
    let empty : length c.body_in-octets.result.now ≡ 0 = grind (arith, nat_tests, c.is_empty.ensures, c.if-is_empty.true) in
    let default : c.unwrap_or-default.result ≡ uint_value c.args.id [] = c.unwrap_or-default.ensures ∙ ap (λ o. unwrap_or o 0) c.uint_default.ensures.exact in
    uint_in-is bytes c.args.id list h c.unwrap_or-default.result (c.in-Some.ensures.exact bytes is)
    (default ∙ sym (uint_value-none c.args.id (body_of bytes h) (ap length (sym octets) ∙ empty)))

-- Any other integer is the number of its bytes.
pub returns-else-is_empty : goal.returns-else-is_empty
returns-else-is_empty c = λ bytes is none.
    let run = children bytes c.args.base (c.args.base + length c.args.body.now) in
    let h = c.in-Some.child in
    let now = c.body_in-octets.result.now in
    let octets : now ≡ body_of bytes h = c.body_in-octets.ensures bytes c.args.total is in
    let first = c.in-Some.ensures.exact bytes is in
    let short : length now ≤ 8 = subst (λ (l : List ℕ). length l ≤ 8) (sym octets) (short_of bytes run c.args.id h c.requires.short none (sym first)) in
    let some = λ (e : length now ≡ 0). absurd (grind (arith, nat_tests, c.is_empty.ensures, c.if-is_empty.false)) in
    uint_in-is bytes c.args.id run.list h c.read_uint.result first
    (c.read_uint.ensures.exact ∙ ap uint_of (take-short now c.min.result c.min.ensures short)
    ∙ sym (uint_value-some c.args.id now some) ∙ ap (uint_value c.args.id) octets)
