use Rattle.std.proofs.Common.{◌≡◌, ◌∙◌, ap, true}
use Rattle.std.specs.List.{list_all}
use Rattle.std.specs.Str.{is_utf8}
use Rattle.std.proofs.lemmas.Str.{is_utf8-from_IsUtf8}
use Rattle.edit_changes.specs.Property as spec
use Rattle.edit_changes.proofs.value.is_words.Goals as goal

-- Every text is UTF-8.
pub returns : goal.returns
returns c =
    let utf8 : is_utf8 c.args.value.now ≡ true = is_utf8-from_IsUtf8 c.args.value.now c.utf8.value in
    rw utf8 (c.has_no_zero.ensures ∙ ap (list_all spec.is_not_zero) c.as_bytes.ensures.value)
