use Rattle.std.proofs.Common.{◌∙◌, ap}
use Rattle.serde_json.specs.Written.{compact_text, has_float}
use Rattle.mkv_info.proofs.FloatLemmas.{no-float}
use Rattle.mkv_info.proofs.line.identify.Goals as goal

-- The value has no float, so its text is known.
pub returns : goal.returns
returns c =
    c.from_string.ensures
    ∙ c.in_ok-to_string.ensures.text (ap has_float c.in_ok-value.ensures ∙ no-float _ _)
    ∙ ap compact_text c.in_ok-value.ensures
