use Rattle.std.proofs.Common.{◌≡◌, ◌∷◌, ap, append-nil, ◌∙◌}
use Rattle.output_model.specs.Duration.{float_octets}
use Rattle.cues_seekhead.proofs.DurationLemmas.{duration-octets}
use Rattle.cues_seekhead.proofs.info.duration_octets.Goals as goal

pub returns : goal.returns
returns c =
    let bits = c.f64_to_bits_with_nan-bits.ensures in
    let octets : c.to_be_bytes.result ≡ float_octets c.args.end = rw (c.nearest_u64_to_f64.ensures) at (rw bits at c.to_be_bytes.ensures) in
    ap (λ w. 0x44 ∷ 0x89 ∷ 0x88 ∷ w) (append-nil _ ∙ c.copy_from_slice.ensures.after ∙ octets) ∙ duration-octets c.args.end c.requires
