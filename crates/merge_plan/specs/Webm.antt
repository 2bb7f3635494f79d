-- The codecs of WebM, by the WebM project's guidelines for containers.
use Rattle.std.specs.Prelude.{ℕ, Bool, List, [], ◌∷◌, codes}
use Rattle.std.specs.List.{list_any}
use Rattle.std.specs.Str.{bytes_eq}

-- the CodecIDs of the tracks that WebM allows. A merge to WebM refuses others. `is_webm_codec` uses them.
abbrev pub webm_codecs : List (List ℕ)
webm_codecs = codes "V_VP8" ∷ codes "V_VP9" ∷ codes "V_AV1" ∷ codes "A_VORBIS" ∷ codes "A_OPUS" ∷ []

-- WebM allows tracks with the CodecID `codec`. The refusals of a plan use it. Used by `other_codec`.
unfoldable pub is_webm_codec : List ℕ → Bool
is_webm_codec codec = list_any (λ allowed. bytes_eq allowed codec) webm_codecs
