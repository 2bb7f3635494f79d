-- The outline of a file that has no limits: RFC 8794, section 8 (EBML Document), and RFC 9559, sections 4.5 (Data Layout) and 5.1 (Segment Element).
use Rattle.std.specs.Prelude.{◌≡◌, ℕ, List, Result, Ok}
use Rattle.mkv_io.specs.declared.damage.Damage.{Damage}
use Rattle.mkv_schema.specs.declared.element.Header.{Header}
use Rattle.mkv_schema.specs.Outline.{Outlined, first_damage, first_element, header_children, children_causes, segment_of, segment_run, outlined, outline_of}
use Rattle.mkv_io.specs.Results.{and_then, unless}

-- the EBML header of the content `bytes`, of any length, or the damage that refuses the file there. `outline_without_limits` begins with it.
abbrev pub header_without_limit : List ℕ → Result Header Damage
header_without_limit bytes =
    and_then (first_element bytes) (λ h. unless (first_damage (children_causes bytes (header_children bytes h))) h)

-- the outline of the content `bytes`, or the first refusal. The EBML header and the Elements of level 1 may have any length and number. Laws on
-- outputs read them with it.
unfoldable pub outline_without_limits : List ℕ → Result Outlined Damage
outline_without_limits bytes =
    and_then (header_without_limit bytes) (λ ebml.
    and_then (segment_of bytes ebml) (λ segment. Ok (outlined bytes ebml segment (segment_run bytes segment))))

-- An outline `o` that a reader with limits finds in the content `bytes` is the outline without limits. `held` bytes are held of earlier inputs. It is
-- the law `limits_only_refuse`.
abbrev pub LimitsOnlyRefuse : Type 0
LimitsOnlyRefuse = (held : ℕ) (bytes : List ℕ) (o : Outlined) → outline_of held bytes ≡ Ok o → outline_without_limits bytes ≡ Ok o
