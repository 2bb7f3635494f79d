-- Results of the call that loads the data of an Element.
use Rattle.std.specs.Prelude.{ℕ, Bool, true, false, ◌==◌, ◌||◌, if◌then◌else◌, Option, Some, None}
use Rattle.std.specs.Option.{option_map_or}
use Rattle.mkv_schema.specs.declared.ids.TheConstants.{EBML, SEEK_HEAD, CUES}
use Rattle.mkv_io.specs.declared.damage.Damage.{Damage}
use Rattle.mkv_schema.specs.declared.element.Header.{Header}
use Rattle.mkv_schema.specs.declared.limits.TheConstants.{MAX_HEADER_LEN, MAX_MASTER_LEN, MAX_CUES_LEN}
use Rattle.mkv_schema.specs.Outline.{over, is_described}
use Rattle.element_reader.specs.declared.loading.LoadEnd.{LoadEnd}
use Rattle.element_reader.specs.declared.loading.LoadEnd.TheVariants as load_end

-- the greatest length in bytes of the data that is loaded for an Element with the ID `id`, or None if there is no limit; for `too_large`
abbrev pub limit_of : ℕ → Option ℕ
limit_of id =
    if id == EBML then Some MAX_HEADER_LEN else
    if is_described id || id == SEEK_HEAD then Some MAX_MASTER_LEN else
    if id == CUES then Some MAX_CUES_LEN else
    None

-- the damage of the Element with the header `h`, if its data is longer than the limit for its ID, so that `load` refuses it
abbrev pub too_large : Header → Option Damage
too_large h = option_map_or (λ limit. over limit h) (limit_of h.id) None

-- The data of an Element wasn't loaded because a read failed; the argument is the reason that `load` returned.
abbrev pub is_load_fault : LoadEnd → Bool
is_load_fault (load_end.TooLarge d) = false
is_load_fault load_end.ReadFault = true
is_load_fault load_end.Memory = false
