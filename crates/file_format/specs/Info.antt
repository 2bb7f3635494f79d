-- The values of an Info: RFC 9559, section 5.1.2 (Info Element). The causes that refuse it are this project's.
use Rattle.std.specs.Prelude.{◌≡◌, ℕ, ◌==◌, not, List, Option, Some, None, IfSome, Result, Ok, Err, IsOk}
use Rattle.mkv_schema.specs.declared.ids.TheConstants.{INFO, TIMESTAMP_SCALE}
use Rattle.mkv_io.specs.declared.damage.Damage.{Damage}
use Rattle.mkv_io.specs.declared.damage.Kind.TheVariants.{BadValue}
use Rattle.mkv_schema.specs.declared.element.Header.{Header}
use Rattle.mkv_schema.specs.Outline.{segment_run}
use Rattle.mkv_schema.specs.Value.{body_of, first_of}
use Rattle.tree_format.specs.Node.{Node}
use Rattle.tree_format.specs.declared.limits.TheConstants.{MAX_NODES}
use Rattle.tree_format.specs.Reading.{tree_of}
use Rattle.tree_format.specs.Order.{tree_without_limits}
use Rattle.tree_format.specs.Values.{integer_of, uint_in, failing_child}
use Rattle.file_format.specs.declared.scale.TheConstants.{DEFAULT_SCALE}

-- ---- an Info

-- the nanoseconds per tick that the Info `info` gives: its TimestampScale, or the schema's default if that is empty or missing. Used by the contract
-- of `read_info`.
abbrev pub scale_of : Node → ℕ
scale_of info = uint_in TIMESTAMP_SCALE info

-- the damage that refuses the Info `info`: a TimestampScale of 0; otherwise None. `read_info` refuses an Info because of it.
abbrev pub info_refusal : Node → Option Damage
info_refusal info = failing_child BadValue TIMESTAMP_SCALE (λ n. not (integer_of n == 0)) info

-- ---- a file

-- the header of the first Info of the content `bytes` with the Segment header `segment`, before any damage at level 1, if there is one. `file_scale`
-- and `scale_without_limits` use it.
abbrev pub first_info : List ℕ → Header → Option Header
first_info bytes segment = first_of INFO (segment_run bytes segment).list

-- the Info with the header `h` in the content `bytes` as a tree, or the first damage in it, for a reader with limits. `file_scale` uses it.
abbrev pub info_tree : List ℕ → Header → Result Node Damage
info_tree bytes h = tree_of h.id h.offset (body_of bytes h) h.body MAX_NODES

-- the Info with the header `h` in the content `bytes` as a tree, or the first damage in it, for a reader without limits. `scale_without_limits` uses
-- it.
abbrev pub info_without_limits : List ℕ → Header → Result Node Damage
info_without_limits bytes h = tree_without_limits h.id h.offset (body_of bytes h) h.body

-- the nanoseconds per tick that an Info has, given as a tree or the damage in it, or the default for damage. `scale_at` uses it.
abbrev pub scale_in : Result Node Damage → ℕ
scale_in (Ok info) = scale_of info
scale_in (Err damage) = DEFAULT_SCALE

-- the nanoseconds per tick of the Info with the given header, which `read` reads, or the default if there is none. `file_scale` and
-- `scale_without_limits` use it.
abbrev pub scale_at : (Header → Result Node Damage) → Option Header → ℕ
scale_at read None = DEFAULT_SCALE
scale_at read (Some h) = scale_in (read h)

-- the nanoseconds per tick by the first Info of the content `bytes` with the Segment header `segment`, for a reader with limits. Times of blocks
-- depend on it.
unfoldable pub file_scale : List ℕ → Header → ℕ
file_scale bytes segment = scale_at (info_tree bytes) (first_info bytes segment)

-- the nanoseconds per tick by the first Info of the content `bytes` with the Segment header `segment`, for a reader without limits. Compared with
-- `file_scale`.
unfoldable pub scale_without_limits : List ℕ → Header → ℕ
scale_without_limits bytes segment = scale_at (info_without_limits bytes) (first_info bytes segment)

-- If a reader with limits can read the first Info of the content `bytes`, or there is none, a reader without limits finds the same nanoseconds per
-- tick. `segment` is the header of the Segment. The law `limits_change_no_scale` states it.
abbrev pub LimitsChangeNoScale : Type 0
LimitsChangeNoScale =
    (bytes : List ℕ) (segment : Header) → IfSome (first_info bytes segment) (λ h. IsOk (info_tree bytes h))
    → scale_without_limits bytes segment ≡ file_scale bytes segment
