-- Values among the children of a master that is a tree: RFC 8794, section 7 (EBML Element Types).
use Rattle.std.specs.Prelude.{◌≡◌, ℕ, ◌==◌, Bool, true, not, List, Option, Some, find, unwrap_or}
use Rattle.std.specs.Option.{option_map, option_map_or, option_and_then}
use Rattle.mkv_schema.specs.declared.kind.ElementKind.TheVariants.{Uint}
use Rattle.mkv_schema.specs.Schema.{kind_of, may_stand, uint_default, text_default}
use Rattle.mkv_io.specs.declared.damage.Damage.{Damage}
use Rattle.mkv_io.specs.declared.damage.Kind.{Kind}
use Rattle.mkv_schema.specs.Element.{damage}
use Rattle.mkv_schema.specs.Outline.{where_it}
use Rattle.mkv_schema.specs.Value.{uint_value, text_of}
use Rattle.tree_format.specs.Node.{Node, id_of, offset_of, body_of, children}

-- the first child of `tree` with the ID `id`, which gives the value, or None. Readers of values use it.
abbrev pub first_child : ℕ → Node → Option Node
first_child id tree = find (λ n. id_of n == id) (children tree)

-- the value of the unsigned integer `n`, a leaf; an empty one is the schema's default, or 0. Readers of unsigned integers use it. Used by
-- `integer_in` and others.
abbrev pub integer_of : Node → ℕ
integer_of n = uint_value (id_of n) (body_of n)

-- the unsigned integer that is the first child of `tree` with the ID `id`, or None if there is none. Values without a default are read so.
abbrev pub integer_in : ℕ → Node → Option ℕ
integer_in id tree = option_map integer_of (first_child id tree)

-- the unsigned integer that is the first child of `tree` with the ID `id`, or else the schema's default, or 0. Values with a default are read so.
abbrev pub uint_in : ℕ → Node → ℕ
uint_in id tree = unwrap_or (integer_in id tree) (unwrap_or (uint_default id) 0)

-- the text that is the first child of `tree` with the ID `id`, up to its first zero byte. Without one, it is the schema's default, or None. Readers
-- of texts use it.
abbrev pub text_in : ℕ → Node → Option (List ℕ)
text_in id tree = option_map_or (λ n. Some (text_of (body_of n))) (first_child id tree) (text_default id)

-- the damage of the kind `kind` at the first child of `tree` with the ID `id`, if that fails the test `passes`, or None. Encodings, timestamp scales
-- and Info are refused so.
abbrev pub failing_child : Kind → ℕ → (Node → Bool) → Node → Option Damage
failing_child kind id passes tree =
    option_and_then (λ n. where_it (not (passes n)) (damage kind id (offset_of n))) (first_child id tree)

-- The schema has `id` as an unsigned integer under `parent`. Readers of unsigned integers require it.
pub record HasUint (parent id : ℕ) : Type 0 where
  pub stands : may_stand id parent ≡ true
  pub kind : kind_of id ≡ Some Uint
