-- The damage of a body, by the place of its Element: RFC 8794, sections 6 (Element Data Size) and 6.2 (Unknown Data Size), and RFC 9559, section
-- 5.1 (Segment Element).
use Rattle.std.specs.Prelude.{◌≡◌, ℕ, ◌==◌, nat_lt, not, ◌&&◌, if◌then◌else◌, Option, Some, None}
use Rattle.mkv_schema.specs.declared.ids.TheConstants.{SEGMENT}
use Rattle.mkv_io.specs.declared.damage.Kind.{Kind}
use Rattle.mkv_io.specs.declared.damage.Kind.TheVariants.{TooLong, Truncated, UnknownSize}
use Rattle.mkv_schema.specs.declared.element.Header.{Header}
use Rattle.mkv_schema.specs.Element.{Setting, at_level_0, in_segment, in_master, in_tree, anywhere, may_be_open, is_unknown, stated_end, body_damage}

-- In each definition `total` is the length of the file in bytes, and `e` the end of the Element's parent, at most `total`.

-- the damage of the content of `h`, a Segment at level 0 or a Cluster in its Segment, or None. Its size may be unknown, and only the end of the file
-- may cut it. `total` is the length of the file, and `e` the end of its parent, in bytes.
abbrev pub damage_of_open : ℕ → ℕ → Header → Option Kind
damage_of_open total e h = if nat_lt e (stated_end h) && not (e == total) then Some TooLong else None

-- the damage of the content of `h`, an Element of a master that is read whole, or None. Its size must be known, and it must end with its parent or
-- before. `e` is the offset of the parent's end. Used by `damage_by_place`.
abbrev pub damage_in_tree : ℕ → Header → Option Kind
damage_in_tree e h = if is_unknown h.size then Some UnknownSize else if nat_lt e (stated_end h) then Some TooLong else None

-- the damage of the content of `h`, a Segment or a Cluster elsewhere, or None. Its size must be known, and it must end with its parent or before. If
-- its parent ends with the file, it is truncated. `total` is the length of the file, and `e` the end of its parent.
abbrev pub damage_of_misplaced : ℕ → ℕ → Header → Option Kind
damage_of_misplaced total e h =
    if is_unknown h.size then Some UnknownSize else
    if nat_lt e (stated_end h) then Some (if e == total then Truncated else TooLong) else None

-- the damage of the content of `h`, any other Element, or None. Its size must be known, and it must end with its parent or before. If it passes the
-- end of the file, it is truncated. `total` is the length of the file, and `e` the end of its parent.
abbrev pub damage_of_other : ℕ → ℕ → Header → Option Kind
damage_of_other total e h =
    if is_unknown h.size then Some UnknownSize else
    if nat_lt total (stated_end h) then Some Truncated else
    if nat_lt e (stated_end h) then Some TooLong else None

-- the damage of the content of the Element `h` in the setting `s`, by its place, or None. `total` is the length of the file, and `e` the end of its
-- parent. The law `damages_are_by_place` compares it with `body_damage`.
abbrev pub damage_by_place : Setting → ℕ → ℕ → Header → Option Kind
damage_by_place s total e h =
    if s.may_open h.id then damage_of_open total e h else
    if s.read_whole then damage_in_tree e h else
    if may_be_open h.id then damage_of_misplaced total e h else
    damage_of_other total e h

-- In the setting `s` the damage of each body is the one that `damage_by_place` gives by the place of the Element. `DamagesAreByPlace` requires it of
-- each setting.
abbrev pub IsByPlace : Setting → Type 0
IsByPlace s = (total e : ℕ) (h : Header) → body_damage s total e h ≡ damage_by_place s total e h

-- In each setting `damage_by_place` is the damage of a body. At level 0, whose parent is the file, a Segment's body has no damage. It is the law
-- `damages_are_by_place`.
pub record DamagesAreByPlace : Type 0 where
  pub level_0 : IsByPlace at_level_0
  pub segment : IsByPlace in_segment
  pub master : IsByPlace in_master
  pub tree : (parent : ℕ) → IsByPlace (in_tree parent)
  pub any : IsByPlace anywhere
  pub whole_file : (total : ℕ) (h : Header) → h.id ≡ SEGMENT → body_damage at_level_0 total total h ≡ None
