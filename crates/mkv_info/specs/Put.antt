-- Members that are put into a JSON object in sequence. The code's objects sort their keys.
use Rattle.std.specs.Prelude.{ℕ, Bool, true, false, ◌&&◌, List, [], ◌∷◌, ◌++◌, Option, Some, None, ◌≡◌}
use Rattle.std.specs.Ordering.{nat_cmp, match_ordering}
use Rattle.std.specs.Cmp.Lexicographic.{slice_cmp}
use Rattle.serde_json.specs.Data.{Data, Members, put}
use Rattle.mkv_info.specs.Json.{Member}
use Rattle.std.specs.Option.{option_map}
use Rattle.std.specs.declared.alloc.Global.{Global}
use Rattle.std.specs.declared.string.String.{String}
use Rattle.serde_json.specs.View.{members_view, view}
use Rattle.serde_json.specs.declared.value.Value.{Value}

-- the members `ms` of an object after the member `key` is put into it; without a value the object stays. The contract of the function with this name
-- promises it. Used by `PutsMember` and `put_each`.
abbrev pub put_if : List ℕ → Option Data → Members → Members
put_if key None ms = ms
put_if key (Some value) ms = put key value ms

-- The code put the member `key` with the value `value` into an object, whose members were `old` and are `new`. Without a value the object stays. The
-- contract of `put_if` promises it.
abbrev pub PutsMember : List ℕ → Option Value → List (String Global × Value) → List (String Global × Value) → Type 0
PutsMember key value old new = members_view new ≡ put_if key (option_map view value) (members_view old)

-- the members `ms` of an object after each member of a list is put into it in sequence. Only the proof about the order of keys uses it.
abbrev pub put_each : List Member → Members → Members
put_each [] ms = ms
put_each (m ∷ more) ms = put_each more (put_if m.0 m.1 ms)

-- The key `key` comes after the keys of all members in the list, in the order of bytes. `rise` requires it.
abbrev pub is_behind : List ℕ → List Member → Bool
is_behind key [] = true
is_behind key (m ∷ ms) = match_ordering (slice_cmp nat_cmp key m.0) false false true && is_behind key ms

-- The keys of `more` ascend in the order of bytes, and come after the keys of `before`. Only the proof about the order of keys uses it.
abbrev pub rise : List Member → List Member → Bool
rise before [] = true
rise before (m ∷ more) = is_behind m.0 before && rise (before ++ m ∷ []) more
