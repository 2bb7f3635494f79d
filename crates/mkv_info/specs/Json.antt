-- JSON values (RFC 8259) that are built of members and items in their order.
use Rattle.std.specs.Prelude.{ℕ, ◌+◌, List, [], ◌∷◌, ◌++◌, Option, Some, None, codes}
use Prim.Native.String.{String}
use Rattle.serde_json.specs.Data.{Data, Members, number, unsigned, array, object, no_members, member}
use Rattle.serde_json.specs.View.{items_of}

-- the JSON number `n`, a count, ID or duration in the identification of a file. Used by `list_outline`, `say_elements` and others.
abbrev pub whole : ℕ → Data
whole n = number (unsigned n)

-- a member of an object: its key, and its value; without a value it is left out. The objects of `merge -J` are lists of them. `object_of` makes an
-- object of them.
abbrev pub Member : Type 0
Member = List ℕ × Option Data

-- the member with the key `key` and the value `value`, which every object of its kind has. The objects of `merge -J` are made of such members.
abbrev pub given : String → Data → Member
given key value = (codes key, Some value)

-- the member with the key `key` and the value `value`, which is left out if there is no value. Titles, durations and tags of a track are such
-- members. Used by `container_properties` and `properties_of`.
abbrev pub if_there : String → Option Data → Member
if_there key value = (codes key, value)

-- the member with the key `key` before the members `ms`; without a value only `ms`. `members_of` uses it.
abbrev pub with_first : List ℕ → Option Data → Members → Members
with_first key None ms = ms
with_first key (Some value) ms = member key value ms

-- the members of an object that have a value, in their order, for `object_of`
abbrev pub members_of : List Member → Members
members_of [] = no_members
members_of (m ∷ ms) = with_first m.0 m.1 (members_of ms)

-- the object with the members `ms` that have a value, in this order. All objects of `merge -J` are made so. Used by `container_value`, `track_value`
-- and others.
abbrev pub object_of : List Member → Data
object_of ms = object (members_of ms)

-- the array with the values `ds`, in this order. The lists in the JSON of `merge -J` are made so. Used by `attachments_value`, `tracks_value` and
-- others.
abbrev pub array_of : List Data → Data
array_of ds = array (items_of ds)

-- the values that `shown` gives for the items of the list, in sequence. It gets the number of each item, which is `k` for the first. Tracks, tags and
-- attached files are numbered so.
abbrev pub numbered : {A : Type 0} → (ℕ → A → List Data) → ℕ → List A → List Data
numbered shown k [] = []
numbered shown k (x ∷ xs) = shown k x ++ numbered shown (k + 1) xs
