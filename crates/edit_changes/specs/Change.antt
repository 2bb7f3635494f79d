-- Edits of Info and Tracks: RFC 9559, sections 5.1.2 (Info Element) and 5.1.4 (Tracks Element). An edit is one change of a property, by `propedit`.
-- The reasons to refuse an edit are this project's.
use Rattle.std.specs.Prelude.{ℕ, ◌+◌, ◌-◌, ◌==◌, Bool, false, ◌&&◌, not, if◌then◌else◌, List, [], ◌∷◌, ◌++◌, slice_get, slice_set, Option, Some, None, Result, Ok, Err}
use Rattle.std.specs.List.{list_any}
use Rattle.std.specs.Option.{is_some}
use Rattle.mkv_schema.specs.declared.ids.TheConstants.{TRACK_ENTRY}
use Rattle.requests.specs.declared.edit.Edit.{Edit}
use Rattle.requests.specs.declared.edit.Selector.{Selector}
use Rattle.requests.specs.declared.edit.Selector.TheVariants.{Info, Nth, Typed, Uid, Number}
use Rattle.requests.specs.declared.edit.Change.{Change}
use Rattle.requests.specs.declared.edit.Change.TheVariants.{Set, Add, Delete}
use Rattle.tree_format.specs.Node.{Node, leaf, id_of, children, with_children}
use Rattle.tree_format.specs.Values.{first_child}
use Rattle.file_format.specs.Entry.{number_of, uid_of, type_of}
use Rattle.tree_format.specs.Children.{set_in, removed_in}
use Rattle.edit_changes.specs.declared.property.Property.{Property}
use Rattle.edit_changes.specs.declared.refusal.EditRefusal.{EditRefusal}
use Rattle.edit_changes.specs.declared.refusal.EditRefusal.TheVariants.{NoInfo, NoSuchTrack, NoSuchProperty, BadPropertyValue, AlreadyThere, Mandatory}
use Rattle.edit_changes.specs.declared.refusal.Refusal.{Refusal}
use Rattle.edit_changes.specs.declared.refusal.Refusal.TheVariants as refusal
use Rattle.edit_changes.specs.declared.trees.Trees.{Trees}
use Rattle.edit_changes.specs.Property.{is_info, property_of, value_of}
use Rattle.mkv_io.specs.Results.{and_then}

-- ---- selection of a TrackEntry

-- The child `n` of Tracks is a TrackEntry of the kind that the selector names, by TrackType, TrackUID or TrackNumber. The selector's position isn't
-- looked at. `place_of` counts the entries that pass.
abbrev pub fits : Selector → Node → Bool
fits Info n = false
fits (Nth k) n = id_of n == TRACK_ENTRY
fits (Typed kind k) n = id_of n == TRACK_ENTRY && type_of n == kind
fits (Uid uid) n = id_of n == TRACK_ENTRY && uid_of n == uid
fits (Number number) n = id_of n == TRACK_ENTRY && number_of n == number

-- the position, from 1, of the TrackEntry that the selector of an edit names, among the TrackEntries that fit it; 0 for the Info. Used by `place_of`.
abbrev pub turn_of : Selector → ℕ
turn_of Info = 0
turn_of (Nth k) = k
turn_of (Typed kind k) = k
turn_of (Uid uid) = 1
turn_of (Number number) = 1

-- the index, from 0, of the `k`-th node of the list that `passes` holds of, counted from 1, or None if there are fewer. `before` other nodes come
-- before the list. `place_of` finds a track with it.
abbrev pub nth_place : (Node → Bool) → ℕ → ℕ → List Node → Option ℕ
nth_place passes k before [] = None
nth_place passes k before (n ∷ ns) =
    if passes n then (if k == 1 then Some before else nth_place passes (k - 1) (before + 1) ns)
    else nth_place passes k (before + 1) ns

-- the index, from 0, of the TrackEntry that `selector` names among `tracks`, the children of Tracks; None if there is none. An edit changes it.
abbrev pub place_of : Selector → List Node → Option ℕ
place_of selector tracks = nth_place (fits selector) (turn_of selector) 0 tracks

-- ---- one change of an Info or a TrackEntry

-- node `n`, an Info or TrackEntry, with a new last child: the ID `id` and the body `value`. `--add` makes it.
abbrev pub added_to : ℕ → List ℕ → Node → Node
added_to id value n = with_children n (children n ++ leaf id 0 value ∷ [])

-- Node `n`, an Info or TrackEntry, has a child with the ID `id`, so `--add` of this property is refused.
abbrev pub has : ℕ → Node → Bool
has id n = is_some (first_child id n)

-- node `n` with the property `id` set to the bytes `value`, as its only child with that ID, as `--set` makes it. No value means one that the property
-- can't have, which is refused.
abbrev pub set : ℕ → Node → Option (List ℕ) → Result Node EditRefusal
set id n None = Err BadPropertyValue
set id n (Some value) = Ok (set_in (leaf id 0 value) n)

-- node `n` with a child for the property `id` added, as `--add` makes it. No value means one that the property can't have, which is refused first,
-- and then a property that exists.
abbrev pub added : ℕ → Node → Option (List ℕ) → Result Node EditRefusal
added id n None = Err BadPropertyValue
added id n (Some value) = if has id n then Err AlreadyThere else Ok (added_to id value n)

-- node `n` without its children for the property `p`, even if it has none, as `--delete` makes it; a mandatory property is refused
abbrev pub deleted : Property → Node → Result Node EditRefusal
deleted p n = if p.deletable then Ok (removed_in p.id n) else Err Mandatory

-- node `n` after one change of its property `p`, by the kind of change. `value` has the bytes on the command line, which a deletion doesn't use. Used
-- by `named`.
abbrev pub changed : Change → List ℕ → Node → Property → Result Node EditRefusal
changed Set value n p = set p.id n (value_of p.kind value)
changed Add value n p = added p.id n (value_of p.kind value)
changed Delete value n p = deleted p n

-- node `n` after the change `change` of a property to `value`, or the refusal. No property means a name that the table doesn't have. `edited_node`
-- uses it.
abbrev pub named : Change → List ℕ → Node → Option Property → Result Node EditRefusal
named change value n None = Err NoSuchProperty
named change value n (Some p) = changed change value n p

-- the Info or TrackEntry `n` after the edit `e` of one of its properties, or the refusal. The contract of `apply` promises it.
abbrev pub edited_node : Edit → Node → Result Node EditRefusal
edited_node e n = named e.change e.value n (property_of (is_info e.place) e.name)

-- ---- the edits of a file in sequence

-- the trees `t` after the edit `e` of the Info, which is the last argument, or the refusal. Without an Info the edit is refused. Used by
-- `edited_once`.
abbrev pub in_info : Edit → Trees → Option Node → Result Trees EditRefusal
in_info e t None = Err NoInfo
in_info e t (Some n) = and_then (edited_node e n) (λ m. Ok (record { info = Some m; tracks = t.tracks }))

-- the trees `t` after the edit `e` of the child of Tracks with index `k`, from 0, or the refusal. The last argument is that child; without it the
-- edit is refused. Used by `in_tracks`.
abbrev pub in_entry : Edit → Trees → ℕ → Option Node → Result Trees EditRefusal
in_entry e t k None = Err NoSuchTrack
in_entry e t k (Some n) = and_then (edited_node e n) (λ m. Ok (record { info = t.info; tracks = slice_set t.tracks k m }))

-- the trees `t` after the edit `e` of the TrackEntry with the index, from 0, that its selector gave, or the refusal. Without an index the edit is
-- refused. Used by `edited_once`.
abbrev pub in_tracks : Edit → Trees → Option ℕ → Result Trees EditRefusal
in_tracks e t None = Err NoSuchTrack
in_tracks e t (Some k) = in_entry e t k (slice_get t.tracks k)

-- the trees `t` after the edit `e` of the Info or of a track, or the refusal. Edits in sequence are made of it. Used by `edited_from`.
abbrev pub edited_once : Edit → Trees → Result Trees EditRefusal
edited_once e t = if is_info e.place then in_info e t t.info else in_tracks e t (place_of e.place t.tracks)

-- the result of one edit, with its number `k` on the command line, from 1, if it is refused. The message of `propedit` has this number.
abbrev pub numbered : {A : Type 0} → ℕ → Result A EditRefusal → Result A Refusal
numbered k (Ok x) = Ok x
numbered k (Err why) = Err (refusal.Edit k why)

-- the trees `t` after the edits of the list, each made on the result of the previous one, or the first refusal. The first edit has number `k + 1` on
-- the command line. `edited_trees` begins at 0.
abbrev pub edited_from : ℕ → List Edit → Trees → Result Trees Refusal
edited_from k [] t = Ok t
edited_from k (e ∷ es) t = and_then (numbered (k + 1) (edited_once e t)) (edited_from (k + 1) es)

-- the trees `t` of a file, its Info and the children of Tracks, after all of `edits` in sequence, or the first refusal. Plans and laws of `propedit`
-- use it.
abbrev pub edited_trees : List Edit → Trees → Result Trees Refusal
edited_trees edits t = edited_from 0 edits t

-- One of `edits` is of the Info, which is then written again even if nothing changes. Plans of `propedit` use it.
abbrev pub are_of_info : List Edit → Bool
are_of_info edits = list_any (λ (e : Edit). is_info e.place) edits

-- One of `edits` is of a track. Tracks is then written again even if nothing changes. Plans of `propedit` use it.
abbrev pub are_of_tracks : List Edit → Bool
are_of_tracks edits = list_any (λ (e : Edit). not (is_info e.place)) edits
