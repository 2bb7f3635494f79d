-- The written entry of a track that was read is an entry of a track.
use Rattle.std.proofs.Common.{◌≡◌, ◌<◌, ℕ, ◌^◌, ◌==◌, Bool, true, false, if◌then◌else◌, List, [], ◌∷◌, ◌++◌, find, Option, Some, None, IsSome, IfSome, refl, sym, ap, subst, ◌∙◌, arith, unwrap_or}
use Rattle.std.specs.List.{All, filter}
use Rattle.std.specs.Option.{option_map}
use Rattle.std.specs.Str.{IsUtf8}
use Rattle.std.proofs.lemmas.List.Elements.{All-nil, All-cons, All-head, All-tail, All-append}
use Rattle.ebml_numbers.specs.Number.{uint_octets}
use Rattle.mkv_schema.specs.declared.ids.TheConstants.{TRACK_ENTRY, TRACK_NUMBER, TRACK_UID, TRACK_TYPE, CODEC_ID, DEFAULT_DURATION, NAME, LANGUAGE, LANGUAGE_BCP47, FLAG_DEFAULT, FLAG_FORCED, CONTENT_ENCODINGS, FLAG_ENABLED, FLAG_HEARING_IMPAIRED, FLAG_VISUAL_IMPAIRED, FLAG_TEXT_DESCRIPTIONS, FLAG_ORIGINAL, FLAG_COMMENTARY}
use Rattle.mkv_schema.specs.Schema.{uint_default}
use Rattle.tree_format.specs.Node.{Node, Nodes, leaf, master, id_of, list_of, children, with_children, IsMaster}
use Rattle.tree_format.specs.Changes.{part, without, with_child}
use Rattle.tree_format.specs.Standing.{StandsIn}
use Rattle.tree_format.specs.Values.{first_child, integer_of}
use Rattle.tree_format.proofs.NodeLemmas.{list-nodes}
use Rattle.tree_format.proofs.StandingLemmas.{sound-remove, sound-set}
use Rattle.tree_format.proofs.ValueLemmas.{uint_value-octets}
use Rattle.file_format.specs.Entry.{number_of}
use Rattle.file_format.specs.Refusal.{too_long}
use Rattle.file_format.specs.Tracks.{IsTrack}
use Rattle.track_records.specs.declared.track_change.FlagChange.{FlagChange}
use Rattle.track_records.specs.declared.track_change.TrackChange.{TrackChange}
use Rattle.tree_format.specs.Children.{uint_leaf, set_in, set_each, removed_in, removed_each, given}
use Rattle.track_records.specs.Entry.{flag_leaf, flags_set, children_set, ids_removed, written_entry, IsWholeEntry}
use Rattle.record_laws.proofs.EntryLemmas.{entry_list, written-master, part-number, part-encodings, part-others}
use Rattle.record_laws.proofs.TrackLemmas.{first_in, find-filter}
use Rattle.ebml_tree.proofs.LeafLemmas.{uint-stands, text-stands}
use Rattle.track_records.proofs.StandLemmas as row
use Rattle.track_records.proofs.StandLemmas.{whole-set, whole-removed}
use Rattle.merge_inputs.specs.Taken.{IsTaken}
use Rattle.merge_inputs.specs.declared.taken.TakenTrack.{TakenTrack}

-- ---- changes that can be written

-- The change `c` has a number, an identifier and texts that an entry can have.
pub record CanBeSet (c : TrackChange) : Type 0 where
  pub some : 0 < c.number
  pub number : c.number < 2 ^ 64
  pub uid : c.uid < 2 ^ 64
  pub name : IfSome c.name IsUtf8
  pub language : IfSome c.language IsUtf8
  pub language_tag : IfSome c.language_tag IsUtf8

-- ---- an entry stays valid

-- `n` is a leaf that was made, and is valid in an entry.
record IsMadeLeaf (n : Node) : Type 0 where
  id : ℕ
  body : List ℕ
  is : n ≡ leaf id 0 body
  stands : StandsIn TRACK_ENTRY (leaf id 0 body)

-- A master with other children is still a master.
pub master-with : (n : Node) (ns : List Node) → IsMaster n → IsMaster (with_children n ns)
master-with (leaf id at body) ns is = absurd (cc)
master-with (master id at kids) ns is = refl

set-whole : (n entry : Node) → IsMadeLeaf n → IsWholeEntry entry → IsWholeEntry (set_in n entry)
set-whole n entry made whole =
    let child : Node = leaf made.id 0 made.body in
    let P : Node → Type 0 = λ k. IsWholeEntry (set_in k entry) in
    subst P (sym made.is)
    (whole-set entry (set_in child entry) whole made.id made.body refl (master-with entry (with_child child (children entry)) whole.master) (λ sound stands. sound-set entry child whole.master sound stands) made.stands).whole

sets-whole : (cs : List Node) (entry : Node) → All IsMadeLeaf cs → IsWholeEntry entry → IsWholeEntry (set_each cs entry)
sets-whole [] entry made whole = whole
sets-whole (c ∷ cs) entry made whole = sets-whole cs (set_in c entry) (All-tail IsMadeLeaf c cs made) (set-whole c entry (All-head IsMadeLeaf c cs made) whole)

removed-whole : (id : ℕ) (entry : Node) → IsWholeEntry entry → IsWholeEntry (removed_in id entry)
removed-whole id entry whole =
    whole-removed entry (removed_in id entry) whole id refl (master-with entry (without id (children entry)) whole.master) (λ sound. sound-remove entry id whole.master sound)

-- ---- children that a change sets

text-made : (id : ℕ) (o : Option (List ℕ)) → ((text : List ℕ) → IsUtf8 text → StandsIn TRACK_ENTRY (leaf id 0 text)) → IfSome o IsUtf8 → All IsMadeLeaf (given (leaf id 0) o)
text-made id None stands utf8 = All-nil IsMadeLeaf
text-made id (Some text) stands utf8 = All-cons IsMadeLeaf (leaf id 0 text) [] (record { id = id; body = text; is = refl; stands = stands text utf8 }) (All-nil IsMadeLeaf)

uint-made : (id value : ℕ) → StandsIn TRACK_ENTRY (uint_leaf id value) → IsMadeLeaf (uint_leaf id value)
uint-made id value stands = record { id = id; body = uint_octets value; is = refl; stands = stands }

flag-made : (id : ℕ) (o : Option Bool) → ((value : ℕ) → value < 2 ^ 64 → StandsIn TRACK_ENTRY (uint_leaf id value)) → All IsMadeLeaf (given (flag_leaf id) o)
flag-made id None stands = All-nil IsMadeLeaf
flag-made id (Some true) stands = All-cons IsMadeLeaf (uint_leaf id 1) [] (uint-made id 1 (stands 1 (omega arith))) (All-nil IsMadeLeaf)
flag-made id (Some false) stands = All-cons IsMadeLeaf (uint_leaf id 0) [] (uint-made id 0 (stands 0 (omega arith))) (All-nil IsMadeLeaf)

-- the flags that are set
flags-made : (f : FlagChange) → All IsMadeLeaf (flags_set f)
flags-made f =
    (All-append IsMadeLeaf _ _ (All-append IsMadeLeaf _ _ (All-append IsMadeLeaf _ _ (All-append IsMadeLeaf _ _ (All-append IsMadeLeaf _ _ (flag-made FLAG_ENABLED f.enabled (λ value small. uint-stands TRACK_ENTRY FLAG_ENABLED value row.enabled small))
    (flag-made FLAG_HEARING_IMPAIRED f.hearing_impaired (λ value small. uint-stands TRACK_ENTRY FLAG_HEARING_IMPAIRED value row.hearing_impaired small)))
    (flag-made FLAG_VISUAL_IMPAIRED f.visual_impaired (λ value small. uint-stands TRACK_ENTRY FLAG_VISUAL_IMPAIRED value row.visual_impaired small)))
    (flag-made FLAG_TEXT_DESCRIPTIONS f.text_descriptions (λ value small. uint-stands TRACK_ENTRY FLAG_TEXT_DESCRIPTIONS value row.text_descriptions small)))
    (flag-made FLAG_ORIGINAL f.original (λ value small. uint-stands TRACK_ENTRY FLAG_ORIGINAL value row.original small)))
    (flag-made FLAG_COMMENTARY f.commentary (λ value small. uint-stands TRACK_ENTRY FLAG_COMMENTARY value row.commentary small)))

children-made : (c : TrackChange) → CanBeSet c → All IsMadeLeaf (children_set c)
children-made c can =
    let number : Node = uint_leaf TRACK_NUMBER c.number in
    let own : Node = uint_leaf TRACK_UID c.uid in
    let named : List Node = given (leaf NAME 0) c.name in
    let spoken : List Node = given (leaf LANGUAGE 0) c.language in
    let tagged : List Node = given (leaf LANGUAGE_BCP47 0) c.language_tag in
    let by_default : List Node = given (flag_leaf FLAG_DEFAULT) c.flag_default in
    let are_forced : List Node = given (flag_leaf FLAG_FORCED) c.flag_forced in
    All-append IsMadeLeaf (number ∷ own ∷ named ++ spoken ++ tagged ++ by_default ++ are_forced) (flags_set c.flags)
    (All-append IsMadeLeaf (number ∷ own ∷ named ++ spoken ++ tagged ++ by_default) are_forced
    (All-append IsMadeLeaf (number ∷ own ∷ named ++ spoken ++ tagged) by_default
    (All-append IsMadeLeaf (number ∷ own ∷ named ++ spoken) tagged
    (All-append IsMadeLeaf (number ∷ own ∷ named) spoken
    (All-cons IsMadeLeaf number (own ∷ named) (uint-made TRACK_NUMBER c.number (uint-stands TRACK_ENTRY TRACK_NUMBER c.number row.number can.number))
    (All-cons IsMadeLeaf own named (uint-made TRACK_UID c.uid (uint-stands TRACK_ENTRY TRACK_UID c.uid row.uid can.uid))
    (text-made NAME c.name (λ text utf8. text-stands TRACK_ENTRY NAME text row.name utf8) can.name)))
    (text-made LANGUAGE c.language (λ text utf8. text-stands TRACK_ENTRY LANGUAGE text row.language utf8) can.language))
    (text-made LANGUAGE_BCP47 c.language_tag (λ text utf8. text-stands TRACK_ENTRY LANGUAGE_BCP47 text row.language_tag utf8) can.language_tag))
    (flag-made FLAG_DEFAULT c.flag_default (λ value small. uint-stands TRACK_ENTRY FLAG_DEFAULT value row.flag_default small)))
    (flag-made FLAG_FORCED c.flag_forced (λ value small. uint-stands TRACK_ENTRY FLAG_FORCED value row.flag_forced small)))
    (flags-made c.flags)

-- The written form of a valid entry is valid.
pub written-whole : (c : TrackChange) (stored : Bool) (entry : Node) → CanBeSet c → IsWholeEntry entry → IsWholeEntry (written_entry c stored entry)
written-whole c stored entry can whole = sets-whole (children_set c) (removed_each (ids_removed stored c.language) entry) (children-made c can) (bare stored c.language)
  where
    bare : (s : Bool) (o : Option (List ℕ)) → IsWholeEntry (removed_each (ids_removed s o) entry)
    bare true None = whole
    bare true (Some text) = removed-whole LANGUAGE_BCP47 entry whole
    bare false None = removed-whole CONTENT_ENCODINGS entry whole
    bare false (Some text) = removed-whole LANGUAGE_BCP47 (removed_in CONTENT_ENCODINGS entry) (removed-whole CONTENT_ENCODINGS entry whole)

-- ---- an entry stays a track

-- It is a master, since it has children.
master-of : (n : Node) → IsSome (first_child TRACK_TYPE n) → IsMaster n
master-of (leaf id at body) some = absurd (cc)
master-of (master id at kids) some = refl

-- The entry of a selected track is valid.
pub taken-whole : (t : TakenTrack) → IsTaken t → IsWholeEntry t.track.entry
taken-whole t is = record { id = is.entry.id; master = master-of t.track.entry is.track.type; sound = is.entry.sound; room = is.room }

module _ (c : TrackChange) (stored : Bool) where
  -- The first child with an ID that isn't changed stays.
  pub first-kept : (id i at : ℕ) (kids : Nodes) → ((ns : List Node) → filter (λ n. id_of n == id) (entry_list c stored ns) ≡ filter (λ n. id_of n == id) ns)
      → first_child id (written_entry c stored (master i at kids)) ≡ first_child id (master i at kids)
  first-kept id i at kids keeps =
      let old : List Node = list_of kids in
      let all : List Node = entry_list c stored old in
      ap (first_child id) (written-master c stored i at kids) ∙ ap (find (λ n. id_of n == id)) (list-nodes all)
      ∙ find-filter (λ n. id_of n == id) all ∙ ap first_in (keeps old) ∙ sym (find-filter (λ n. id_of n == id) old)

  -- The first TrackType stays, too.
  pub type-kept : (i at : ℕ) (kids : Nodes) → first_child TRACK_TYPE (written_entry c stored (master i at kids)) ≡ first_child TRACK_TYPE (master i at kids)
  type-kept i at kids = first-kept TRACK_TYPE i at kids (λ ns. part-others c stored ns TRACK_TYPE refl refl refl refl)

  codec-kept : (i at : ℕ) (kids : Nodes) → first_child CODEC_ID (written_entry c stored (master i at kids)) ≡ first_child CODEC_ID (master i at kids)
  codec-kept i at kids = first-kept CODEC_ID i at kids (λ ns. part-others c stored ns CODEC_ID refl refl refl refl)

  duration-kept : (i at : ℕ) (kids : Nodes) → first_child DEFAULT_DURATION (written_entry c stored (master i at kids)) ≡ first_child DEFAULT_DURATION (master i at kids)
  duration-kept i at kids = first-kept DEFAULT_DURATION i at kids (λ ns. part-others c stored ns DEFAULT_DURATION refl refl refl refl)

  number-set : (i at : ℕ) (kids : Nodes) → CanBeSet c → number_of (written_entry c stored (master i at kids)) ≡ c.number
  number-set i at kids can =
      let all : List Node = entry_list c stored (list_of kids) in
      let found : first_child TRACK_NUMBER (written_entry c stored (master i at kids)) ≡ Some (uint_leaf TRACK_NUMBER c.number) =
      ap (first_child TRACK_NUMBER) (written-master c stored i at kids) ∙ ap (find (λ n. id_of n == TRACK_NUMBER)) (list-nodes all)
      ∙ find-filter (λ n. id_of n == TRACK_NUMBER) all ∙ ap first_in (part-number c stored (list_of kids)) in
      ap (λ o. unwrap_or (option_map integer_of o) (unwrap_or (uint_default TRACK_NUMBER) 0)) found ∙ uint_value-octets TRACK_NUMBER c.number (uint_octets c.number) can.number refl

-- It has the number that it was given.
pub written-number : (c : TrackChange) (stored : Bool) (entry : Node) → CanBeSet c → IsWholeEntry entry → number_of (written_entry c stored entry) ≡ c.number
written-number c stored (leaf id at body) can whole = let never = whole.master in absurd (cc)
written-number c stored (master id at kids) can whole = number-set c stored id at kids can

-- It has its own ContentEncodings if its frames are taken as they are stored, and none otherwise.
pub written-encodings : (c : TrackChange) (stored : Bool) (entry : Node) → IsWholeEntry entry
    → part CONTENT_ENCODINGS (children (written_entry c stored entry)) ≡ (if stored then part CONTENT_ENCODINGS (children entry) else [])
written-encodings c stored (leaf id at body) whole = let never = whole.master in absurd (cc)
written-encodings c stored (master id at kids) whole =
    let all : List Node = entry_list c stored (list_of kids) in
    ap (λ (n : Node). part CONTENT_ENCODINGS (children n)) (written-master c stored id at kids) ∙ ap (part CONTENT_ENCODINGS) (list-nodes all) ∙ part-encodings c stored (list_of kids)

-- The written entry of a track is an entry of a track.
pub written-track : (c : TrackChange) (stored : Bool) (entry : Node) → CanBeSet c → IsWholeEntry entry → IsTrack entry → IsTrack (written_entry c stored entry)
written-track c stored (leaf id at body) can whole track = let never = whole.master in absurd (cc)
written-track c stored (master id at kids) can whole track =
    let some = can.some in
    let number = number-set c stored id at kids can in
    let Q : Option Node → Type 0 = IsSome in
    let R : Option Node → Type 0 = λ o. IfSome (option_map integer_of o) (λ d. d < too_long) in
    record {
      number = omega arith;
      type = subst Q (sym (type-kept c stored id at kids)) track.type;
      codec = subst Q (sym (codec-kept c stored id at kids)) track.codec;
      duration = subst R (sym (duration-kept c stored id at kids)) track.duration;
    }
