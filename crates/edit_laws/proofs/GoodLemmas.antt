-- Edited trees aren't refused, also after they are written and read again.
use Rattle.std.proofs.Common.{inl, inr, ◌≡◌, ◌≢◌, ◌⊎◌, ◌<◌, ℕ, zero, suc, ◌+◌, ◌-◌, ◌^◌, ◌==◌, not, Bool, true, false, ◌&&◌, ◌||◌, if◌then◌else◌, List, [], ◌∷◌, ◌++◌, append-nil, length, map, find, All, Option, Some, None, IfSome, Ok, Err, slice_get, slice_set, option_map, unwrap_or, is_some, refl, sym, ◌∙◌, ap, subst, arith}
use Rattle.std.specs.List.{AllPairs, list_all}
use Rattle.std.specs.Option.{option_and_then}
use Rattle.std.specs.Str.{bytes_eq}
use Rattle.std.proofs.lemmas.Bool.{and_parts}
use Rattle.std.proofs.lemmas.Bool.Decides.{nat_tests}
use Rattle.std.proofs.lemmas.List.{length-map}
use Rattle.std.proofs.lemmas.List.Elements.{All-nil, All-cons, All-head, All-tail, filter-append}
use Rattle.mkv_schema.specs.declared.ids.TheConstants.{CODEC_ID, DEFAULT_DURATION, TIMESTAMP_SCALE, TRACK_ENTRY, TRACK_NUMBER, TRACK_TYPE}
use Rattle.mkv_io.specs.declared.damage.Kind.TheVariants.{BadValue}
use Rattle.mkv_schema.specs.Element.{damage}
use Rattle.mkv_schema.specs.Outline.{where_it}
use Rattle.mkv_schema.specs.Schema.{uint_default}
use Rattle.requests.specs.declared.edit.Edit.{Edit}
use Rattle.requests.specs.declared.edit.Change.{Change}
use Rattle.requests.specs.declared.edit.Change.TheVariants.{Set, Add, Delete}
use Rattle.requests.specs.Decimal.{number}
use Rattle.tree_format.specs.Node.{Node, Nodes, leaf, master, nodes_of, list_of, id_of, offset_of, children, with_children}
use Rattle.tree_format.specs.NormalForm.{header_octets, is_filler, octets_all}
use Rattle.tree_format.specs.Changes.{part, with_child, without}
use Rattle.tree_format.specs.Standing.{placed, placed_all}
use Rattle.tree_format.specs.Values.{first_child, integer_in, integer_of}
use Rattle.tree_format.proofs.NodeLemmas.{list-nodes}
use Rattle.tree_format.proofs.PartLemmas.{none-without, part-none, part-other, part-set, part-without}
use Rattle.tree_format.proofs.ValueLemmas.{uint_value-octets}
use Rattle.file_format.specs.Entry.{default_duration_of, number_of}
use Rattle.file_format.specs.Info.{info_refusal}
use Rattle.file_format.specs.Refusal.{refusal_of, too_long}
use Rattle.file_format.specs.Tracks.{AreTracks, IsTrack}
use Rattle.file_format.proofs.TracksLemmas.{refusal-none}
use Rattle.meta_records.specs.Records.{scale_of_info}
use Rattle.record_laws.proofs.SameLemmas.{integer-placed, part-placed}
use Rattle.record_laws.proofs.TrackLemmas.{find-filter, find-map, first_in}
use Rattle.edit_changes.specs.declared.property.Property.{Property}
use Rattle.edit_changes.specs.declared.property.ValueKind.{ValueKind}
use Rattle.edit_changes.specs.declared.property.ValueKind.TheVariants.{Words, Language, LanguageTag, Codec, Duration, Flag}
use Rattle.edit_changes.specs.declared.refusal.EditRefusal.TheVariants as why
use Rattle.edit_changes.specs.declared.trees.Trees.{Trees}
use Rattle.edit_changes.specs.Property.{Row, info_table, is_info, property_of, track_table, value_of}
use Rattle.edit_changes.specs.Change.{added, added_to, changed, edited_from, edited_node, edited_once, has, named, numbered, set}
use Rattle.edit_laws.proofs.TreeLemmas.{Once, number-is, numbered-ok, of_info, of_tracks, once-is, then-ok}

-- ---- properties

is_duration : ValueKind → Bool
is_duration Duration = true
is_duration Words = false
is_duration Language = false
is_duration LanguageTag = false
is_duration Codec = false
is_duration Flag = false

-- The property isn't the TrackNumber or the TrackType. A CodecID can't be deleted, and a DefaultDuration is a duration.
is_safe : Property → Bool
is_safe p = not (p.id == TRACK_NUMBER) && (not (p.id == TRACK_TYPE) && ((not (p.id == CODEC_ID) || not p.deletable) && (not (p.id == DEFAULT_DURATION) || is_duration p.kind)))

record IsSafe (p : Property) : Type 0 where
  number : (p.id == TRACK_NUMBER) ≡ false
  type : (p.id == TRACK_TYPE) ≡ false
  codec : (p.id == CODEC_ID) ≡ true → p.deletable ≡ false
  duration : (p.id == DEFAULT_DURATION) ≡ true → p.kind ≡ Duration

not-both : (a b : Bool) → (not a || b) ≡ true → a ≡ true → b ≡ true
not-both true b is own = is
not-both false b is own = absurd (cc)

kind-is : (k : ValueKind) → is_duration k ≡ true → k ≡ Duration
unfolding is_duration
kind-is Duration is = refl
kind-is Words is = absurd (cc)
kind-is Language is = absurd (cc)
kind-is LanguageTag is = absurd (cc)
kind-is Codec is = absurd (cc)
kind-is Flag is = absurd (cc)

safe-is : (p : Property) → is_safe p ≡ true → IsSafe p
unfolding is_safe
safe-is p is =
    let one = and_parts (not (p.id == TRACK_NUMBER)) _ is in
    let two = and_parts (not (p.id == TRACK_TYPE)) _ one.1 in
    let three = and_parts (not (p.id == CODEC_ID) || not p.deletable) _ two.1 in
    record {
      number = not-true (p.id == TRACK_NUMBER) one.0;
      type = not-true (p.id == TRACK_TYPE) two.0;
      codec = λ own. not-true p.deletable (not-both (p.id == CODEC_ID) (not p.deletable) three.0 own);
      duration = λ own. kind-is p.kind (not-both (p.id == DEFAULT_DURATION) (is_duration p.kind) three.1 own);
    }
  where
    not-true : (b : Bool) → not b ≡ true → b ≡ false
    not-true false is = refl
    not-true true is = absurd (cc)

-- A row that is found passes a test that all rows pass.
row-passes : (q : Property → Bool) (test : Row → Bool) (rows : List Row) (p : Property) → list_all (λ (r : Row). q r.property) rows ≡ true → option_map (λ (r : Row). r.property) (find test rows) ≡ Some p → q p ≡ true
row-passes q test [] p all is = absurd (cc)
row-passes q test (r ∷ rs) p all is = of (row-passes q test rs p (and_parts (q r.property) (list_all (λ (r : Row). q r.property) rs) all).1) (test r) is
  where
    of : (option_map (λ (r : Row). r.property) (find test rs) ≡ Some p → q p ≡ true) → (b : Bool) → option_map (λ (r : Row). r.property) (if b then Some r else find test rs) ≡ Some p → q p ≡ true
    of further true is = let same : r.property ≡ p = cc in ap q (sym same) ∙ (and_parts (q r.property) (list_all (λ (r : Row). q r.property) rs) all).0
    of further false is = further is

track-safe : (name : List ℕ) (p : Property) → property_of false name ≡ Some p → IsSafe p
unfolding property_of is_safe is_duration
track-safe name p is = safe-is p (row-passes is_safe (λ (r : Row). bytes_eq name r.name) track_table p refl is)

info-safe : (name : List ℕ) (p : Property) → property_of true name ≡ Some p → (p.id == TIMESTAMP_SCALE) ≡ false
unfolding property_of
info-safe name p is = not-true (p.id == TIMESTAMP_SCALE) (row-passes (λ (p : Property). not (p.id == TIMESTAMP_SCALE)) (λ (r : Row). bytes_eq name r.name) info_table p refl is)
  where
    not-true : (b : Bool) → not b ≡ true → b ≡ false
    not-true false is = refl
    not-true true is = absurd (cc)

-- ---- children after a change

-- The node `m` is `n` with a change of the property `p`: other children stay. The property's own ones stay, or are one with the value, or are gone.
record HasChange (value : List ℕ) (p : Property) (n m : Node) : Type 0 where
  id : id_of m ≡ id_of n
  others : (id : ℕ) → (p.id == id) ≡ false → part id (children m) ≡ part id (children n)
  own : (part p.id (children m) ≡ part p.id (children n))
      ⊎ (((octets : List ℕ) × (value_of p.kind value ≡ Some octets) × (part p.id (children m) ≡ leaf p.id 0 octets ∷ []))
      ⊎ ((p.deletable ≡ true) × (part p.id (children m) ≡ [])))

same-node : (value : List ℕ) (p : Property) (n m : Node) → n ≡ m → HasChange value p n m
same-node value p n m same = subst (HasChange value p n) same (record { id = refl; others = λ id other. refl; own = inl refl })

push-part : (id : ℕ) (ns : List Node) (c : Node) → (id_of c == id) ≡ false → part id (ns ++ c ∷ []) ≡ part id ns
push-part id ns c other =
    filter-append (λ (k : Node). id_of k == id) ns (c ∷ []) ∙ ap (λ (b : Bool). part id ns ++ (if b then c ∷ [] else [])) other ∙ append-nil (part id ns)

-- Without a child with the ID there is none among its children.
none-found : (id : ℕ) (ns : List Node) → is_some (find (λ (k : Node). id_of k == id) ns) ≡ false → part id ns ≡ []
none-found id [] none = refl
none-found id (n ∷ ns) none = of (none-found id ns) (id_of n == id) none
  where
    of : (is_some (find (λ (k : Node). id_of k == id) ns) ≡ false → part id ns ≡ []) → (test : Bool) → is_some (if test then Some n else find (λ (k : Node). id_of k == id) ns) ≡ false → (if test then n ∷ part id ns else part id ns) ≡ []
    of further true none = absurd (cc)
    of further false none = further none

changed-is : (change : Change) (value : List ℕ) (n m : Node) (p : Property) → changed change value n p ≡ Ok m → HasChange value p n m
changed-is Set value n m p is = of (value_of p.kind value) refl is
  where
    put : (octets : List ℕ) → value_of p.kind value ≡ Some octets → (n : Node) → with_children n (with_child (leaf p.id 0 octets) (children n)) ≡ m → HasChange value p n m
    put octets some (leaf id at body) same = same-node value p (leaf id at body) m same
    put octets some (master id at kids) same =
        let kids_are : children (master id at (nodes_of (with_child (leaf p.id 0 octets) (list_of kids)))) ≡ with_child (leaf p.id 0 octets) (list_of kids) = list-nodes (with_child (leaf p.id 0 octets) (list_of kids)) in
        subst (HasChange value p (master id at kids)) same (record {
          id = refl;
          others = λ i other. ap (part i) kids_are ∙ part-other i (leaf p.id 0 octets) (list_of kids) other;
          own = inr (inl (octets, some, ap (part p.id) kids_are ∙ part-set (leaf p.id 0 octets) (list_of kids)));
        })

    of : (octets : Option (List ℕ)) → value_of p.kind value ≡ octets → set p.id n octets ≡ Ok m → HasChange value p n m
    of None none is = absurd (cc)
    of (Some octets) some is = put octets some n (cc)
changed-is Add value n m p is = of (value_of p.kind value) refl is
  where
    put : (octets : List ℕ) → value_of p.kind value ≡ Some octets → (n : Node) → has p.id n ≡ false → with_children n (children n ++ leaf p.id 0 octets ∷ []) ≡ m → HasChange value p n m
    put octets some (leaf id at body) lacks same = same-node value p (leaf id at body) m same
    put octets some (master id at kids) lacks same =
        let kids_are : children (master id at (nodes_of (list_of kids ++ leaf p.id 0 octets ∷ []))) ≡ list_of kids ++ leaf p.id 0 octets ∷ [] = list-nodes (list_of kids ++ leaf p.id 0 octets ∷ []) in
        let own : (p.id == p.id) ≡ true = grind (arith, nat_tests) in
        subst (HasChange value p (master id at kids)) same (record {
          id = refl;
          others = λ i other. ap (part i) kids_are ∙ push-part i (list_of kids) (leaf p.id 0 octets) other;
          own = inr (inl (
            octets,
            some,
            ap (part p.id) kids_are ∙ filter-append (λ (k : Node). id_of k == p.id) (list_of kids) (leaf p.id 0 octets ∷ [])
                ∙ ap (λ (l : List Node). l ++ part p.id (leaf p.id 0 octets ∷ [])) (none-found p.id (list_of kids) lacks)
                ∙ ap (λ (b : Bool). [] ++ (if b then leaf p.id 0 octets ∷ [] else [])) own,
          ));
        })

    there : (octets : List ℕ) → value_of p.kind value ≡ Some octets → (b : Bool) → has p.id n ≡ b → (if b then Err why.AlreadyThere else Ok (added_to p.id octets n)) ≡ Ok m → HasChange value p n m
    there octets some true own is = absurd (cc)
    there octets some false lacks is = put octets some n lacks (cc)

    of : (octets : Option (List ℕ)) → value_of p.kind value ≡ octets → added p.id n octets ≡ Ok m → HasChange value p n m
    of None none is = absurd (cc)
    of (Some octets) some is = there octets some (has p.id n) refl is
changed-is Delete value n m p is = of p.deletable refl is
  where
    put : p.deletable ≡ true → (n : Node) → with_children n (without p.id (children n)) ≡ m → HasChange value p n m
    put may (leaf id at body) same = same-node value p (leaf id at body) m same
    put may (master id at kids) same =
        let kids_are : children (master id at (nodes_of (without p.id (list_of kids)))) ≡ without p.id (list_of kids) = list-nodes (without p.id (list_of kids)) in
        subst (HasChange value p (master id at kids)) same (record {
          id = refl;
          others = λ i other. ap (part i) kids_are ∙ part-without i p.id (list_of kids) other;
          own = inr (inr (may, ap (part p.id) kids_are ∙ part-none p.id (without p.id (list_of kids)) (none-without p.id (list_of kids))));
        })

    of : (may : Bool) → p.deletable ≡ may → (if may then Ok (with_children n (without p.id (children n))) else Err why.Mandatory) ≡ Ok m → HasChange value p n m
    of true may is = put may n (cc)
    of false may is = absurd (cc)

-- ---- one entry

-- The first child with an ID is the first of all with this ID.
first-is : (id : ℕ) (n : Node) (ns : List Node) → part id (children n) ≡ ns → first_child id n ≡ first_in ns
first-is id n ns is = find-filter (λ (k : Node). id_of k == id) (children n) ∙ ap first_in is

first-same : (id : ℕ) (n m : Node) → part id (children m) ≡ part id (children n) → first_child id m ≡ first_child id n
first-same id n m same = first-is id m (part id (children n)) same ∙ sym (first-is id n (part id (children n)) refl)

module _ (value : List ℕ) (p : Property) (n m : Node) (is : HasChange value p n m) where
  other-same : (id : ℕ) → (p.id == id) ≡ false → first_child id m ≡ first_child id n
  other-same id other = first-same id n m (is.others id other)

  number-stays : IsSafe p → number_of m ≡ number_of n
  number-stays safe = ap (λ (o : Option Node). unwrap_or (option_map integer_of o) (unwrap_or (uint_default TRACK_NUMBER) 0)) (other-same TRACK_NUMBER safe.number)

  codec-stays : IsSafe p → is_some (first_child CODEC_ID n) ≡ true → is_some (first_child CODEC_ID m) ≡ true
  codec-stays safe old = of (p.id == CODEC_ID) refl
    where
      mine : (p.id == CODEC_ID) ≡ true → p.id ≡ CODEC_ID → is_some (first_child CODEC_ID m) ≡ true
      mine test own = elim is.own [
        | inl same ↦ ap is_some (first-same CODEC_ID n m (subst (λ (i : ℕ). part i (children m) ≡ part i (children n)) own same)) ∙ old
        | inr changed ↦ elim changed [
          | inl put ↦ ap is_some (first-is CODEC_ID m (leaf p.id 0 put.0 ∷ []) (ap (λ (i : ℕ). part i (children m)) (sym own) ∙ put.2))
          | inr gone ↦ absurd (let kept = safe.codec test in let may = gone.0 in cc)
        ]
      ]

      of : (test : Bool) → (p.id == CODEC_ID) ≡ test → is_some (first_child CODEC_ID m) ≡ true
      of false other = ap is_some (other-same CODEC_ID other) ∙ old
      of true test = mine test (let own : p.id ≡ CODEC_ID = grind (arith, nat_tests) in own)

  duration-stays : IsSafe p → IfSome (default_duration_of n) (λ d. d < too_long) → IfSome (default_duration_of m) (λ d. d < too_long)
  duration-stays safe old = of (p.id == DEFAULT_DURATION) refl
    where
      short-leaf : (kind : ValueKind) (octets : List ℕ) → kind ≡ Duration → value_of kind value ≡ Some octets → integer_of (leaf DEFAULT_DURATION 0 octets) < too_long
      short-leaf kind octets duration some =
          let made = number-is 1 (2 ^ 48 - 1) (number value) octets (subst (λ (k : ValueKind). value_of k value ≡ Some octets) duration some) in
          let few = made.1 in
          let same = uint_value-octets DEFAULT_DURATION made.0 octets (omega arith) (sym made.2) in
          omega arith

      mine : (p.id == DEFAULT_DURATION) ≡ true → p.id ≡ DEFAULT_DURATION → IfSome (option_map integer_of (first_child DEFAULT_DURATION m)) (λ d. d < too_long)
      mine test own = elim is.own [
        | inl same ↦ subst (λ (o : Option Node). IfSome (option_map integer_of o) (λ d. d < too_long)) (sym (first-same DEFAULT_DURATION n m (subst (λ (i : ℕ). part i (children m) ≡ part i (children n)) own same))) old
        | inr changed ↦ elim changed [
          | inl put ↦
              subst (λ (o : Option Node). IfSome (option_map integer_of o) (λ d. d < too_long))
              (sym (first-is DEFAULT_DURATION m (leaf DEFAULT_DURATION 0 put.0 ∷ []) (ap (λ (i : ℕ). part i (children m)) (sym own) ∙ put.2 ∙ ap (λ (i : ℕ). leaf i 0 put.0 ∷ []) own)))
              (short-leaf p.kind put.0 (safe.duration test) put.1)
          | inr gone ↦
              subst (λ (o : Option Node). IfSome (option_map integer_of o) (λ d. d < too_long))
              (sym (first-is DEFAULT_DURATION m [] (ap (λ (i : ℕ). part i (children m)) (sym own) ∙ gone.1))) tt
        ]
      ]

      of : (test : Bool) → (p.id == DEFAULT_DURATION) ≡ test → IfSome (option_map integer_of (first_child DEFAULT_DURATION m)) (λ d. d < too_long)
      of false other = subst (λ (o : Option Node). IfSome (option_map integer_of o) (λ d. d < too_long)) (sym (other-same DEFAULT_DURATION other)) old
      of true test = mine test (let own : p.id ≡ DEFAULT_DURATION = grind (arith, nat_tests) in own)

  -- The entry of a track is one after the change, too.
  track-stays : IsSafe p → IsTrack n → IsTrack m
  track-stays safe track = record {
    number = subst (λ (k : ℕ). 0 < k) (sym (number-stays safe)) track.number;
    type = ap is_some (other-same TRACK_TYPE safe.type) ∙ track.type;
    codec = codec-stays safe track.codec;
    duration = duration-stays safe track.duration;
  }

  -- An Info keeps its scale.
  scale-stays : (p.id == TIMESTAMP_SCALE) ≡ false → integer_in TIMESTAMP_SCALE m ≡ integer_in TIMESTAMP_SCALE n
  scale-stays other = ap (option_map integer_of) (other-same TIMESTAMP_SCALE other)

-- ---- all entries

set-numbers : (ts : List Node) (k : ℕ) (n m : Node) → slice_get ts k ≡ Some n → id_of m ≡ id_of n → number_of m ≡ number_of n → map number_of (part TRACK_ENTRY (slice_set ts k m)) ≡ map number_of (part TRACK_ENTRY ts)
set-numbers [] k n m at id number = absurd (cc)
set-numbers (x ∷ xs) zero n m at id number =
    let same : x ≡ n = cc in
    ap (λ (b : Bool). map number_of (if b then m ∷ part TRACK_ENTRY xs else part TRACK_ENTRY xs)) (ap (λ i. i == TRACK_ENTRY) (id ∙ ap id_of (sym same)))
    ∙ of (ap number_of same) (id_of x == TRACK_ENTRY)
  where
    of : number_of x ≡ number_of n → (b : Bool) → map number_of (if b then m ∷ part TRACK_ENTRY xs else part TRACK_ENTRY xs) ≡ map number_of (if b then x ∷ part TRACK_ENTRY xs else part TRACK_ENTRY xs)
    of own true = ap (λ (k : ℕ). k ∷ map number_of (part TRACK_ENTRY xs)) (number ∙ sym own)
    of own false = refl
set-numbers (x ∷ xs) (suc k) n m at id number = of (set-numbers xs k n m at id number) (id_of x == TRACK_ENTRY)
  where
    of : map number_of (part TRACK_ENTRY (slice_set xs k m)) ≡ map number_of (part TRACK_ENTRY xs) → (b : Bool)
        → map number_of (if b then x ∷ part TRACK_ENTRY (slice_set xs k m) else part TRACK_ENTRY (slice_set xs k m)) ≡ map number_of (if b then x ∷ part TRACK_ENTRY xs else part TRACK_ENTRY xs)
    of rest true = ap (λ (ks : List ℕ). number_of x ∷ ks) rest
    of rest false = rest

set-each : (ts : List Node) (k : ℕ) (n m : Node) → slice_get ts k ≡ Some n → id_of m ≡ id_of n → (IsTrack n → IsTrack m) → All IsTrack (part TRACK_ENTRY ts) → All IsTrack (part TRACK_ENTRY (slice_set ts k m))
set-each [] k n m at id turns each = absurd (cc)
set-each (x ∷ xs) zero n m at id turns each =
    let same : x ≡ n = cc in
    let tests : (id_of m == TRACK_ENTRY) ≡ (id_of x == TRACK_ENTRY) = ap (λ i. i == TRACK_ENTRY) (id ∙ ap id_of (sym same)) in
    subst (λ (b : Bool). All IsTrack (if b then m ∷ part TRACK_ENTRY xs else part TRACK_ENTRY xs)) (sym tests) (of same (id_of x == TRACK_ENTRY) each)
  where
    of : x ≡ n → (b : Bool) → All IsTrack (if b then x ∷ part TRACK_ENTRY xs else part TRACK_ENTRY xs) → All IsTrack (if b then m ∷ part TRACK_ENTRY xs else part TRACK_ENTRY xs)
    of same true each = All-cons IsTrack m (part TRACK_ENTRY xs) (turns (subst IsTrack same (All-head IsTrack x (part TRACK_ENTRY xs) each))) (All-tail IsTrack x (part TRACK_ENTRY xs) each)
    of same false each = each
set-each (x ∷ xs) (suc k) n m at id turns each = of (set-each xs k n m at id turns) (id_of x == TRACK_ENTRY) each
  where
    of : (All IsTrack (part TRACK_ENTRY xs) → All IsTrack (part TRACK_ENTRY (slice_set xs k m))) → (b : Bool) → All IsTrack (if b then x ∷ part TRACK_ENTRY xs else part TRACK_ENTRY xs)
        → All IsTrack (if b then x ∷ part TRACK_ENTRY (slice_set xs k m) else part TRACK_ENTRY (slice_set xs k m))
    of further true each = All-cons IsTrack x (part TRACK_ENTRY (slice_set xs k m)) (All-head IsTrack x (part TRACK_ENTRY xs) each) (further (All-tail IsTrack x (part TRACK_ENTRY xs) each))
    of further false each = further each

-- Entries with the same numbers, all of tracks, are the tracks of a file.
same-numbers : (es ms : List Node) → map number_of ms ≡ map number_of es → All IsTrack ms → AreTracks es → AreTracks ms
same-numbers es ms same each are =
    let one = length-map ms number_of in
    let two = length-map es number_of in
    let equal : length (map number_of ms) ≡ length (map number_of es) = ap (λ (l : List ℕ). length l) same in
    let few = are.few in
    record { each = each; distinct = subst (AllPairs ◌≢◌) (sym same) are.distinct; few = omega arith }

set-tracks : (ts : List Node) (k : ℕ) (n m : Node) → slice_get ts k ≡ Some n → id_of m ≡ id_of n → (IsTrack n → IsTrack m) → number_of m ≡ number_of n → AreTracks (part TRACK_ENTRY ts) → AreTracks (part TRACK_ENTRY (slice_set ts k m))
set-tracks ts k n m at id turns number are =
    same-numbers (part TRACK_ENTRY ts) (part TRACK_ENTRY (slice_set ts k m)) (set-numbers ts k n m at id number) (set-each ts k n m at id turns are.each) are

-- ---- all edits

-- The scale of an Info isn't 0.
abbrev pub IsScaled : Node → Type 0
IsScaled n = IfSome (integer_in TIMESTAMP_SCALE n) (λ s. 0 < s)

-- The Info isn't refused, and the entries of Tracks are tracks.
pub record AreUnrefused (t : Trees) : Type 0 where
  pub info : IfSome t.info IsScaled
  pub tracks : AreTracks (part TRACK_ENTRY t.tracks)

-- An edit changes a node by a property of its section.
edited-is : (e : Edit) (n m : Node) → edited_node e n ≡ Ok m → (p : Property) × (property_of (is_info e.place) e.name ≡ Some p) × HasChange e.value p n m
edited-is e n m is = of (property_of (is_info e.place) e.name) refl is
  where
    of : (p : Option Property) → property_of (is_info e.place) e.name ≡ p → named e.change e.value n p ≡ Ok m → (p : Property) × (property_of (is_info e.place) e.name ≡ Some p) × HasChange e.value p n m
    of None none is = absurd (cc)
    of (Some p) some is = (p, some, changed-is e.change e.value n m p is)

good-once : (e : Edit) (t u : Trees) → AreUnrefused t → Once e t u → AreUnrefused u
good-once e t u good (of_info own n m at made same) =
    let change = edited-is e n m made in
    let other = info-safe e.name change.0 (ap (λ (b : Bool). property_of b e.name) (sym own) ∙ change.1) in
    let scaled : IsScaled n = subst (λ (x : Option Node). IfSome x IsScaled) at good.info in
    subst AreUnrefused same (record { info = subst (λ (o : Option ℕ). IfSome o (λ s. 0 < s)) (sym (scale-stays e.value change.0 n m change.2 other)) scaled; tracks = good.tracks })
good-once e t u good (of_tracks other k n m place at made same) =
    let change = edited-is e n m made in
    let safe = track-safe e.name change.0 (ap (λ (b : Bool). property_of b e.name) (sym other) ∙ change.1) in
    subst AreUnrefused same (record {
      info = good.info;
      tracks = set-tracks t.tracks k n m at change.2.id (track-stays e.value change.0 n m change.2 safe) (number-stays e.value change.0 n m change.2 safe) good.tracks;
    })

-- Edited trees are good if the old ones are.
pub good-all : (k : ℕ) (es : List Edit) (t u : Trees) → AreUnrefused t → edited_from k es t ≡ Ok u → AreUnrefused u
good-all k [] t u good is = subst AreUnrefused (cc) good
good-all k (e ∷ es) t u good is =
    let made = then-ok (numbered (k + 1) (edited_once e t)) (edited_from (k + 1) es) u is in
    good-all (k + 1) es made.0 u (good-once e t made.0 good (once-is e t made.0 (numbered-ok (k + 1) (edited_once e t) made.0 made.1.0))) made.1.1

-- ---- the scale

scale-once : (e : Edit) (t u : Trees) → Once e t u → scale_of_info u.info ≡ scale_of_info t.info
scale-once e t u (of_info own n m at made same) =
    let change = edited-is e n m made in
    let other = info-safe e.name change.0 (ap (λ (b : Bool). property_of b e.name) (sym own) ∙ change.1) in
    ap (λ (x : Trees). scale_of_info x.info) (sym same)
    ∙ ap (λ (o : Option ℕ). unwrap_or o (unwrap_or (uint_default TIMESTAMP_SCALE) 0)) (scale-stays e.value change.0 n m change.2 other)
    ∙ ap scale_of_info (sym at)
scale-once e t u (of_tracks other k n m place at made same) = ap (λ (x : Trees). scale_of_info x.info) (sym same)

-- Edits leave the scale of an Info.
pub scale-all : (k : ℕ) (es : List Edit) (t u : Trees) → edited_from k es t ≡ Ok u → scale_of_info u.info ≡ scale_of_info t.info
scale-all k [] t u is = let same : t ≡ u = cc in ap (λ (x : Trees). scale_of_info x.info) (sym same)
scale-all k (e ∷ es) t u is =
    let made = then-ok (numbered (k + 1) (edited_once e t)) (edited_from (k + 1) es) u is in
    scale-all (k + 1) es made.0 u made.1.1 ∙ scale-once e t made.0 (once-is e t made.0 (numbered-ok (k + 1) (edited_once e t) made.0 made.1.0))

-- ---- an Info

scale-of : (o : Option Node) → option_and_then (λ (n : Node). where_it (not (not (integer_of n == 0))) (damage BadValue TIMESTAMP_SCALE (offset_of n))) o ≡ None → IfSome (option_map integer_of o) (λ s. 0 < s)
scale-of None none = tt
scale-of (Some n) none = of (integer_of n == 0) refl none
  where
    of : (zero : Bool) → (integer_of n == 0) ≡ zero → where_it (not (not zero)) (damage BadValue TIMESTAMP_SCALE (offset_of n)) ≡ None → 0 < integer_of n
    of true is none = absurd (cc)
    of false is none = grind (arith, nat_tests)

good-of : (o : Option Node) → IfSome (option_map integer_of o) (λ s. 0 < s) → option_and_then (λ (n : Node). where_it (not (not (integer_of n == 0))) (damage BadValue TIMESTAMP_SCALE (offset_of n))) o ≡ None
good-of None some = refl
good-of (Some n) some =
    let test : (integer_of n == 0) ≡ false = grind (arith, nat_tests) in
    ap (λ (b : Bool). where_it (not (not b)) (damage BadValue TIMESTAMP_SCALE (offset_of n))) test

pub info-scaled : (n : Node) → info_refusal n ≡ None → IsScaled n
info-scaled n none = scale-of (first_child TIMESTAMP_SCALE n) none

pub scaled-info : (n : Node) → IsScaled n → info_refusal n ≡ None
scaled-info n some = good-of (first_child TIMESTAMP_SCALE n) some

-- ---- trees that are read again

-- The values of an entry that decide whether it is refused.
record Facts : Type 0 where
  number : ℕ
  type : Bool
  codec : Bool
  duration : Option ℕ

abbrev facts : Node → Facts
facts n = record { number = number_of n; type = is_some (first_child TRACK_TYPE n); codec = is_some (first_child CODEC_ID n); duration = default_duration_of n }

find-placed : (id : ℕ) → is_filler id ≡ false → (ns : Nodes) (p : ℕ) → option_map integer_of (find (λ (k : Node). id_of k == id) (list_of (placed_all p ns))) ≡ option_map integer_of (find (λ (k : Node). id_of k == id) (list_of ns))
find-placed id keeps ns p =
    find-map integer_of (λ (k : Node). id_of k == id) (list_of (placed_all p ns)) ∙ ap first_in (part-placed integer_of integer-placed id ns p keeps)
    ∙ sym (find-map integer_of (λ (k : Node). id_of k == id) (list_of ns))

first-placed : (id : ℕ) → is_filler id ≡ false → (n : Node) (p : ℕ) → option_map integer_of (first_child id (placed p n)) ≡ option_map integer_of (first_child id n)
first-placed id keeps (leaf i at body) p = refl
first-placed id keeps (master i at kids) p = find-placed id keeps kids (p + length (header_octets i (length (octets_all kids))))

some-placed : (id : ℕ) → is_filler id ≡ false → (n : Node) (p : ℕ) → is_some (first_child id (placed p n)) ≡ is_some (first_child id n)
some-placed id keeps n p = sym (mapped-some (first_child id (placed p n))) ∙ ap is_some (first-placed id keeps n p) ∙ mapped-some (first_child id n)
  where
    mapped-some : (o : Option Node) → is_some (option_map integer_of o) ≡ is_some o
    mapped-some None = refl
    mapped-some (Some n) = refl

facts-placed : (n : Node) (p : ℕ) → facts (placed p n) ≡ facts n
facts-placed n p =
    ap (λ (o : Option ℕ). record (facts (placed p n)) { number = unwrap_or o (unwrap_or (uint_default TRACK_NUMBER) 0) }) (first-placed TRACK_NUMBER refl n p)
    ∙ ap (λ (b : Bool). record (facts (placed p n)) { number = number_of n; type = b }) (some-placed TRACK_TYPE refl n p)
    ∙ ap (λ (b : Bool). record (facts (placed p n)) { number = number_of n; type = is_some (first_child TRACK_TYPE n); codec = b }) (some-placed CODEC_ID refl n p)
    ∙ ap (λ (o : Option ℕ). record (facts n) { duration = o }) (first-placed DEFAULT_DURATION refl n p)

track-by : (n m : Node) → facts m ≡ facts n → IsTrack n → IsTrack m
track-by n m same is = record {
  number = subst (λ (k : ℕ). 0 < k) (sym (ap (λ (f : Facts). f.number) same)) is.number;
  type = ap (λ (f : Facts). f.type) same ∙ is.type;
  codec = ap (λ (f : Facts). f.codec) same ∙ is.codec;
  duration = subst (λ (o : Option ℕ). IfSome o (λ d. d < too_long)) (sym (ap (λ (f : Facts). f.duration) same)) is.duration;
}

each-by : (es ms : List Node) → map facts ms ≡ map facts es → All IsTrack es → All IsTrack ms
each-by [] [] same each = All-nil IsTrack
each-by [] (m ∷ ms) same each = absurd (cc)
each-by (e ∷ es) [] same each = absurd (cc)
each-by (e ∷ es) (m ∷ ms) same each =
    let here : facts m ≡ facts e = cc in
    let rest : map facts ms ≡ map facts es = cc in
    All-cons IsTrack m ms (track-by e m here (All-head IsTrack e es each)) (each-by es ms rest (All-tail IsTrack e es each))

numbers-of : (es : List Node) → map (λ (f : Facts). f.number) (map facts es) ≡ map number_of es
numbers-of [] = refl
numbers-of (e ∷ es) = ap (λ (ks : List ℕ). number_of e ∷ ks) (numbers-of es)

-- Tracks that are read again aren't refused.
pub tracks-again : (ts : List Node) (id at p : ℕ) → AreTracks (part TRACK_ENTRY ts) → refusal_of (master id at (placed_all p (nodes_of ts))) ≡ None
tracks-again ts id at p are =
    let es : List Node = part TRACK_ENTRY ts in
    let ms : List Node = part TRACK_ENTRY (list_of (placed_all p (nodes_of ts))) in
    let same : map facts ms ≡ map facts es = part-placed facts facts-placed TRACK_ENTRY (nodes_of ts) p refl ∙ ap (λ (l : List Node). map facts (part TRACK_ENTRY l)) (list-nodes ts) in
    let numbers : map number_of ms ≡ map number_of es = sym (numbers-of ms) ∙ ap (map (λ (f : Facts). f.number)) same ∙ numbers-of es in
    (refusal-none (master id at (placed_all p (nodes_of ts)))).1 (same-numbers es ms numbers (each-by es ms same are.each) are)

-- An Info that is read again has its scale.
pub scale-again : (n : Node) (id at p : ℕ) → integer_in TIMESTAMP_SCALE (master id at (placed_all p (nodes_of (children n)))) ≡ integer_in TIMESTAMP_SCALE n
scale-again n id at p =
    find-placed TIMESTAMP_SCALE refl (nodes_of (children n)) p ∙ ap (λ (l : List Node). option_map integer_of (find (λ (k : Node). id_of k == TIMESTAMP_SCALE) l)) (list-nodes (children n))

-- It isn't refused.
pub info-again : (n : Node) (id at p : ℕ) → IsScaled n → info_refusal (master id at (placed_all p (nodes_of (children n)))) ≡ None
info-again n id at p scaled =
    scaled-info (master id at (placed_all p (nodes_of (children n)))) (subst (λ (o : Option ℕ). IfSome o (λ s. 0 < s)) (sym (scale-again n id at p)) scaled)
