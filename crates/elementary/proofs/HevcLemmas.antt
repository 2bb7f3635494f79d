-- The content of an H.265 configuration is the content of its record.
use Rattle.std.proofs.Common.{◌≡◌, ℕ, zero, suc, ◌+◌, ◌%◌, ◌^◌, ◌<◌, ◌≤◌, nat_le, true, false, List, [], ◌∷◌, ◌++◌, length, take, drop, slice_index, append-nil, append_assoc, Option, None, Some, Err, inl, inr, refl, sym, ap, ◌∙◌, subst, arith}
use Rattle.std.specs.List.{All, flat_map}
use Rattle.std.proofs.lemmas.Bool.{cases_Bool, cases_lt, cond-true, cond-false, le-leb, lt-leb}
use Rattle.std.proofs.lemmas.List.{length-append, length-drop, length-take-le, take-append-drop, drop_at, drop-drop, get_or-append_right}
use Rattle.std.proofs.Math.Seq.{drop-cons}
use Rattle.std.proofs.lemmas.List.Elements.{All-nil, All-cons, All-head, All-tail}
use Rattle.byteorder.specs.Endian.{big_number, big_bytes}
use Rattle.byteorder.specs.Numbers.{big_number-reads_back, big_from-lt, length-bytes_high_first}
use Rattle.ebml_numbers.specs.Number.{AreOctets}
use Rattle.ebml_numbers.proofs.SpelledLemmas.{AreOctets-drop, big_bytes-again}
use Rattle.elementary.specs.declared.configuration.Avc.{Avc}
use Rattle.elementary.specs.Units.{sized_units, units_at}
use Rattle.elementary.specs.declared.configuration.ConfigEnd.{ConfigEnd}
use Rattle.elementary.specs.declared.configuration.ConfigEnd.TheVariants as config_end
use Rattle.elementary.specs.Avc.{IsLengthSize, AnswersAvc, behind_sets, ReadsSets}
use Rattle.elementary.specs.Hevc.{HevcArray, array_octets, HevcRecord, hevc_octets, IsHevcArray, IsHevcRecord, hevc_in, IsHevcConfiguration, array_at, array_then, arrays_at, has_hevc_front, with_sets, hevc_of}
use Rattle.elementary.proofs.UnitsLemmas.{behind_sets-none}
use Rattle.elementary.proofs.ConfigurationLemmas.{behind_none}
use Rattle.elementary.proofs.ReadLemmas.{units_at-again, units_at-joins}
use Rattle.elementary.proofs.RecordLemmas.{Front, front-from, front-says, front-size}

-- the sets of arrays, in order
abbrev pub sets_in : List HevcArray → List (List ℕ)
sets_in arrays = flat_map (λ (a : HevcArray). a.sets) arrays

pub hevc_of-bad : (octets : List ℕ) → has_hevc_front octets ≡ false → hevc_of octets ≡ None
unfolding hevc_of
hevc_of-bad octets bad = cond-false (has_hevc_front octets) _ _ bad

pub hevc_of-front : (octets : List ℕ) → has_hevc_front octets ≡ true → hevc_of octets ≡ with_sets (slice_index octets 21 % 4 + 1) (arrays_at (slice_index octets 22) (drop 23 octets))
unfolding hevc_of
hevc_of-front octets front = cond-true (has_hevc_front octets) _ _ front

-- ---- a written record is read

pub array_at-long : (octets : List ℕ) → 3 ≤ length octets → array_at octets ≡ units_at 2 (big_number 2 (drop 1 octets)) (drop 3 octets)
unfolding array_at
array_at-long octets long = cond-true (nat_le 3 (length octets)) _ _ (le-leb 3 (length octets) long)

pub array_at-short : (octets : List ℕ) → length octets < 3 → array_at octets ≡ None
unfolding array_at
array_at-short octets short = cond-false (nat_le 3 (length octets)) _ _ (lt-leb 3 (length octets) short)

-- An array is read, whatever follows it.
array_at-again : (a : HevcArray) (rest : List ℕ) → IsHevcArray a → array_at (array_octets a ++ rest) ≡ Some (a.sets, rest)
array_at-again a rest is =
    let head = big_bytes 2 (length a.sets) in
    let behind = sized_units 2 a.sets ++ rest in
    let octets = a.kind ∷ (head ++ behind) in
    let join : array_octets a ++ rest ≡ octets = ap (λ (x : List ℕ). a.kind ∷ x) (append_assoc head (sized_units 2 a.sets) rest) in
    let len : length head ≡ 2 = length-bytes_high_first 2 (length a.sets) in
    let all = length-append head behind in
    let count : big_number 2 (head ++ behind) ≡ length a.sets = big_number-reads_back 2 (length a.sets) behind is.fits in
    let sets : drop 2 (head ++ behind) ≡ behind = drop_at head behind 2 len in
    rw join (array_at-long octets (omega arith) ∙ rw (count, sets) (units_at-again 2 a.sets rest is.each))

pub arrays_at-again : (arrays : List HevcArray) (rest : List ℕ) → All IsHevcArray arrays → arrays_at (length arrays) (flat_map array_octets arrays ++ rest) ≡ Some (sets_in arrays, rest)
unfolding arrays_at
arrays_at-again [] rest each = refl
arrays_at-again (a ∷ arrays) rest each =
    let first = array_at-again a (flat_map array_octets arrays ++ rest) (All-head IsHevcArray a arrays each) in
    let more = arrays_at-again arrays rest (All-tail IsHevcArray a arrays each) in
    rw (append_assoc (array_octets a) (flat_map array_octets arrays) rest, first, more) refl

-- The fields before the arrays are read from a written record.
fields-again : (r : HevcRecord) → length r.general ≡ 20 → (slice_index (hevc_octets r) 21 ≡ r.lengths) × (slice_index (hevc_octets r) 22 ≡ length r.arrays) × (drop 23 (hevc_octets r) ≡ flat_map array_octets r.arrays ++ r.rest)
fields-again r twenty =
    let arrays = flat_map array_octets r.arrays ++ r.rest in
    let behind = r.lengths ∷ (length r.arrays ∷ arrays) in (
      get_or-append_right r.general behind 20 20 0 twenty (omega arith),
      get_or-append_right r.general behind 20 21 0 twenty (omega arith),
      sym (drop-drop 2 20 (r.general ++ behind)) ∙ ap (drop 2) (drop_at r.general behind 20 twenty),
    )

pub hevc-again : (r : HevcRecord) → IsHevcRecord r → hevc_of (hevc_octets r) ≡ Some (hevc_in r)
hevc-again r is =
    let octets = hevc_octets r in
    let fields = fields-again r is.general in
    let all = length-append r.general (r.lengths ∷ (length r.arrays ∷ (flat_map array_octets r.arrays ++ r.rest))) in
    let twenty = is.general in
    let sizes = is.sizes in
    let front = front-from 23 21 octets (omega arith) refl (λ two. sizes (ap (λ (x : ℕ). x % 4) (sym fields.0) ∙ two)) in
    hevc_of-front octets front
    ∙ ap (λ (x : ℕ). with_sets (x % 4 + 1) (arrays_at (slice_index octets 22) (drop 23 octets))) fields.0
    ∙ ap (λ (x : ℕ). with_sets (r.lengths % 4 + 1) (arrays_at x (drop 23 octets))) fields.1
    ∙ ap (λ (x : List ℕ). with_sets (r.lengths % 4 + 1) (arrays_at (length r.arrays) x)) fields.2
    ∙ ap (with_sets (r.lengths % 4 + 1)) (arrays_at-again r.arrays r.rest is.arrays)

-- ---- a record that is read was written

-- The bytes `octets` begin with the array `a`, and bytes follow.
record BeginsArray (octets : List ℕ) (a : HevcArray) (rest : List ℕ) : Type 0 where
  front : octets ≡ array_octets a ++ rest
  is : IsHevcArray a
  behind : AreOctets rest

array_at-spells : (octets rest : List ℕ) (sets : List (List ℕ)) → AreOctets octets → array_at octets ≡ Some (sets, rest) → BeginsArray octets (record { kind = slice_index octets 0; sets = sets }) rest
array_at-spells [] rest sets are is =
    let given : List (List ℕ) × List ℕ = (sets, rest) in
    let none : None ≡ Some given = sym (array_at-short [] (omega arith)) ∙ is in
    absurd (cc)
array_at-spells (kind ∷ octets) rest sets are is =
    let given : List (List ℕ) × List ℕ = (sets, rest) in
    elim (cases_lt (length (kind ∷ octets)) 3) [
      | inl short ↦ (let none : None ≡ Some given = sym (array_at-short (kind ∷ octets) short) ∙ is in absurd (cc))
      | inr long ↦ (
          let are_fields = AreOctets-drop 1 (kind ∷ octets) are in
          let n = big_number 2 octets in
          let joins = units_at-joins 2 n (drop 2 octets) rest sets (AreOctets-drop 3 (kind ∷ octets) are) (sym (array_at-long (kind ∷ octets) long) ∙ is) in
          let count = joins.count in
          let below : n < 256 ^ 2 = big_from-lt 0 2 octets are_fields in
          let head : big_bytes 2 (length sets) ≡ take 2 octets = ap (big_bytes 2) (sym count) ∙ big_bytes-again 2 octets are_fields (omega arith) in
          let fields : octets ≡ (big_bytes 2 (length sets) ++ sized_units 2 sets) ++ rest =
          sym (take-append-drop 2 octets)
          ∙ ap (λ (x : List ℕ). x ++ drop 2 octets) (sym head)
          ∙ ap (λ (x : List ℕ). big_bytes 2 (length sets) ++ x) joins.join
          ∙ sym (append_assoc (big_bytes 2 (length sets)) (sized_units 2 sets) rest) in
          record {
            front = ap (λ (x : List ℕ). kind ∷ x) fields;
            is = record { fits = omega arith; each = joins.each };
            behind = joins.behind;
          })
    ]

-- The bytes `octets` begin with `n` arrays with the sets `sets`, and `rest` follows.
record ArraysJoin (n : ℕ) (octets : List ℕ) (sets : List (List ℕ)) (rest : List ℕ) : Type 0 where
  arrays : List HevcArray
  count : n ≡ length arrays
  each : All IsHevcArray arrays
  join : octets ≡ flat_map array_octets arrays ++ rest
  sets_are : sets ≡ sets_in arrays

-- The first array and the arrays after it are read.
with-arrays : (n : ℕ) (octets behind rest : List ℕ) (a : HevcArray) (sets : List (List ℕ)) (read : Option (List (List ℕ) × List ℕ)) → BeginsArray octets a behind → ((others : List (List ℕ)) (r : List ℕ) → read ≡ Some (others, r) → ArraysJoin n behind others r) → behind_sets a.sets read ≡ Some (sets, rest) → ArraysJoin (suc n) octets sets rest
with-arrays n octets behind rest a sets None begins more is = absurd (cc)
with-arrays n octets behind rest a sets (Some (others, r)) begins more is =
    let joins = more others r refl in
    let count = joins.count in
    let read : List (List ℕ) × List ℕ = (a.sets ++ others, r) in
    let given : List (List ℕ) × List ℕ = (sets, rest) in
    let same : read ≡ given = cc in
    let P : List (List ℕ) × List ℕ → Type 0 = λ p. ArraysJoin (suc n) octets p.0 p.1 in
    subst P same (record {
      arrays = a ∷ joins.arrays;
      count = omega arith;
      each = All-cons IsHevcArray a joins.arrays begins.is joins.each;
      join = begins.front ∙ ap (λ (x : List ℕ). array_octets a ++ x) joins.join ∙ sym (append_assoc (array_octets a) (flat_map array_octets joins.arrays) r);
      sets_are = ap (λ (x : List (List ℕ)). a.sets ++ x) joins.sets_are;
    })

array_then-joins : (n : ℕ) (octets rest : List ℕ) (sets : List (List ℕ)) (front : Option (List (List ℕ) × List ℕ)) → ((first : List (List ℕ)) (behind : List ℕ) → front ≡ Some (first, behind) → BeginsArray octets (record { kind = slice_index octets 0; sets = first }) behind) → ((first others : List (List ℕ)) (behind r : List ℕ) → front ≡ Some (first, behind) → arrays_at n behind ≡ Some (others, r) → ArraysJoin n behind others r) → array_then front (arrays_at n) ≡ Some (sets, rest) → ArraysJoin (suc n) octets sets rest
array_then-joins n octets rest sets None begins more is = absurd (cc)
array_then-joins n octets rest sets (Some (first, behind)) begins more is =
    with-arrays n octets behind rest _ sets (arrays_at n behind) (begins first behind refl) (λ others r found. more first others behind r refl found) is

arrays_at-joins : (n : ℕ) (octets rest : List ℕ) (sets : List (List ℕ)) → AreOctets octets → arrays_at n octets ≡ Some (sets, rest) → ArraysJoin n octets sets rest
unfolding arrays_at
arrays_at-joins zero octets rest sets are is =
    let read : List (List ℕ) × List ℕ = ([], octets) in
    let given : List (List ℕ) × List ℕ = (sets, rest) in
    let same : read ≡ given = cc in
    let P : List (List ℕ) × List ℕ → Type 0 = λ p. ArraysJoin 0 octets p.0 p.1 in
    subst P same (record { arrays = []; count = refl; each = All-nil IsHevcArray; join = refl; sets_are = refl })
arrays_at-joins (suc n) octets rest sets are is =
    let begins = λ (first : List (List ℕ)) (behind : List ℕ) (found : array_at octets ≡ Some (first, behind)). array_at-spells octets behind first are found in
    array_then-joins n octets rest sets (array_at octets) begins
    (λ first others behind r found more. arrays_at-joins n behind r others (begins first behind found).behind more) is

-- Bytes are the fields before the arrays, and the bytes after them.
fields_of : (o : List ℕ) → 23 ≤ length o → o ≡ slice_index o 0 ∷ (take 20 (drop 1 o) ++ (slice_index o 21 ∷ (slice_index o 22 ∷ drop 23 o)))
fields_of [] long = absurd (omega arith)
fields_of (version ∷ o) long =
    let behind : drop 20 o ≡ slice_index o 20 ∷ (slice_index o 21 ∷ drop 22 o) =
    drop-cons o 20 0 (omega arith) ∙ ap (λ (x : List ℕ). slice_index o 20 ∷ x) (drop-cons o 21 0 (omega arith)) in
    ap (λ (x : List ℕ). version ∷ x) (sym (take-append-drop 20 o) ∙ ap (λ (x : List ℕ). take 20 o ++ x) behind)

with_sets-spelled : (o : List ℕ) (avc : Avc) (read : Option (List (List ℕ) × List ℕ)) → Front 23 21 o → ((sets : List (List ℕ)) (rest : List ℕ) → read ≡ Some (sets, rest) → ArraysJoin (slice_index o 22) (drop 23 o) sets rest) → with_sets (slice_index o 21 % 4 + 1) read ≡ Some avc → IsHevcConfiguration o avc
with_sets-spelled o avc None front arrays is = absurd (cc)
with_sets-spelled o avc (Some (sets, rest)) front arrays is =
    let joins = arrays sets rest refl in
    let general = take 20 (drop 1 o) in
    let long = front.long in
    let r : HevcRecord = record { general = general; lengths = slice_index o 21; arrays = joins.arrays; rest = rest } in
    let twenty : length general ≡ 20 = length-take-le 20 (drop 1 o) (omega (arith, length-drop 1 o)) in
    let whole : o ≡ hevc_octets r = fields_of o front.long ∙ rw (front.version, joins.count, joins.join) refl in
    let found : record { length_size = slice_index o 21 % 4 + 1; sets = sets } ≡ avc = cc in
    (r, record { general = twenty; sizes = front.sizes; arrays = joins.each }, whole, sym found ∙ ap (λ (x : List (List ℕ)). record { length_size = slice_index o 21 % 4 + 1; sets = x }) joins.sets_are)

pub hevc-spelled : (o : List ℕ) (avc : Avc) → AreOctets o → hevc_of o ≡ Some avc → IsHevcConfiguration o avc
hevc-spelled o avc are is =
    elim (cases_Bool (has_hevc_front o)) [
      | inl front ↦ with_sets-spelled o avc (arrays_at (slice_index o 22) (drop 23 o)) (front-says 23 21 o front)
          (λ sets rest found. arrays_at-joins (slice_index o 22) (drop 23 o) rest sets (AreOctets-drop 23 o are) found)
          (sym (hevc_of-front o front) ∙ is)
      | inr bad ↦ (let none : None ≡ Some avc = sym (hevc_of-bad o bad) ∙ is in absurd (cc))
    ]

pub hevc-read : (o : List ℕ) (avc : Avc) → IsHevcConfiguration o avc → hevc_of o ≡ Some avc
hevc-read o avc is =
    let r = is.0 in
    rw (is.2, is.3) (hevc-again r is.1)

-- ---- the size of lengths

with_sets-size : (w : ℕ) (read : Option (List (List ℕ) × List ℕ)) (avc : Avc) → with_sets w read ≡ Some avc → avc.length_size ≡ w
with_sets-size w None avc is = absurd (cc)
with_sets-size w (Some (sets, rest)) avc is =
    let same : record { length_size = w; sets = sets } ≡ avc = cc in
    sym (ap (λ (a : Avc). a.length_size) same)

-- The length size of a configuration that is read is 1, 2 or 4.
pub hevc_of-size : (o : List ℕ) (avc : Avc) → hevc_of o ≡ Some avc → IsLengthSize avc.length_size
hevc_of-size o avc is =
    elim (cases_Bool (has_hevc_front o)) [
      | inl front ↦ front-size 23 21 o avc.length_size (front-says 23 21 o front)
          (with_sets-size (slice_index o 21 % 4 + 1) (arrays_at (slice_index o 22) (drop 23 o)) avc (sym (hevc_of-front o front) ∙ is))
      | inr bad ↦ (let none : None ≡ Some avc = sym (hevc_of-bad o bad) ∙ is in absurd (cc))
    ]

-- ---- a loop over arrays

behind_sets-twice : (sets first : List (List ℕ)) (read : Option (List (List ℕ) × List ℕ)) → behind_sets sets (behind_sets first read) ≡ behind_sets (sets ++ first) read
behind_sets-twice sets first None = refl
behind_sets-twice sets first (Some (others, rest)) = ap (λ (x : List (List ℕ)). Some (x, rest)) (sym (append_assoc sets first others))

array_then-step : (sets new : List (List ℕ)) (rest : List ℕ) (front : Option (List (List ℕ) × List ℕ)) (next : List ℕ → Option (List (List ℕ) × List ℕ)) → behind_sets sets front ≡ Some (new, rest) → behind_sets sets (array_then front next) ≡ behind_sets new (next rest)
array_then-step sets new rest None next is = absurd (cc)
array_then-step sets new rest (Some (first, behind)) next is =
    let read : List (List ℕ) × List ℕ = (sets ++ first, behind) in
    let given : List (List ℕ) × List ℕ = (new, rest) in
    let same : read ≡ given = cc in
    behind_sets-twice sets first (next behind) ∙ ap (λ (p : List (List ℕ) × List ℕ). behind_sets p.0 (next p.1)) same

pub arrays-step : (n m : ℕ) (sets new : List (List ℕ)) (octets rest : List ℕ) → n ≡ suc m → behind_sets sets (array_at octets) ≡ Some (new, rest) → behind_sets sets (arrays_at n octets) ≡ behind_sets new (arrays_at m rest)
unfolding arrays_at
arrays-step n m sets new octets rest more is = rw more (array_then-step sets new rest (array_at octets) (arrays_at m) is)

pub arrays-end : (n : ℕ) (sets : List (List ℕ)) (octets : List ℕ) → n ≡ 0 → behind_sets sets (arrays_at n octets) ≡ Some (sets, octets)
unfolding arrays_at
arrays-end n sets octets none = rw none (ap (λ (x : List (List ℕ)). Some (x, octets)) (append-nil sets))

arrays-stop : (n m : ℕ) (octets : List ℕ) → n ≡ suc m → array_at octets ≡ None → arrays_at n octets ≡ None
unfolding arrays_at
arrays-stop n m octets more is = rw (more, is) refl

-- An array is missing.
pub no_array : (n m count : ℕ) (old sets new : List (List ℕ)) (octets rest : List ℕ) (end : ConfigEnd) → n ≡ suc m → behind_sets sets (arrays_at n rest) ≡ behind_sets old (arrays_at count octets) → ReadsSets (array_at rest) sets new (Err end) → ReadsSets (arrays_at count octets) old new (Err end)
no_array n m count old sets new octets rest config_end.Bad more same none =
    behind_sets-none old (arrays_at count octets) (sym same ∙ ap (behind_sets sets) (arrays-stop n m rest more none))
no_array n m count old sets new octets rest config_end.Memory more same none = tt

-- ---- cases of the reader

-- The arrays are missing.
pub no_arrays : (octets : List ℕ) (old new : List (List ℕ)) (end : ConfigEnd) → has_hevc_front octets ≡ true → ReadsSets (arrays_at (slice_index octets 22) (drop 23 octets)) old new (Err end) → AnswersAvc (hevc_of octets) (Err end)
no_arrays octets old new config_end.Bad front none = hevc_of-front octets front ∙ ap (with_sets (slice_index octets 21 % 4 + 1)) none
no_arrays octets old new config_end.Memory front none = tt

-- The arrays are present.
pub arrays_read : (octets rest : List ℕ) (old new : List (List ℕ)) → has_hevc_front octets ≡ true → old ≡ [] → behind_sets old (arrays_at (slice_index octets 22) (drop 23 octets)) ≡ Some (new, rest) → hevc_of octets ≡ Some (record { length_size = slice_index octets 21 % 4 + 1; sets = new })
arrays_read octets rest old new front none is =
    let read = arrays_at (slice_index octets 22) (drop 23 octets) in
    let P : List (List ℕ) → Type 0 = λ sets. behind_sets sets read ≡ Some (new, rest) in
    hevc_of-front octets front ∙ ap (with_sets (slice_index octets 21 % 4 + 1)) (sym (behind_none read) ∙ subst P none is)
