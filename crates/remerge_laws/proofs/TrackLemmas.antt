-- The tracks of a Tracks Element are read after writing.
use Rattle.std.proofs.Common.{◌≡◌, ◌≢◌, ◌<◌, ◌+◌, ℕ, false, List, [], ◌∷◌, length, map, All, IfSome, Option, None, Some, refl, sym, ap, ap₂, ◌∙◌, subst, arith, unwrap_or, option_map, is_some}
use Rattle.std.specs.List.{AllZip, AllPairs}
use Rattle.std.proofs.lemmas.List.Elements.{All-nil, All-cons, All-head, All-tail, length_all_zip}
use Rattle.mkv_io.specs.declared.damage.Damage.{Damage}
use Rattle.mkv_schema.specs.declared.ids.TheConstants.{TRACK_ENTRY, TRACK_NUMBER, TRACK_UID, TRACK_TYPE, CODEC_ID, LANGUAGE, LANGUAGE_BCP47, DEFAULT_DURATION}
use Rattle.mkv_schema.specs.Schema.{uint_default}
use Rattle.mkv_io.specs.Results.{unless}
use Rattle.tree_format.specs.Node.{Node, leaf, master, body_of}
use Rattle.tree_format.specs.NormalForm.{header_octets, is_filler, octets_all}
use Rattle.tree_format.specs.Standing.{placed}
use Rattle.tree_format.specs.Values.{first_child, integer_of, integer_in, uint_in}
use Rattle.file_format.specs.Entry.{entries_of, number_of, language_of}
use Rattle.file_format.specs.Refusal.{refusal_of, too_long}
use Rattle.file_format.specs.Tracks.{IsTrack, AreTracks}
use Rattle.file_format.proofs.TracksLemmas.{refusal-none}
use Rattle.track_records.specs.Track.{track_of}
use Rattle.remerge_laws.specs.Placed.{StandsAs}
use Rattle.remerge_laws.specs.Tracks.{IsTrackOf, TracksAreRead}
use Rattle.remerge_laws.proofs.PlacedLemmas.{body-placed, integer-placed, first-placed, part-placed, text-same}

-- ---- values of an entry

pub integer-same : (id : ℕ) (n : Node) (p : ℕ) → is_filler id ≡ false → integer_in id (placed p n) ≡ integer_in id n
integer-same id n p keeps = first-placed integer_of integer-placed id keeps n p

uint-same : (id : ℕ) (n : Node) (p : ℕ) → is_filler id ≡ false → uint_in id (placed p n) ≡ uint_in id n
uint-same id n p keeps = ap (λ o. unwrap_or o (unwrap_or (uint_default id) 0)) (integer-same id n p keeps)

mapped-some : {A B : Type 0} (f : A → B) (o : Option A) → is_some (option_map f o) ≡ is_some o
mapped-some f None = refl
mapped-some f (Some x) = refl

some-same : (id : ℕ) (n : Node) (p : ℕ) → is_filler id ≡ false → is_some (first_child id (placed p n)) ≡ is_some (first_child id n)
some-same id n p keeps =
    sym (mapped-some body_of (first_child id (placed p n))) ∙ ap is_some (first-placed body_of body-placed id keeps n p) ∙ mapped-some body_of (first_child id n)

language-same : (n : Node) (p : ℕ) → language_of (placed p n) ≡ language_of n
language-same n p =
    ap₂ (λ (a b : Option (List ℕ)). unwrap_or a (unwrap_or b [])) (text-same LANGUAGE_BCP47 n p refl) (text-same LANGUAGE n p refl)

track-same : (n : Node) (p : ℕ) → IsTrackOf n (track_of (placed p n))
track-same n p = record {
  number = uint-same TRACK_NUMBER n p refl;
  uid = uint-same TRACK_UID n p refl;
  kind = uint-same TRACK_TYPE n p refl;
  codec = ap (λ (o : Option (List ℕ)). unwrap_or o []) (text-same CODEC_ID n p refl);
  language = language-same n p;
  duration = integer-same DEFAULT_DURATION n p refl;
  stands = (p, refl);
}

-- The entry of a track is one after writing, too.
track-placed : (n : Node) (p : ℕ) → IsTrack n → IsTrack (placed p n)
track-placed n p is = record {
  number = subst (λ (k : ℕ). 0 < k) (sym (uint-same TRACK_NUMBER n p refl)) is.number;
  type = some-same TRACK_TYPE n p refl ∙ is.type;
  codec = some-same CODEC_ID n p refl ∙ is.codec;
  duration = subst (λ (o : Option ℕ). IfSome o (λ d. d < too_long)) (sym (integer-same DEFAULT_DURATION n p refl)) is.duration;
}

-- ---- all entries

tracks-same : (ns ms : List Node) → AllZip StandsAs ns ms → AllZip IsTrackOf ns (map track_of ms)
tracks-same [] [] are = tt
tracks-same (n ∷ ns) (m ∷ ms) are =
    (subst (λ (k : Node). IsTrackOf n (track_of k)) (sym are.0.1) (track-same n are.0.0), tracks-same ns ms are.1)
tracks-same _ _ are = absurd are

tracks-placed : (ns ms : List Node) → AllZip StandsAs ns ms → All IsTrack ns → All IsTrack ms
tracks-placed [] [] are each = All-nil IsTrack
tracks-placed (n ∷ ns) (m ∷ ms) are each =
    All-cons IsTrack m ms (subst IsTrack (sym are.0.1) (track-placed n are.0.0 (All-head IsTrack n ns each))) (tracks-placed ns ms are.1 (All-tail IsTrack n ns each))
tracks-placed _ _ are _ = absurd are

numbers-same : (ns ms : List Node) → AllZip StandsAs ns ms → map number_of ms ≡ map number_of ns
numbers-same [] [] are = refl
numbers-same (n ∷ ns) (m ∷ ms) are =
    ap₂ (λ (k : ℕ) ks. k ∷ ks) (ap number_of are.0.1 ∙ uint-same TRACK_NUMBER n are.0.0 refl) (numbers-same ns ms are.1)
numbers-same _ _ are = absurd are

-- The entries of a Tracks Element are read after writing.
pub entries-placed : (tracks : Node) (place : ℕ) → AllZip StandsAs (entries_of tracks) (entries_of (placed place tracks))
entries-placed (leaf id at body) place = tt
entries-placed (master id at kids) place = part-placed TRACK_ENTRY kids (place + length (header_octets id (length (octets_all kids)))) refl

not-refused : (tracks : Node) (place : ℕ) → refusal_of tracks ≡ None → refusal_of (placed place tracks) ≡ None
not-refused tracks place good =
    let es : List Node = entries_of tracks in
    let ms : List Node = entries_of (placed place tracks) in
    let are = entries-placed tracks place in
    let tracks_are : AreTracks es = (refusal-none tracks).0 good in
    let few = tracks_are.few in
    let long = length_all_zip StandsAs es ms are in
    (refusal-none (placed place tracks)).1 (record {
      each = tracks-placed es ms are tracks_are.each;
      distinct = subst (AllPairs ◌≢◌) (sym (numbers-same es ms are)) tracks_are.distinct;
      few = omega arith;
    })

pub tracks-read : TracksAreRead
tracks-read = record {
  good = λ tracks place good.
      ap (λ (o : Option Damage). unless o (map track_of (entries_of (placed place tracks)))) (not-refused tracks place good);
  same = λ tracks place. tracks-same (entries_of tracks) (entries_of (placed place tracks)) (entries-placed tracks place);
}
