-- The children of a Cues: RFC 9559, section 5.1.5 (Cues Element).
use Rattle.std.proofs.Common.{◌≡◌, ℕ, suc, ◌+◌, ◌<◌, ◌==◌, eq-eqb, eqb-true, Bool, true, false, if◌then◌else◌, is_ok, List, ◌∷◌, ◌++◌, length, drop, flat_map, get_or, Result, Ok, Err, OnOk, refl, sym, ◌∙◌, ap, append_assoc, arith}
use Rattle.std.proofs.Math.Seq.{drop-cons}
use Rattle.mkv_schema.specs.Schema.{entry_of}
use Rattle.mkv_schema.specs.Table.{table}
use Rattle.mkv_schema.specs.declared.ids.TheConstants.{CUE_CLUSTER_POSITION, CUE_POINT, CUE_RELATIVE_POSITION, CUE_TIME, CUE_TRACK, CUE_TRACK_POSITIONS}
use Rattle.tree_format.specs.Changes.{part}
use Rattle.tree_format.specs.Node.{Node, id_of, children}
use Rattle.tree_format.specs.Standing.{IsSoundOf}
use Rattle.tree_format.specs.Values.{HasUint}
use Rattle.tree_format.proofs.ChildLemmas.{HasUint-of, child-stands, stands-sound}

-- The table has the integers of a Cues.
time : HasUint CUE_POINT CUE_TIME
unfolding entry_of table
time = record { stands = refl; kind = refl }

track : HasUint CUE_TRACK_POSITIONS CUE_TRACK
unfolding entry_of table
track = record { stands = refl; kind = refl }

cluster : HasUint CUE_TRACK_POSITIONS CUE_CLUSTER_POSITION
unfolding entry_of table
cluster = record { stands = refl; kind = refl }

relative : HasUint CUE_TRACK_POSITIONS CUE_RELATIVE_POSITION
unfolding entry_of table
relative = record { stands = refl; kind = refl }

-- The table has them in their masters.
pub has_time : (n : Node) → IsSoundOf CUE_POINT n → HasUint (id_of n) CUE_TIME
has_time n is = HasUint-of CUE_POINT CUE_TIME n is time

pub has_track : (n : Node) → IsSoundOf CUE_TRACK_POSITIONS n → HasUint (id_of n) CUE_TRACK
has_track n is = HasUint-of CUE_TRACK_POSITIONS CUE_TRACK n is track

pub has_cluster : (n : Node) → IsSoundOf CUE_TRACK_POSITIONS n → HasUint (id_of n) CUE_CLUSTER_POSITION
has_cluster n is = HasUint-of CUE_TRACK_POSITIONS CUE_CLUSTER_POSITION n is cluster

pub has_relative : (n : Node) → IsSoundOf CUE_TRACK_POSITIONS n → HasUint (id_of n) CUE_RELATIVE_POSITION
has_relative n is = HasUint-of CUE_TRACK_POSITIONS CUE_RELATIVE_POSITION n is relative

-- a child of a sound master is sound
pub child-sound : (parent id : ℕ) (tree n : Node) (ns : List Node) (i own : ℕ) → IsSoundOf parent tree → ns ≡ children tree → i < length ns → n ≡ get_or ns i n → own ≡ id_of n → own ≡ id → IsSoundOf id n
child-sound parent id tree n ns i own sound are inside at of same =
    record { id = cc; sound = stands-sound (id_of tree) n (child-stands tree n ns i sound.sound are inside at) }

-- Pieces that were appended in sequence.
pub joined : {E : Type 0} (r : Result (Unit {0}) E) (old first next last new a b c d : List ℕ) → first ≡ old ++ a → next ≡ first ++ b → last ≡ next ++ c → new ≡ (if is_ok r then last ++ d else last) → OnOk r (new ≡ old ++ (a ++ (b ++ (c ++ d))))
joined (Err e) old first next last new a b c d one two three four = tt
joined (Ok done) old first next last new a b c d one two three four =
    four ∙ ap (λ (bytes : List ℕ). bytes ++ d) (three ∙ ap (λ (bytes : List ℕ). bytes ++ c) (two ∙ ap (λ (bytes : List ℕ). bytes ++ b) one))
    ∙ simp append_assoc

-- ---- the bytes appended for the children with an ID

-- The rest of the children with an ID, from child `i` on.
part-at : (id : ℕ) (ns : List Node) (i : ℕ) (n : Node) → i < length ns → n ≡ get_or ns i n → part id (drop i ns) ≡ (if id_of n == id then n ∷ part id (drop (i + 1) ns) else part id (drop (i + 1) ns))
part-at id ns i n inside at =
    ap (part id) (drop-cons ns i n inside ∙ ap (λ (m : Node). m ∷ drop (suc i) ns) (sym at))
    ∙ ap (λ (k : ℕ). if id_of n == id then n ∷ part id (drop k ns) else part id (drop k ns)) (one_more i)
  where
    one_more : (k : ℕ) → suc k ≡ k + 1
    one_more k = omega arith

-- The child's bytes are appended.
pub part-added : (f : Node → List ℕ) (id own : ℕ) (ns : List Node) (i : ℕ) (n : Node) (out next whole : List ℕ) → i < length ns → n ≡ get_or ns i n → own ≡ id_of n → own ≡ id → next ≡ out ++ f n → out ++ flat_map f (part id (drop i ns)) ≡ whole → next ++ flat_map f (part id (drop (i + 1) ns)) ≡ whole
part-added f id own ns i n out next whole inside at of same more so =
    ap (λ (bytes : List ℕ). bytes ++ flat_map f (part id (drop (i + 1) ns))) more
    ∙ append_assoc out (f n) (flat_map f (part id (drop (i + 1) ns)))
    ∙ ap (λ (ms : List Node). out ++ flat_map f ms) (sym (part-at id ns i n inside at ∙ ap (λ (a : Bool). if a then n ∷ part id (drop (i + 1) ns) else part id (drop (i + 1) ns)) is))
    ∙ so
  where
    is : (id_of n == id) ≡ true
    is = eq-eqb (id_of n) id (sym of ∙ same)

-- The child is passed.
pub part-passed : (f : Node → List ℕ) (id own : ℕ) (ns : List Node) (i : ℕ) (n : Node) (out whole : List ℕ) → i < length ns → n ≡ get_or ns i n → own ≡ id_of n → (own ≡ id → ⊥) → out ++ flat_map f (part id (drop i ns)) ≡ whole → out ++ flat_map f (part id (drop (i + 1) ns)) ≡ whole
part-passed f id own ns i n out whole inside at of other so =
    ap (λ (ms : List Node). out ++ flat_map f ms) (sym (part-at id ns i n inside at ∙ ap (λ (a : Bool). if a then n ∷ part id (drop (i + 1) ns) else part id (drop (i + 1) ns)) (is (id_of n == id) refl)))
    ∙ so
  where
    is : (a : Bool) → (id_of n == id) ≡ a → a ≡ false
    is true same = absurd (other (of ∙ eqb-true (id_of n) id same))
    is false same = refl
