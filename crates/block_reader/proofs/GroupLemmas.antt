-- Children of a BlockGroup in sequence.
use Rattle.std.proofs.Common.{◌≡◌, ◌≢◌, ◌⊎◌, inl, inr, ℕ, ℤ, zero, suc, ◌<◌, ◌≤◌, ◌==◌, nat_le, min, Bool, true, false, List, [], ◌∷◌, ◌++◌, append-nil, length, map, take, Option, Some, None, refl, sym, ◌∙◌, ap, ap₂, arith, eq-eqb}
use Rattle.std.specs.List.{filter, flat_map, slice_get}
use Rattle.std.specs.Option.{option_map, option_or}
use Rattle.std.proofs.lemmas.List.{length-append, length-map, map_push, take_all, take-append-le, length-take}
use Rattle.std.proofs.lemmas.List.Elements.{filter-append}
use Rattle.std.proofs.lemmas.List.Folds.{find-append}
use Rattle.std.proofs.lemmas.Grind.{flat_map-append}
use Rattle.std.proofs.lemmas.Option.{slice_get_past}
use Rattle.std.proofs.lemmas.Bool.Decides.{nat_tests}
use Rattle.std.proofs.lemmas.Bool.{false≢true, cond-true, cond-false}
use Rattle.ebml_numbers.specs.Number.{uint_of, int_of}
use Rattle.mkv_schema.specs.Schema.{entry_of}
use Rattle.mkv_schema.specs.Table.{table}
use Rattle.mkv_schema.specs.declared.ids.TheConstants.{BLOCK_GROUP, BLOCK, BLOCK_DURATION, REFERENCE_BLOCK, VOID, CRC_32}
use Rattle.mkv_schema.specs.declared.element.Header.{Header}
use Rattle.mkv_schema.specs.Value.{body_of, first_of, is_known_value}
use Rattle.block_format.specs.declared.limits.TheConstants.{SLICES, MAX_REFERENCES}
use Rattle.block_format.specs.Elements.{references_among, is_kept, kept_of, element_octets}
use Rattle.block_reader.specs.declared.gathered.Gathered.{Gathered}
use Rattle.block_reader.specs.Group.{Gathers}
use Rattle.lemmas.proofs.PlainLemmas.{differ-false as test}

-- ---- values of children, by the table

-- A Block may have any bytes.
pub block-value : (body : List ℕ) → is_known_value BLOCK_GROUP BLOCK body ≡ true
unfolding entry_of table
block-value body = refl

-- A BlockDuration has at most eight bytes.
pub duration-value : (body : List ℕ) → is_known_value BLOCK_GROUP BLOCK_DURATION body ≡ nat_le (length body) 8
unfolding entry_of table
duration-value body = refl

pub reference-value : (body : List ℕ) → is_known_value BLOCK_GROUP REFERENCE_BLOCK body ≡ nat_le (length body) 8
unfolding entry_of table
reference-value body = refl

-- A BlockDuration or ReferenceBlock has at most eight bytes.
pub integer-value : (id : ℕ) (body : List ℕ) → (id ≡ BLOCK_DURATION) ⊎ (id ≡ REFERENCE_BLOCK) → is_known_value BLOCK_GROUP id body ≡ nat_le (length body) 8
integer-value id body (inl is) = ap (λ i. is_known_value BLOCK_GROUP i body) is ∙ duration-value body
integer-value id body (inr is) = ap (λ i. is_known_value BLOCK_GROUP i body) is ∙ reference-value body

short : (n : ℕ) → nat_le n 8 ≡ true → n ≤ 8
short n test = grind (arith, nat_tests)

pub duration-short : (body : List ℕ) → is_known_value BLOCK_GROUP BLOCK_DURATION body ≡ true → length body ≤ 8
duration-short body known = short (length body) (sym (duration-value body) ∙ known)

pub reference-short : (body : List ℕ) → is_known_value BLOCK_GROUP REFERENCE_BLOCK body ≡ true → length body ≤ 8
reference-short body known = short (length body) (sym (reference-value body) ∙ known)

-- ---- one more child

-- The first child with an ID is an earlier one, if any, or else the new one.
first_of-own : (id : ℕ) (given : List Header) (c : Header) → c.id ≡ id → first_of id (given ++ c ∷ []) ≡ option_or (first_of id given) (Some c)
first_of-own id given c own =
    find-append (λ (h : Header). h.id == id) given (c ∷ [])
    ∙ ap (option_or (first_of id given)) (cond-true (c.id == id) (Some c) None (eq-eqb c.id id own))

or_none : (o : Option Header) → option_or o None ≡ o
or_none None = refl
or_none (Some h) = refl

-- A child with another ID doesn't change the first one.
first_of-other : (id : ℕ) (given : List Header) (c : Header) → c.id ≢ id → first_of id (given ++ c ∷ []) ≡ first_of id given
first_of-other id given c other =
    find-append (λ (h : Header). h.id == id) given (c ∷ [])
    ∙ ap (option_or (first_of id given)) (cond-false (c.id == id) (Some c) None (isn't c.id id other)) ∙ or_none (first_of id given)
  where
    isn't : (a b : ℕ) → a ≢ b → (a == b) ≡ false
    isn't a b other = grind (arith, nat_tests)

-- A filter keeps a child that passes its test.
filter-own : (test : Header → Bool) (given : List Header) (c : Header) → test c ≡ true → filter test (given ++ c ∷ []) ≡ filter test given ++ c ∷ []
filter-own test given c passes = filter-append test given (c ∷ []) ∙ ap (λ l. filter test given ++ l) (cond-true (test c) (c ∷ []) [] passes)

filter-other : (test : Header → Bool) (given : List Header) (c : Header) → test c ≡ false → filter test (given ++ c ∷ []) ≡ filter test given
filter-other test given c fails =
    filter-append test given (c ∷ []) ∙ ap (λ l. filter test given ++ l) (cond-false (test c) (c ∷ []) [] fails) ∙ append-nil (filter test given)

kept-own : (bytes : List ℕ) (given : List Header) (c : Header) → is_kept c.id ≡ true → kept_of bytes (given ++ c ∷ []) ≡ kept_of bytes given ++ element_octets bytes c
kept-own bytes given c passes =
    ap (flat_map (element_octets bytes)) (filter-own (λ (h : Header). is_kept h.id) given c passes)
    ∙ flat_map-append (element_octets bytes) (filter (λ (h : Header). is_kept h.id) given) (c ∷ [])
    ∙ ap (λ l. kept_of bytes given ++ l) (append-nil (element_octets bytes c))

kept-other : (bytes : List ℕ) (given : List Header) (c : Header) → is_kept c.id ≡ false → kept_of bytes (given ++ c ∷ []) ≡ kept_of bytes given
kept-other bytes given c fails = ap (flat_map (element_octets bytes)) (filter-other (λ (h : Header). is_kept h.id) given c fails)

-- ---- ReferenceBlocks

-- Appending `x` changes the element at index `n` only if it was absent.
slice_get-push : (xs : List Header) (x : Header) (n : ℕ) → n ≤ length xs → slice_get (xs ++ x ∷ []) n ≡ option_or (slice_get xs n) (Some x)
slice_get-push [] x zero within = refl
slice_get-push [] x (suc n) within = absurd (omega arith)
slice_get-push (y ∷ ys) x zero within = refl
slice_get-push (y ∷ ys) x (suc n) within = slice_get-push ys x n (omega arith)

length-front : (f : Header → ℤ) (n : ℕ) (xs : List Header) → length (map f (take n xs)) ≡ min n (length xs)
length-front f n xs = simp (length-map, length-take)

-- One more reference is gathered if there is room.
references-room : (f : Header → ℤ) (n : ℕ) (xs : List Header) (x : Header) (old : List ℤ) → old ≡ map f (take n xs) → length old < n → old ++ f x ∷ [] ≡ map f (take n (xs ++ x ∷ []))
references-room f n xs x old is room =
    let few = ap length is ∙ length-front f n xs in
    let fits : length (xs ++ x ∷ []) ≤ n = simp length-append (omega arith) in
    ap (λ l. l ++ f x ∷ []) (is ∙ ap (map f) (take_all n xs (omega arith)))
    ∙ sym (map_push f xs x) ∙ ap (map f) (sym (take_all n (xs ++ x ∷ []) fits))

few-passed : (n : ℕ) (xs : List Header) (x : Header) → length xs < n → slice_get (xs ++ x ∷ []) n ≡ slice_get xs n
few-passed n xs x few =
    let fits : length (xs ++ x ∷ []) ≤ n = simp length-append (omega arith) in
    slice_get_past (xs ++ x ∷ []) n fits ∙ sym (slice_get_past xs n (omega arith))

-- ---- gathered facts after one more child

-- Other children don't change the references.
Gathers-other : (bytes : List ℕ) (given : List Header) (g h : Gathered) (c : Header) → c.id ≢ REFERENCE_BLOCK → Gathers bytes given g → h.references ≡ g.references → h.too_many ≡ g.too_many → h.block ≡ first_of BLOCK (given ++ c ∷ []) → h.duration ≡ option_map (λ (k : Header). uint_of (body_of bytes k)) (first_of BLOCK_DURATION (given ++ c ∷ [])) → h.kept.items ≡ kept_of bytes (given ++ c ∷ []) → Gathers bytes (given ++ c ∷ []) h
Gathers-other bytes given g h c other before references too_many block duration kept =
    let same = filter-other (λ (k : Header). k.id == REFERENCE_BLOCK) given c (test c.id REFERENCE_BLOCK other) in
    record {
      block = block;
      duration = duration;
      references = ap (λ v. v.items) references ∙ before.references ∙ ap (λ l. map (λ (k : Header). int_of (body_of bytes k)) (take MAX_REFERENCES l)) (sym same);
      too_many = too_many ∙ before.too_many ∙ ap (λ l. slice_get l MAX_REFERENCES) (sym same);
      kept = kept;
    }

-- Other children don't change the Block.
same_block : (bytes : List ℕ) (given : List Header) (g : Gathered) (c : Header) → c.id ≢ BLOCK → Gathers bytes given g → g.block ≡ first_of BLOCK (given ++ c ∷ [])
same_block bytes given g c other before = before.block ∙ sym (first_of-other BLOCK given c other)

-- Other children don't change the duration.
same_duration : (bytes : List ℕ) (given : List Header) (g : Gathered) (c : Header) → c.id ≢ BLOCK_DURATION → Gathers bytes given g → g.duration ≡ option_map (λ (k : Header). uint_of (body_of bytes k)) (first_of BLOCK_DURATION (given ++ c ∷ []))
same_duration bytes given g c other before =
    before.duration ∙ ap (option_map (λ (k : Header). uint_of (body_of bytes k))) (sym (first_of-other BLOCK_DURATION given c other))

pub Gathers-block : (bytes : List ℕ) (given : List Header) (g : Gathered) (c : Header) (block : Option Header) → c.id ≡ BLOCK → block ≡ option_or g.block (Some c) → Gathers bytes given g → Gathers bytes (given ++ c ∷ []) (record g { block = block })
Gathers-block bytes given g c block own is before =
    Gathers-other bytes given g (record g { block = block }) c (λ e. omega arith) before refl refl
    (is ∙ ap (λ o. option_or o (Some c)) before.block ∙ sym (first_of-own BLOCK given c own))
    (same_duration bytes given g c (λ e. omega arith) before)
    (before.kept ∙ sym (kept-other bytes given c (ap is_kept own)))

map-or : (f : Header → ℕ) (o : Option Header) (c : Header) → option_or (option_map f o) (Some (f c)) ≡ option_map f (option_or o (Some c))
map-or f None c = refl
map-or f (Some h) c = refl

pub Gathers-duration : (bytes : List ℕ) (given : List Header) (g : Gathered) (c : Header) (duration : Option ℕ) (ticks : ℕ) → c.id ≡ BLOCK_DURATION → ticks ≡ uint_of (body_of bytes c) → duration ≡ option_or g.duration (Some ticks) → Gathers bytes given g → Gathers bytes (given ++ c ∷ []) (record g { duration = duration })
Gathers-duration bytes given g c duration ticks own value is before =
    let f : Header → ℕ = λ k. uint_of (body_of bytes k) in
    Gathers-other bytes given g (record g { duration = duration }) c (λ e. omega arith) before refl refl
    (same_block bytes given g c (λ e. omega arith) before)
    (is ∙ ap₂ (λ o n. option_or o (Some n)) before.duration value ∙ map-or f (first_of BLOCK_DURATION given) c
    ∙ ap (option_map f) (sym (first_of-own BLOCK_DURATION given c own)))
    (before.kept ∙ sym (kept-other bytes given c (ap is_kept own)))

-- A kept child isn't one that is interpreted.
kept_isn't : (id other : ℕ) → is_kept id ≡ true → is_kept other ≡ false → id ≢ other
kept_isn't id other kept left same = false≢true (sym left ∙ ap is_kept (sym same) ∙ kept)

pub Gathers-kept : (bytes : List ℕ) (given : List Header) (g h : Gathered) (c : Header) (octets : List ℕ) → is_kept c.id ≡ true → octets ≡ element_octets bytes c → h.block ≡ g.block → h.duration ≡ g.duration → h.references ≡ g.references → h.too_many ≡ g.too_many → h.kept.items ≡ g.kept.items ++ octets → Gathers bytes given g → Gathers bytes (given ++ c ∷ []) h
Gathers-kept bytes given g h c octets own value block duration references too_many is before =
    Gathers-other bytes given g h c (kept_isn't c.id REFERENCE_BLOCK own refl) before references too_many
    (block ∙ same_block bytes given g c (kept_isn't c.id BLOCK own refl) before)
    (duration ∙ same_duration bytes given g c (kept_isn't c.id BLOCK_DURATION own refl) before)
    (is ∙ ap₂ (λ (k o : List ℕ). k ++ o) before.kept value ∙ sym (kept-own bytes given c own))

left_out : (bytes : List ℕ) (given : List Header) (g : Gathered) (c : Header) (id : ℕ) → c.id ≡ id → is_kept id ≡ false → id ≢ BLOCK → id ≢ BLOCK_DURATION → id ≢ REFERENCE_BLOCK → Gathers bytes given g → Gathers bytes (given ++ c ∷ []) g
left_out bytes given g c id own left block duration reference before =
    Gathers-other bytes given g g c (rw own reference) before refl refl
    (same_block bytes given g c (rw own block) before)
    (same_duration bytes given g c (rw own duration) before)
    (before.kept ∙ sym (kept-other bytes given c (ap is_kept own ∙ left)))

pub Gathers-left_out : (bytes : List ℕ) (given : List Header) (g : Gathered) (c : Header) → (c.id ≡ VOID) ⊎ ((c.id ≡ CRC_32) ⊎ (c.id ≡ SLICES)) → Gathers bytes given g → Gathers bytes (given ++ c ∷ []) g
Gathers-left_out bytes given g c (inl void) before = left_out bytes given g c VOID void refl (λ e. omega arith) (λ e. omega arith) (λ e. omega arith) before
Gathers-left_out bytes given g c (inr (inl crc_32)) before = left_out bytes given g c CRC_32 crc_32 refl (λ e. omega arith) (λ e. omega arith) (λ e. omega arith) before
Gathers-left_out bytes given g c (inr (inr slices)) before = left_out bytes given g c SLICES slices refl (λ e. omega arith) (λ e. omega arith) (λ e. omega arith) before

-- A ReferenceBlock changes only the references.
Gathers-reference : (bytes : List ℕ) (given : List Header) (g h : Gathered) (c : Header) → c.id ≡ REFERENCE_BLOCK → Gathers bytes given g → h.block ≡ g.block → h.duration ≡ g.duration → h.kept ≡ g.kept → h.references.items ≡ map (λ (k : Header). int_of (body_of bytes k)) (take MAX_REFERENCES (references_among given ++ c ∷ [])) → h.too_many ≡ slice_get (references_among given ++ c ∷ []) MAX_REFERENCES → Gathers bytes (given ++ c ∷ []) h
Gathers-reference bytes given g h c own before block duration kept references too_many =
    let more = filter-own (λ (k : Header). k.id == REFERENCE_BLOCK) given c (eq-eqb c.id REFERENCE_BLOCK own) in
    record {
      block = block ∙ same_block bytes given g c (λ e. omega arith) before;
      duration = duration ∙ same_duration bytes given g c (λ e. omega arith) before;
      references = references ∙ ap (λ l. map (λ (k : Header). int_of (body_of bytes k)) (take MAX_REFERENCES l)) (sym more);
      too_many = too_many ∙ ap (λ l. slice_get l MAX_REFERENCES) (sym more);
      kept = ap (λ v. v.items) kept ∙ before.kept ∙ sym (kept-other bytes given c (ap is_kept own));
    }

pub Gathers-room : (bytes : List ℕ) (given : List Header) (g h : Gathered) (c : Header) (ticks : ℤ) → c.id ≡ REFERENCE_BLOCK → ticks ≡ int_of (body_of bytes c) → length g.references.items < MAX_REFERENCES → h.block ≡ g.block → h.duration ≡ g.duration → h.too_many ≡ g.too_many → h.kept ≡ g.kept → h.references.items ≡ g.references.items ++ ticks ∷ [] → Gathers bytes given g → Gathers bytes (given ++ c ∷ []) h
Gathers-room bytes given g h c ticks own value room block duration too_many kept is before =
    let f : Header → ℤ = λ k. int_of (body_of bytes k) in
    let few = ap length before.references ∙ length-front f MAX_REFERENCES (references_among given) in
    Gathers-reference bytes given g h c own before block duration kept
    (is ∙ ap (λ z. g.references.items ++ z ∷ []) value ∙ references-room f MAX_REFERENCES (references_among given) c g.references.items before.references room)
    (too_many ∙ before.too_many ∙ sym (few-passed MAX_REFERENCES (references_among given) c (omega arith)))

pub Gathers-full : (bytes : List ℕ) (given : List Header) (g : Gathered) (c : Header) (too_many : Option Header) → c.id ≡ REFERENCE_BLOCK → length g.references.items ≡ MAX_REFERENCES → too_many ≡ option_or g.too_many (Some c) → Gathers bytes given g → Gathers bytes (given ++ c ∷ []) (record g { too_many = too_many })
Gathers-full bytes given g c too_many own full is before =
    let f : Header → ℤ = λ k. int_of (body_of bytes k) in
    let many = ap length before.references ∙ length-front f MAX_REFERENCES (references_among given) in
    let within : MAX_REFERENCES ≤ length (references_among given) = omega arith in
    Gathers-reference bytes given g (record g { too_many = too_many }) c own before refl refl refl
    (before.references ∙ ap (map f) (sym (take-append-le MAX_REFERENCES (references_among given) (c ∷ []) within)))
    (is ∙ ap (λ o. option_or o (Some c)) before.too_many ∙ sym (slice_get-push (references_among given) c MAX_REFERENCES within))
