-- Laws on encodings of a track that can be undone.
use Rattle.std.proofs.Common.{◌≡◌, ◌≤◌, ℕ, ◌==◌, Bool, true, false, not, ◌&&◌, cond, List, [], ◌∷◌, length, filter, find, Option, Some, None, is_none, refl, sym, subst, ap, ◌∙◌, arith}
use Rattle.std.specs.Prelude.{slice_get}
use Rattle.std.specs.Option.{option_map_or, option_and_then}
use Rattle.std.proofs.lemmas.Bool.Decides.{nat_tests}
use Rattle.mkv_schema.specs.declared.ids.TheConstants.{CONTENT_ENCODINGS, CONTENT_ENCODING}
use Rattle.mkv_io.specs.declared.damage.Damage.{Damage}
use Rattle.mkv_io.specs.declared.damage.Kind.TheVariants.{Encoding}
use Rattle.mkv_schema.specs.Element.{damage}
use Rattle.mkv_schema.specs.Outline.{first_damage, where_it}
use Rattle.tree_format.specs.Node.{Node, id_of, offset_of, children}
use Rattle.tree_format.specs.Values.{first_child}
use Rattle.file_format.specs.Encoding.{settings_of, most_stripped, strips_headers, encodings_of, can_be_undone, bad_encoding, usable_causes, prefix_of}

-- ---- the ContentEncoding Elements among others

-- The first element that passes a test is the first of all that pass.
filter-found : (p : Node → Bool) (ns : List Node) (n : Node) → find p ns ≡ Some n → (rest : List Node) × (filter p ns ≡ n ∷ rest)
filter-found p [] n found = absurd (cc)
filter-found p (m ∷ ns) n found = split (p m) found (filter-found p ns n)
  where
    split : (b : Bool) → cond b (Some m) (find p ns) ≡ Some n → (find p ns ≡ Some n → (rest : List Node) × (filter p ns ≡ n ∷ rest)) → (rest : List Node) × (cond b (m ∷ filter p ns) (filter p ns) ≡ n ∷ rest)
    split true found rest = let same : m ≡ n = cc in (filter p ns, ap (λ k. k ∷ filter p ns) same)
    split false found rest = rest found

filter-none : (p : Node → Bool) (ns : List Node) → find p ns ≡ None → filter p ns ≡ []
filter-none p [] found = refl
filter-none p (m ∷ ns) found = split (p m) found (filter-none p ns)
  where
    split : (b : Bool) → cond b (Some m) (find p ns) ≡ None → (find p ns ≡ None → filter p ns ≡ []) → cond b (m ∷ filter p ns) (filter p ns) ≡ []
    split true found rest = absurd (cc)
    split false found rest = rest found

-- Without a ContentEncoding there is nothing to undo.
pub undone-none : (encodings : Node) → first_child CONTENT_ENCODING encodings ≡ None → can_be_undone (encodings_of encodings) ≡ true
undone-none encodings found = ap can_be_undone (filter-none (λ n. id_of n == CONTENT_ENCODING) (children encodings) found)

-- With a ContentEncoding, it must be the only one and strip headers.
undone-some : (encodings n : Node) → first_child CONTENT_ENCODING encodings ≡ Some n → can_be_undone (encodings_of encodings) ≡ (is_none (slice_get (encodings_of encodings) 1) && strips_headers n)
undone-some encodings n found =
    let all = filter-found (λ m. id_of m == CONTENT_ENCODING) (children encodings) n found in
    ap can_be_undone all.1 ∙ alone all.0 ∙ ap (λ l. is_none (slice_get l 1) && strips_headers n) (sym all.1)
  where
    alone : (rest : List Node) → can_be_undone (n ∷ rest) ≡ (is_none (slice_get (n ∷ rest) 1) && strips_headers n)
    alone [] = refl
    alone (m ∷ rest) = refl

-- A ContentEncoding that is the only one must strip headers.
pub undone-one : (encodings n : Node) → first_child CONTENT_ENCODING encodings ≡ Some n → slice_get (encodings_of encodings) 1 ≡ None → can_be_undone (encodings_of encodings) ≡ strips_headers n
undone-one encodings n found alone = undone-some encodings n found ∙ ap (λ o. is_none o && strips_headers n) alone

-- ---- the number of bytes that are put back

both : (a b : Bool) → (a && b) ≡ true → b ≡ true
both true b is = is
both false b is = absurd (cc)

passes-none : (b : Bool) (d : Damage) → where_it (not b) d ≡ None → b ≡ true
passes-none true d is = refl
passes-none false d is = absurd (cc)

settings-few : (n : Node) → strips_headers n ≡ true → length (settings_of n) ≤ most_stripped
settings-few n strips = grind (arith, nat_tests)

-- If the first ContentEncodings can be undone, the prefix keeps the limit.
prefix-few : (entry : Node) → bad_encoding entry ≡ None → length (prefix_of entry) ≤ most_stripped
prefix-few entry none = of_encodings (first_child CONTENT_ENCODINGS entry) none
  where
    of_encoding : (e : Node) (o : Option Node) → first_child CONTENT_ENCODING e ≡ o → can_be_undone (encodings_of e) ≡ true → length (option_map_or settings_of o []) ≤ most_stripped
    of_encoding e None found undone = omega arith
    of_encoding e (Some n) found undone = settings-few n (both _ _ (sym (undone-some e n found) ∙ undone))

    of_encodings : (o : Option Node) → option_and_then (λ e. where_it (not (can_be_undone (encodings_of e))) (damage Encoding CONTENT_ENCODINGS (offset_of e))) o ≡ None
        → length (option_map_or settings_of (option_and_then (λ e. first_child CONTENT_ENCODING e) o) []) ≤ most_stripped
    of_encodings None none = omega arith
    of_encodings (Some e) none = of_encoding e (first_child CONTENT_ENCODING e) refl (passes-none _ _ none)

first-none : (a b : Option Damage) → first_damage (a ∷ b ∷ []) ≡ None → a ≡ None
first-none None b is = refl
first-none (Some d) b is = absurd (cc)

-- If the track can be used, the prefix of each frame keeps the limit.
pub usable-few : (entry : Node) (cause : Option Damage) (prefix : List ℕ) → cause ≡ first_damage (usable_causes entry) → cause ≡ None → prefix ≡ prefix_of entry → length prefix ≤ most_stripped
usable-few entry cause prefix found none is =
    let P : List ℕ → Type 0 = λ l. length l ≤ most_stripped in
    subst P (sym is) (prefix-few entry (first-none _ _ (sym found ∙ none)))
