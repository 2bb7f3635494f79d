-- An output whose last writes fail.
use Rattle.std.proofs.Common.{◌≡◌, ◌≤◌, ◌<◌, ℕ, zero, suc, ◌+◌, ◌-◌, Bool, true, false, nat_lt, List, [], ◌∷◌, ◌++◌, Option, None, Some, IfSome, append-nil, subst, length, take, drop, get_or, ◌⊎◌, inl, inr, refl, sym, ap, append_assoc, ◌∙◌, arith}
use Rattle.std.proofs.lemmas.Bool.Decides.{nat_tests}
use Rattle.std.proofs.lemmas.List.{length-append, length-take-le, length-drop, get_or_append_left, get_or-append_right, get_or-take, get_or-drop}
use Rattle.mkv_io.specs.Contents.{overwritten, with_appended, with_overwritten}
use Rattle.mkv_io.specs.Names.{Names, with_change, with_content}
use Rattle.mkv_io.proofs.NamesLemmas.{with_content-appended, with_content-overwritten}
use Rattle.mkv_outputs.specs.Drafts.{Draft, Patch, IsPatched, IsPatchedAt, patched}
use Rattle.mkv_outputs.specs.Outputs.{Output}
use Rattle.mkv_outputs.specs.Starts.{IsStart}
use Rattle.mkv_outputs.specs.Written.{PassesSome}
use Rattle.output_model.specs.Duration.{duration_element}
use Rattle.output_model.specs.Element.{octets_of}
use Rattle.cues_seekhead.specs.Draft.{StandsDrafted, duration_patches, patches_at, patches_with}
use Rattle.output_model.proofs.DurationLemmas.{length-duration}

-- ---- names

-- Bytes are appended to the content of a name.
pub appended-to : (before names now : Names) (name content more : List ℕ) → names ≡ with_content before name content → now ≡ with_change names name (with_appended more) → now ≡ with_content before name (content ++ more)
appended-to before names now name content more had changed = changed ∙ ap (λ n. with_change n name (with_appended more)) had ∙ with_content-appended before name content more

-- Bytes of the content are overwritten.
pub overwrote : (before names now : Names) (holder name content octets : List ℕ) (at : ℕ) → holder ≡ name → names ≡ with_content before name content → now ≡ with_change names holder (with_overwritten at octets) → now ≡ with_content before name (overwritten content at octets)
overwrote before names now holder name content octets at same had changed =
    changed ∙ ap (λ h. with_change names h (with_overwritten at octets)) same ∙ ap (λ n. with_change n name (with_overwritten at octets)) had
    ∙ with_content-overwritten before name content at octets

-- ---- overwritten bytes

pub length-overwritten : (bytes now : List ℕ) (at : ℕ) → at + length now ≤ length bytes → length (overwritten bytes at now) ≡ length bytes
length-overwritten bytes now at inside =
    let behind = drop (at + length now) bytes in
    omega (arith, length-append (take at bytes) (now ++ behind), length-append now behind, length-take-le at bytes (omega arith), length-drop (at + length now) bytes)

-- A byte is unchanged, or is one of the written ones.
overwritten-at : (bytes now : List ℕ) (at k : ℕ) → at + length now ≤ length bytes → (get_or (overwritten bytes at now) k 0 ≡ get_or bytes k 0) ⊎ ((at ≤ k) × (k < at + length now))
overwritten-at bytes now at k inside = split (nat_lt k at) refl (nat_lt k (at + length now)) refl
  where
    behind : List ℕ
    behind = drop (at + length now) bytes

    split : (early : Bool) → nat_lt k at ≡ early → (among : Bool) → nat_lt k (at + length now) ≡ among → (get_or (overwritten bytes at now) k 0 ≡ get_or bytes k 0) ⊎ ((at ≤ k) × (k < at + length now))
    split true is among test =
        let below : k < at = grind (arith, nat_tests) in
        let front : length (take at bytes) ≡ at = length-take-le at bytes (omega arith) in
        inl (get_or_append_left (take at bytes) (now ++ behind) 0 k (omega arith) ∙ get_or-take at bytes k 0 below)
    split false is true test = let low : at ≤ k = grind (arith, nat_tests) in let high : k < at + length now = grind (arith, nat_tests) in inr (low, high)
    split false is false test =
        let past : at + length now ≤ k = grind (arith, nat_tests) in
        let front : length (take at bytes) ≡ at = length-take-le at bytes (omega arith) in
        let place : at + length now + (k - at - length now) ≡ k = omega arith in
        inl (get_or-append_right (take at bytes) (now ++ behind) at k 0 front (omega arith)
        ∙ get_or-append_right now behind (length now) (k - at) 0 refl (omega arith)
        ∙ get_or-drop (at + length now) bytes (k - at - length now) 0
        ∙ ap (λ j. get_or bytes j 0) place)

-- Bytes written in the place of a patch leave an output patched.
pub IsPatched-over : (octets now : List ℕ) (d : Draft) (at : ℕ) → IsPatched octets d → at + length now ≤ length octets → ((k : ℕ) → at ≤ k → k < at + length now → IsPatchedAt k d.patches) → IsPatched (overwritten octets at now) d
IsPatched-over octets now d at was inside among = record {
  count = length-overwritten octets now at inside ∙ was.count;
  each = λ k. step k (overwritten-at octets now at k inside) (was.each k);
}
  where
    step : (k : ℕ) → (get_or (overwritten octets at now) k 0 ≡ get_or octets k 0) ⊎ ((at ≤ k) × (k < at + length now)) → (get_or octets k 0 ≡ get_or d.appended k 0) ⊎ IsPatchedAt k d.patches
        → (get_or (overwritten octets at now) k 0 ≡ get_or d.appended k 0) ⊎ IsPatchedAt k d.patches
    step k (inl same) (inl is) = inl (same ∙ is)
    step k (inl same) (inr patch) = inr patch
    step k (inr within) is = inr (among k within.0 within.1)

-- Nothing is patched at first.
pub IsPatched-none : (d : Draft) → IsPatched d.appended d
IsPatched-none d = record { count = refl; each = λ k. inl refl }

-- ---- content of the file

-- The content is a prefix of the appended bytes.
pub StandsDrafted-begun : (before names now : Names) (name content more : List ℕ) (patches : List Patch) → names ≡ with_content before name content → PassesSome names now name more
    → StandsDrafted before now (record { name = name; appended = content ++ more; patches = patches })
StandsDrafted-begun before names now name content more patches had some = record {
  output = record { name = name; content = content ++ some.passed.written };
  drafted = record { name = refl; content = inl (record { rest = some.left; whole = ap (λ w. content ++ w) some.passed.whole ∙ sym (append_assoc content some.passed.written some.left) }) };
  names = appended-to before names now name content some.passed.written had some.passed.added;
}

-- The content is all appended bytes, with the area or the size changed.
pub StandsDrafted-patched : (before now : Names) (d : Draft) (content : List ℕ) → now ≡ with_content before d.name content → IsPatched content d → StandsDrafted before now d
StandsDrafted-patched before now d content is patched = record {
  output = record { name = d.name; content = content };
  drafted = record { name = refl; content = inr patched };
  names = is;
}

-- ---- the patches and their places

patched-left : (k : ℕ) (ps qs : List Patch) → IsPatchedAt k ps → IsPatchedAt k (ps ++ qs)
patched-left k [] qs is = absurd is
patched-left k (p ∷ ps) qs (inl here) = inl here
patched-left k (p ∷ ps) qs (inr later) = inr (patched-left k ps qs later)

patched-right : (k : ℕ) (ps qs : List Patch) → IsPatchedAt k qs → IsPatchedAt k (ps ++ qs)
patched-right k [] qs is = is
patched-right k (p ∷ ps) qs is = inr (patched-right k ps qs is)

pub in-area : (start k : ℕ) (place : Option ℕ) (end : ℕ) (area size : List ℕ) (n : ℕ) → n ≡ length area → start ≤ k → k < start + n → IsPatchedAt k (patches_with start place end area size)
in-area start k place end area size n is low high = patched-right k (duration_patches start place end) (patches_at start area size) (inl (low, omega arith))

pub in-size : (start k : ℕ) (place : Option ℕ) (end : ℕ) (area size : List ℕ) (n : ℕ) → n ≡ length size → start - 8 ≤ k → k < start - 8 + n → IsPatchedAt k (patches_with start place end area size)
in-size start k place end area size n is low high = patched-right k (duration_patches start place end) (patches_at start area size) (inr (inl (low, omega arith)))

-- ---- the Duration

-- A Duration above 0 is written at its place.
pub duration-some : (start : ℕ) (place : Option ℕ) (end at : ℕ) → place ≡ Some at → 1 ≤ end → duration_patches start place end ≡ record { at = start + at; octets = octets_of (duration_element end) } ∷ []
duration-some start None end at is some = absurd (cc)
duration-some start (Some k) zero at is some = absurd (omega arith)
duration-some start (Some k) (suc n) at is some = ap (λ place. duration_patches start place (suc n)) is

-- All bytes are there after the write of the Duration, and differ only in its place.
pub duration-patched : (bytes name : List ℕ) (start : ℕ) (place : Option ℕ) (end : ℕ) (qs : List Patch) → IfSome place (λ at. start + at + 11 ≤ length bytes)
    → IsPatched (patched bytes (duration_patches start place end)) (record { name = name; appended = bytes; patches = duration_patches start place end ++ qs })
duration-patched bytes name start None end qs inside = record { count = refl; each = λ k. inl refl }
duration-patched bytes name start (Some at) zero qs inside = record { count = refl; each = λ k. inl refl }
duration-patched bytes name start (Some at) (suc n) qs inside =
    let d : Draft = record { name = name; appended = bytes; patches = duration_patches start (Some at) (suc n) ++ qs } in
    IsPatched-over bytes (octets_of (duration_element (suc n))) d (start + at) (record { count = refl; each = λ k. inl refl })
    (omega (arith, length-duration (suc n), inside))
    (λ k low high. inl (low, high))

-- The Duration's place is inside a longer file, too.
pub inside-later : (start : ℕ) (place : Option ℕ) (few many : ℕ) → few ≤ many → IfSome place (λ at. start + at + 11 ≤ few) → IfSome place (λ at. start + at + 11 ≤ many)
inside-later start None few many more inside = inside
inside-later start (Some at) few many more inside = omega (arith, more, inside)

-- A draft may have more patches.
pub StandsDrafted-more : (before now : Names) (name appended : List ℕ) (ps qs : List Patch) → StandsDrafted before now (record { name = name; appended = appended ++ []; patches = ps })
    → StandsDrafted before now (record { name = name; appended = appended; patches = ps ++ qs })
StandsDrafted-more before now name appended ps qs stands =
    let P : List ℕ → Type 0 = λ w. StandsDrafted before now (record { name = name; appended = w; patches = ps }) in
    let same = subst P (append-nil appended) stands in
    record { output = same.output; drafted = record { name = same.drafted.name; content = more same.output same.drafted.content }; names = same.names }
  where
    more : (o : Output) → IsStart o.content appended ⊎ IsPatched o.content (record { name = name; appended = appended; patches = ps })
        → IsStart o.content appended ⊎ IsPatched o.content (record { name = name; appended = appended; patches = ps ++ qs })
    more o (inl start) = inl start
    more o (inr is) = inr (record { count = is.count; each = λ k. at k (is.each k) })
      where
        at : (k : ℕ) → (get_or o.content k 0 ≡ get_or appended k 0) ⊎ IsPatchedAt k ps → (get_or o.content k 0 ≡ get_or appended k 0) ⊎ IsPatchedAt k (ps ++ qs)
        at k (inl equal) = inl equal
        at k (inr patch) = inr (patched-left k ps qs patch)

-- The bytes `back` were appended, and then the Duration was written. The file is named `h`, which doesn't change.
pub after-duration : (before n0 n1 n2 : Names) (h h1 content back : List ℕ) (dp : List Patch) (size : ℕ) → h1 ≡ h → n0 ≡ with_content before h content → n1 ≡ with_change n0 h (with_appended back)
    → size ≤ length (content ++ back) → ((b : Names) (w : List ℕ) → size ≤ length w → n1 ≡ with_content b h1 w → n2 ≡ with_content b h1 (patched (w ++ []) dp))
    → n2 ≡ with_content before h (patched (content ++ back) dp)
after-duration before n0 n1 n2 h h1 content back dp size same had added long puts =
    let all = content ++ back in
    let grown = appended-to before n0 n1 h content back had added in
    puts before all long (grown ∙ ap (λ name. with_content before name all) (sym same))
    ∙ ap (λ w. with_content before h1 (patched w dp)) (append-nil all)
    ∙ ap (λ name. with_content before name (patched all dp)) same
