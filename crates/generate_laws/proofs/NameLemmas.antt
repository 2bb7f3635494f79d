-- No file that a merge of `generate` reads has the name of one of its outputs.
use Rattle.std.specs.List.{list_all, starts_with}
use Rattle.std.specs.Option.{option_and_then, option_map_or, option_or}
use Rattle.std.specs.Str.{bytes_eq}
use Rattle.std.proofs.Common.{◌≡◌, ◌≢◌, ℕ, suc, ◌+◌, ◌==◌, nat_eq, Bool, false, if◌then◌else◌, ◌&&◌, List, [], ◌∷◌, ◌++◌, append_assoc, length, length-append, take, drop, get_or, codes, None, Some, refl, sym, ap, ◌∙◌, arith, cond, ap₂, find, Option}
use Rattle.std.proofs.lemmas.Bool.{and_right, cond-false}
use Rattle.std.proofs.lemmas.List.{take_at}
use Rattle.lemmas.proofs.PlainLemmas.{bytes_eq-differ}
use Rattle.mkv_io.specs.Characters.{POINT}
use Rattle.sidecar_edit.specs.Name.{sidecar_of}
use Rattle.splitter.specs.Names.{are_digits, before, behind, extension, is_part_name, is_plain, stem, stem_len}
use Rattle.mkv_merge.specs.Read.{first_written}
use Rattle.mkv_generate.specs.Generate.{both_words, names_of, parts_words}

-- ---- names with one prefix

behind-prefix : (prefix xs ys : List ℕ) → prefix ++ xs ≡ prefix ++ ys → xs ≡ ys
behind-prefix [] xs ys same = same
behind-prefix (x ∷ prefix) xs ys same = behind-prefix prefix xs ys (cc)

-- The second byte differs.
second-differs : (xs ys : List ℕ) → get_or xs 1 0 ≢ get_or ys 1 0 → xs ≢ ys
second-differs xs ys apart same = apart (ap (λ (name : List ℕ). get_or name 1 0) same)

-- Different ends after one prefix make different names.
pub no-name : (prefix xs ys : List ℕ) → get_or xs 1 0 ≢ get_or ys 1 0 → bytes_eq (prefix ++ xs) (prefix ++ ys) ≡ false
no-name prefix xs ys apart = bytes_eq-differ (prefix ++ xs) (prefix ++ ys) (λ same. second-differs xs ys apart (behind-prefix prefix xs ys same))

-- So does the end of a journal.
pub no-journal : (prefix xs ys : List ℕ) → get_or (sidecar_of xs) 1 0 ≢ get_or ys 1 0 → bytes_eq (sidecar_of (prefix ++ xs)) (prefix ++ ys) ≡ false
no-journal prefix xs ys apart = ap (λ (name : List ℕ). bytes_eq name (prefix ++ ys)) (append_assoc prefix xs (codes ".mkvedit")) ∙ no-name prefix (sidecar_of xs) ys apart

-- ---- names of parts

not-plain : (prefix xs : List ℕ) → list_all is_plain xs ≡ false → list_all is_plain (prefix ++ xs) ≡ false
not-plain [] xs is = is
not-plain (x ∷ prefix) xs is = and_right (is_plain x) (list_all is_plain (prefix ++ xs)) (not-plain prefix xs is)

stem-long : (prefix : List ℕ) → stem_len (prefix ++ codes "-s.mkv") ≡ length prefix + 2
stem-long [] = refl
stem-long (x ∷ prefix) =
    cond-false (x == POINT && list_all is_plain (prefix ++ codes "-s.mkv")) 0 (suc (stem_len (prefix ++ codes "-s.mkv")))
    (and_right (x == POINT) (list_all is_plain (prefix ++ codes "-s.mkv")) (not-plain prefix (codes "-s.mkv") refl))
    ∙ omega (arith, stem-long prefix)

stem-is : (prefix : List ℕ) → stem (prefix ++ codes "-s.mkv") ≡ prefix ++ codes "-s"
stem-is prefix =
    ap (λ (n : ℕ). take n (prefix ++ codes "-s.mkv")) (stem-long prefix)
    ∙ ap (λ (name : List ℕ). take (length prefix + 2) name) (sym (append_assoc prefix (codes "-s") (codes ".mkv")))
    ∙ take_at (prefix ++ codes "-s") (codes ".mkv") (length prefix + 2) (length-append prefix (codes "-s"))

starts-apart : (prefix xs ys : List ℕ) → starts_with nat_eq xs ys ≡ false → starts_with nat_eq (prefix ++ xs) (prefix ++ ys) ≡ false
starts-apart [] xs ys is = is
starts-apart (x ∷ prefix) xs ys is = and_right (nat_eq x x) (starts_with nat_eq (prefix ++ xs) (prefix ++ ys)) (starts-apart prefix xs ys is)

-- A name with another end isn't the name of a part.
pub no-part : (prefix xs : List ℕ) → starts_with nat_eq xs (codes "-s") ≡ false → is_part_name (prefix ++ codes "-s.mkv") (prefix ++ xs) ≡ false
no-part prefix xs is =
    let output : List ℕ = prefix ++ codes "-s.mkv" in
    let name : List ℕ = prefix ++ xs in
    ap (λ (front : List ℕ). option_map_or are_digits (option_and_then (before (extension output)) (option_and_then (behind (codes "-")) (behind front name))) false) (stem-is prefix)
    ∙ ap (λ (t : Bool). option_map_or are_digits (option_and_then (before (extension output)) (option_and_then (behind (codes "-")) (if t then Some (drop (length (prefix ++ codes "-s")) name) else None))) false)
    (starts-apart prefix xs (codes "-s") is)

-- ---- both merges

-- No name passes the test.
two-fail : (p : List ℕ → Bool) (a b : List ℕ) → p a ≡ false → p b ≡ false → find p (a ∷ b ∷ []) ≡ None
two-fail p a b first second = ap₂ (λ (s t : Bool). cond s (Some a) (cond t (Some b) None)) first second

four-fail : (p : List ℕ → Bool) (a b c d : List ℕ) → p a ≡ false → p b ≡ false → p c ≡ false → p d ≡ false → find p (a ∷ b ∷ c ∷ d ∷ []) ≡ None
four-fail p a b c d first second third fourth =
    ap₂ (λ (s t : Bool). cond s (Some a) (cond t (Some b) (find p (c ∷ d ∷ [])))) first second ∙ two-fail p c d third fourth

pub both-apart : (prefix : List ℕ) → first_written (both_words (names_of prefix)) ≡ None
both-apart prefix =
    let out : List ℕ = codes "-m.mkv" in
    let one : List ℕ = codes "-a.mkv" in
    let two : List ℕ = codes "-b.mkv" in
    ap (λ (o : Option (List ℕ)). option_or o None)
    (four-fail (λ (name : List ℕ). bytes_eq name (prefix ++ out)) (prefix ++ one) (prefix ++ two) (sidecar_of (prefix ++ one)) (sidecar_of (prefix ++ two))
    (no-name prefix one out (λ same. absurd (omega arith))) (no-name prefix two out (λ same. absurd (omega arith)))
    (no-journal prefix one out (λ same. absurd (omega arith))) (no-journal prefix two out (λ same. absurd (omega arith))))

pub parts-apart : (prefix : List ℕ) → first_written (parts_words (names_of prefix)) ≡ None
parts-apart prefix =
    let out : List ℕ = codes "-s.mkv" in
    let one : List ℕ = codes "-m.mkv" in
    ap₂ (λ (o p : Option (List ℕ)). option_or o p)
    (two-fail (λ (name : List ℕ). bytes_eq name (prefix ++ out)) (prefix ++ one) (sidecar_of (prefix ++ one)) (no-name prefix one out (λ same. absurd (omega arith))) (no-journal prefix one out (λ same. absurd (omega arith))))
    (two-fail (λ (name : List ℕ). is_part_name (prefix ++ out) name) (prefix ++ one) (sidecar_of (prefix ++ one)) (no-part prefix one refl)
    (ap (is_part_name (prefix ++ out)) (append_assoc prefix one (codes ".mkvedit")) ∙ no-part prefix (sidecar_of one) refl))
