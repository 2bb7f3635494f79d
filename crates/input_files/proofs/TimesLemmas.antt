-- The timestamp files of a merge's command line in sequence.
use Rattle.std.proofs.Common.{◌≡◌, ℕ, zero, suc, ◌+◌, ◌-◌, ◌<◌, ◌≤◌, List, [], ◌∷◌, ◌++◌, length, drop, get_or, map, refl, sym, ◌∙◌, ap, add-one, append-nil, append_assoc, arith, drop-cons}
use Rattle.std.specs.Prelude.{Option}
use Rattle.std.specs.List.{sum_by}
use Rattle.std.proofs.lemmas.List.Sums.{sum_by-cons}
use Rattle.requests.specs.declared.merge.FileWords.{FileWords}
use Rattle.input_files.specs.TimesFile.{given_with, named_from, named_of, octets_with, size_with, times_from}
use Rattle.input_files.specs.declared.times_file.TimesFile.{TimesFile}
use Rattle.input_files.specs.declared.times_file.TimesName.{TimesName}

none-left : (words : List FileWords) (k : ℕ) → length words ≤ k → drop k words ≡ []
none-left [] zero most = refl
none-left [] (suc k) most = refl
none-left (w ∷ ws) zero most = absurd (omega arith)
none-left (w ∷ ws) (suc k) most = none-left ws k (omega arith)

-- One more input adds its timestamp files.
pub named-more : (words : List FileWords) (k : ℕ) (w : FileWords) (before now : List TimesName) → k < length words → w ≡ get_or words k w
    → before ++ named_from k (drop k words) ≡ named_from 0 words → now ≡ before ++ map (named_of k) w.times → now ++ named_from (k + 1) (drop (k + 1) words) ≡ named_from 0 words
named-more words k w before now inside is sofar more =
    ap (λ (list : List TimesName). list ++ named_from (k + 1) (drop (k + 1) words)) more
    ∙ ap (λ (n : ℕ). (before ++ map (named_of k) w.times) ++ named_from n (drop n words)) (add-one k)
    ∙ append_assoc before (map (named_of k) w.times) (named_from (suc k) (drop (suc k) words))
    ∙ ap (λ (each : FileWords). before ++ (map (named_of k) each.times ++ named_from (suc k) (drop (suc k) words))) is
    ∙ ap (λ (list : List FileWords). before ++ named_from k list) (sym (drop-cons words k w inside))
    ∙ sofar

-- The timestamp files of all inputs are the command line's.
pub named-all : (words : List FileWords) (k : ℕ) (named : List TimesName) → length words ≤ k → named ++ named_from k (drop k words) ≡ named_from 0 words → named ≡ named_from 0 words
named-all words k named most sofar =
    sym (append-nil named) ∙ ap (λ (list : List FileWords). named ++ named_from k list) (sym (none-left words k most)) ∙ sofar

-- ---- results

-- the number of bytes that are read of files
abbrev pub octets_of : (List ℕ → Option (List ℕ)) → List TimesName → ℕ
octets_of world named = sum_by (λ (n : TimesName). octets_with (world n.name)) named

pub octets-more : (world : List ℕ → Option (List ℕ)) (n : TimesName) (ns : List TimesName) → octets_of world (n ∷ ns) ≡ octets_with (world n.name) + octets_of world ns
octets-more world n ns = sum_by-cons (λ (each : TimesName). octets_with (world each.name)) n ns

-- One more timestamp file is read.
pub given-more : (world : List ℕ → Option (List ℕ)) (room now : ℕ) (n : TimesName) (left ns : List TimesName) (f : TimesFile) (before after all : List TimesFile) → left ≡ n ∷ ns
    → before ++ times_from world room left ≡ all → f ≡ record { named = n; given = given_with room (world n.name) } → after ≡ before ++ f ∷ [] → now ≡ room - size_with (world n.name)
    → after ++ times_from world now ns ≡ all
given-more world room now n left ns f before after all is sofar found more behind =
    ap (λ (list : List TimesFile). list ++ times_from world now ns) more
    ∙ append_assoc before (f ∷ []) (times_from world now ns)
    ∙ ap (λ (each : TimesFile). before ++ (each ∷ times_from world now ns)) found
    ∙ ap (λ (r : ℕ). before ++ (record { named = n; given = given_with room (world n.name) } ∷ times_from world r ns)) behind
    ∙ ap (λ (list : List TimesName). before ++ times_from world room list) (sym is)
    ∙ sofar
