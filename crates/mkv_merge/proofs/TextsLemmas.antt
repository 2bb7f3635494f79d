-- Inputs with the timestamps of timestamp files.
use Rattle.std.proofs.Common.{◌≡◌, ℕ, suc, ◌+◌, Bool, true, false, if◌then◌else◌, List, [], ◌∷◌, ◌++◌, ◌<◌, length, drop, get_or, map, flat_map, Option, Some, None, Ok, Err, refl, sym, ◌∙◌, ap, ap₂, subst, add-one, append_assoc, drop-cons}
use Rattle.std.specs.Prelude.{◌==◌}
use Rattle.std.specs.List.{All}
use Rattle.std.proofs.lemmas.List.{map-append}
use Rattle.std.proofs.lemmas.List.Elements.{All-nil, All-cons, All-head, All-tail}
use Rattle.mkv_io.specs.declared.outside.FileId.{FileId}
use Rattle.mkv_io.specs.LiveFiles.{LiveFiles}
use Rattle.ext_times.specs.Listing.{Listing}
use Rattle.input_files.specs.ChapterFile.{CanBeWritten}
use Rattle.input_files.specs.declared.chapter_file.ChapterFile.{ChapterFile}
use Rattle.input_files.specs.declared.times_file.TimesFile.{TimesFile}
use Rattle.input_files.specs.declared.times_file.TimesGiven.{TimesGiven}
use Rattle.input_files.specs.declared.times_file.TimesGiven.TheVariants as given
use Rattle.requests.specs.declared.merge.FileWords.{FileWords}
use Rattle.merge_inputs.specs.Input.{InputRead, IsInput, read_in}
use Rattle.merge_inputs.specs.declared.input.Input.{Input}
use Rattle.merge_plan.specs.TakenTracks.{HasPlace}
use Rattle.mkv_merge.specs.Chapters.{chaptered, chapters_refusal, with_file, with_tree}
use Rattle.mkv_merge.specs.Prepared.{AreInputsOf, AreUnmoved, reads_in}
use Rattle.mkv_io.specs.Results.{unless}
use Rattle.mkv_merge.specs.Texts.{given_listing, listings_at, timed_from, times_refusal, with_listings, with_times}
use Rattle.mkv_merge.specs.Timed.{IsSameBut, Listed, at_input, given_listed, listed_by, listed_in, listed_of, shared_at, shared_from, untimed}
use Rattle.mkv_merge.specs.declared.refusal.Refusal.{Refusal}
use Rattle.mkv_merge.specs.declared.texts.SharedTimes.{SharedTimes}
use Rattle.mkv_merge.proofs.ChaptersLemmas.{chaptered-inputs, chaptered-shifts, unrefused}

-- ---- inputs of the same files

-- An input stays valid with other timestamps.
own-times : (f : LiveFiles) (i : Input) → IsInput f i → IsInput f (untimed i)
own-times f i is = record {
  live = is.live;
  len = is.len;
  blocks = is.blocks;
  taken = is.taken;
  attachments = is.attachments;
  chapters = is.chapters;
  tags = is.tags;
}

any-times : (f : LiveFiles) (i : Input) → IsInput f (untimed i) → IsInput f i
any-times f i is = record {
  live = is.live;
  len = is.len;
  blocks = is.blocks;
  taken = is.taken;
  attachments = is.attachments;
  chapters = is.chapters;
  tags = is.tags;
}

same-inputs : (f : LiveFiles) (inputs new : List Input) → IsSameBut inputs new → All (IsInput f) inputs → All (IsInput f) new
same-inputs f inputs [] same all = All-nil (IsInput f)
same-inputs f [] (n ∷ ns) same all = absurd (cc)
same-inputs f (i ∷ is) (n ∷ ns) same all =
    let here : untimed n ≡ untimed i = cc in
    let rest : IsSameBut is ns = cc in
    All-cons (IsInput f) n ns (any-times f n (subst (IsInput f) (sym here) (own-times f i (All-head (IsInput f) i is all)))) (same-inputs f is ns rest (All-tail (IsInput f) i is all))

same-files : (inputs new : List Input) → IsSameBut inputs new → map (λ (i : Input). i.file) new ≡ map (λ (i : Input). i.file) inputs
same-files [] [] same = refl
same-files (i ∷ is) [] same = absurd (cc)
same-files [] (n ∷ ns) same = absurd (cc)
same-files (i ∷ is) (n ∷ ns) same =
    let here : untimed n ≡ untimed i = cc in
    let rest : IsSameBut is ns = cc in
    ap₂ (λ (file : FileId) (files : List FileId). file ∷ files) (ap (λ (each : Input). each.file) here) (same-files is ns rest)

same-places : (inputs new : List Input) → IsSameBut inputs new → All HasPlace inputs → All HasPlace new
same-places inputs [] same all = All-nil HasPlace
same-places [] (n ∷ ns) same all = absurd (cc)
same-places (i ∷ is) (n ∷ ns) same all =
    let here : untimed n ≡ untimed i = cc in
    let rest : IsSameBut is ns = cc in
    All-cons HasPlace n ns (subst HasPlace (sym here) (All-head HasPlace i is all)) (same-places is ns rest (All-tail HasPlace i is all))

-- The inputs with the text files applied are inputs of the same files.
pub inputs-timed : (f : LiveFiles) (list : List FileId) (webm : Bool) (c : ChapterFile) (read headed timed : List Input) → CanBeWritten c → AreInputsOf f list read → with_file with_tree webm c read ≡ Ok headed → IsSameBut headed timed
    → AreInputsOf f list timed
inputs-timed f list webm c read headed timed written are made same =
    let head = subst (AreInputsOf f list) (unrefused (chapters_refusal c) (chaptered with_tree webm c read) headed made).1 (chaptered-inputs f list webm c read written are) in
    record {
      good = same-inputs f headed timed same head.good;
      of = same-files headed timed same ∙ head.of;
      places = same-places headed timed same head.places;
    }

same-shifts : (inputs new : List Input) → IsSameBut inputs new → map (λ (i : Input). i.shift) new ≡ map (λ (i : Input). i.shift) inputs
same-shifts [] [] same = refl
same-shifts (i ∷ is) [] same = absurd (cc)
same-shifts [] (n ∷ ns) same = absurd (cc)
same-shifts (i ∷ is) (n ∷ ns) same =
    let here : untimed n ≡ untimed i = cc in
    let rest : IsSameBut is ns = cc in
    ap₂ (λ (shift : Option ℕ) (shifts : List (Option ℕ)). shift ∷ shifts) (ap (λ (each : Input). each.shift) here) (same-shifts is ns rest)

-- Text files change no append offset.
pub shifts-timed : (files : List FileWords) (webm : Bool) (c : ChapterFile) (read headed timed : List Input) → AreUnmoved files read → with_file with_tree webm c read ≡ Ok headed → IsSameBut headed timed → AreUnmoved files timed
shifts-timed files webm c read headed timed are made same =
    same-shifts headed timed same
    ∙ sym (ap (map (λ (i : Input). i.shift)) (unrefused (chapters_refusal c) (chaptered with_tree webm c read) headed made).1)
    ∙ chaptered-shifts webm c read ∙ are

-- ---- timestamps of files

-- The timestamps of one file.
listed-one : (input : ℕ) (f : TimesFile) (rest : List (ℕ × Listing)) → flat_map (at_input input) (map (given_listed f.named.input) (given_listing f.named.id f.given)) ++ rest
    ≡ (if f.named.input == input then given_listing f.named.id f.given else []) ++ rest
listed-one input f rest = by_given f.given
  where
    by_test : (b : Bool) (times : Listing) → ((if b then (f.named.id, times) ∷ [] else []) ++ []) ++ rest ≡ (if b then (f.named.id, times) ∷ [] else []) ++ rest
    by_test true times = refl
    by_test false times = refl

    by_none : (b : Bool) → rest ≡ (if b then [] else []) ++ rest
    by_none true = refl
    by_none false = refl

    by_given : (g : TimesGiven) → flat_map (at_input input) (map (given_listed f.named.input) (given_listing f.named.id g)) ++ rest ≡ (if f.named.input == input then given_listing f.named.id g else []) ++ rest
    by_given given.Missing = by_none (f.named.input == input)
    by_given (given.Refused why) = by_none (f.named.input == input)
    by_given (given.Read times) = by_test (f.named.input == input) times

flat-append : {A B : Type 0} (f : A → List B) (xs ys : List A) → flat_map f (xs ++ ys) ≡ flat_map f xs ++ flat_map f ys
flat-append f [] ys = refl
flat-append f (x ∷ xs) ys = ap (λ rest. f x ++ rest) (flat-append f xs ys) ∙ sym (append_assoc (f x) (flat_map f xs) (flat_map f ys))

listed-at : (input : ℕ) (files : List TimesFile) → flat_map (at_input input) (listed_in files) ≡ listings_at input files
listed-at input [] = refl
listed-at input (f ∷ fs) =
    flat-append (at_input input) (map (given_listed f.named.input) (given_listing f.named.id f.given)) (listed_in fs)
    ∙ listed-one input f (flat_map (at_input input) (listed_in fs))
    ∙ ap (λ (rest : List (ℕ × Listing)). (if f.named.input == input then given_listing f.named.id f.given else []) ++ rest) (listed-at input fs)

shared-listed : (input : ℕ) (shared : List SharedTimes) → shared_at input shared ≡ flat_map (at_input input) (map listed_of shared)
shared-listed input [] = refl
shared-listed input (s ∷ ss) = ap (λ (rest : List (ℕ × Listing)). at_input input (listed_of s) ++ rest) (shared-listed input ss)

shared-timed : (shared : List SharedTimes) (files : List TimesFile) (input : ℕ) (reads : List InputRead) → map listed_of shared ≡ listed_in files → shared_from shared input reads ≡ timed_from files input reads
shared-timed shared files input [] are = refl
shared-timed shared files input (i ∷ is) are =
    ap₂ (λ (first : InputRead) (rest : List InputRead). first ∷ rest)
    (ap (λ (times : List (ℕ × Listing)). with_listings times i) (shared-listed input shared ∙ ap (flat_map (at_input input)) are ∙ listed-at input files))
    (shared-timed shared files (suc input) is are)

-- The inputs have the timestamps of the files if none is refused.
pub times-given : (files : List TimesFile) (shared : List SharedTimes) (inputs new : List Input) → times_refusal files ≡ None → map listed_of shared ≡ listed_in files → reads_in new ≡ shared_from shared 0 (reads_in inputs)
    → with_times files (reads_in inputs) ≡ Ok (reads_in new)
times-given files shared inputs new none are made =
    ap (λ (why : Option Refusal). unless why (timed_from files 0 (reads_in inputs))) none
    ∙ ap (λ (reads : List InputRead). Ok reads) (sym (made ∙ shared-timed shared files 0 (reads_in inputs) are))

pub times-refused : (files : List TimesFile) (reads : List InputRead) (why : Refusal) → times_refusal files ≡ Some why → with_times files reads ≡ Err why
times-refused files reads why is = ap (λ (o : Option Refusal). unless o (timed_from files 0 reads)) is

-- ---- one at a time

-- The timestamps of one more file.
pub listed-more : (before after : List SharedTimes) (f : TimesFile) (left fs all : List TimesFile) → left ≡ f ∷ fs → map listed_of before ++ listed_in left ≡ listed_in all → map listed_of after ≡ map listed_of before ++ listed_by f
    → map listed_of after ++ listed_in fs ≡ listed_in all
listed-more before after f left fs all is sofar more =
    ap (λ (list : List Listed). list ++ listed_in fs) more
    ∙ append_assoc (map listed_of before) (listed_by f) (listed_in fs)
    ∙ ap (λ (files : List TimesFile). map listed_of before ++ listed_in files) (sym is)
    ∙ sofar

-- The timestamps of one more shared item.
pub shared-more : (input : ℕ) (shared : List SharedTimes) (k : ℕ) (s : SharedTimes) (before after : List (ℕ × Listing)) → k < length shared → s ≡ get_or shared k s → before ++ shared_at input (drop k shared) ≡ shared_at input shared
    → after ≡ before ++ at_input input (listed_of s) → after ++ shared_at input (drop (k + 1) shared) ≡ shared_at input shared
shared-more input shared k s before after inside is sofar more =
    let one : drop k shared ≡ s ∷ drop (k + 1) shared = drop-cons shared k s inside ∙ ap₂ (λ (first : SharedTimes) (n : ℕ). first ∷ drop n shared) (sym is) (sym (add-one k)) in
    ap (λ (list : List (ℕ × Listing)). list ++ shared_at input (drop (k + 1) shared)) more
    ∙ append_assoc before (at_input input (listed_of s)) (shared_at input (drop (k + 1) shared))
    ∙ ap (λ (rest : List SharedTimes). before ++ shared_at input rest) (sym one)
    ∙ sofar

-- One more input has its timestamps.
pub timed-more : (shared : List SharedTimes) (n : ℕ) (before after : List Input) (i j : Input) (left is all : List Input) → left ≡ i ∷ is → reads_in before ++ shared_from shared n (reads_in left) ≡ shared_from shared 0 (reads_in all)
    → read_in j ≡ with_listings (shared_at n shared) (read_in i) → after ≡ before ++ j ∷ [] → reads_in after ++ shared_from shared (n + 1) (reads_in is) ≡ shared_from shared 0 (reads_in all)
timed-more shared n before after i j left is all front sofar made more =
    ap (λ (list : List Input). reads_in list ++ shared_from shared (n + 1) (reads_in is)) more
    ∙ ap₂ (λ (list : List InputRead) (m : ℕ). list ++ shared_from shared m (reads_in is)) (map-append read_in before (j ∷ [])) (add-one n)
    ∙ append_assoc (reads_in before) (read_in j ∷ []) (shared_from shared (suc n) (reads_in is))
    ∙ ap (λ (first : InputRead). reads_in before ++ (first ∷ shared_from shared (suc n) (reads_in is))) made
    ∙ ap (λ (inputs : List Input). reads_in before ++ shared_from shared n (reads_in inputs)) (sym front)
    ∙ sofar

pub same-more : (before after : List Input) (i j : Input) (left is all : List Input) → left ≡ i ∷ is → map untimed before ++ map untimed left ≡ map untimed all → untimed j ≡ untimed i → after ≡ before ++ j ∷ []
    → map untimed after ++ map untimed is ≡ map untimed all
same-more before after i j left is all front sofar same more =
    ap (λ (list : List Input). map untimed list ++ map untimed is) more
    ∙ ap (λ (list : List Input). list ++ map untimed is) (map-append untimed before (j ∷ []))
    ∙ append_assoc (map untimed before) (untimed j ∷ []) (map untimed is)
    ∙ ap (λ (first : Input). map untimed before ++ (first ∷ map untimed is)) same
    ∙ ap (λ (inputs : List Input). map untimed before ++ map untimed inputs) (sym front)
    ∙ sofar
