-- A `--track-order` that names the output tracks as they are changes nothing.
use Rattle.std.proofs.Common.{◌≡◌, ℕ, ◌+◌, ◌==◌, nat_le, Bool, true, false, not, ◌&&◌, ◌||◌, if◌then◌else◌, List, [], ◌∷◌, ◌++◌, length, map, filter, flat_map, take, Option, Ok, refl, sym, ap, ap₂, subst, ◌∙◌, arith, append_assoc}
use Rattle.std.specs.List.{All, enumerate_from, list_any, range_with_len, zip}
use Rattle.std.specs.Option.{option_map, option_or}
use Rattle.std.proofs.lemmas.Bool.Decides.{nat_tests}
use Rattle.std.proofs.lemmas.List.Elements.{All-append, All-cons, All-head, All-nil, All-tail, All-take, All-weaker}
use Rattle.mkv_io.specs.Lists.{is_some_of}
use Rattle.output_model.specs.Cued.{document_of}
use Rattle.output_records.specs.Limits.{first_too_large}
use Rattle.output_records.specs.Tags.{merged_tags}
use Rattle.output_records.specs.Tracks.{output_tracks}
use Rattle.output_records.specs.declared.inputs.InputRecords.{InputRecords}
use Rattle.merge_model.specs.Lanes.{lane_blocks}
use Rattle.merge_model.specs.Links.{Given}
use Rattle.merge_model.specs.Merged.{merged}
use Rattle.splitter.specs.Sections.{Part, parts}
use Rattle.splitter.specs.Words.{size_of}
use Rattle.remux_plan.specs.Parts.{PlannedOutput, drives_by, name_of}
use Rattle.remuxer.specs.Output.{drafts_of}
use Rattle.requests.specs.declared.merge.FileWords.{FileWords}
use Rattle.requests.specs.declared.merge.MergeWords.{MergeWords}
use Rattle.merge_inputs.specs.Input.{InputRead}
use Rattle.merge_inputs.specs.declared.taken.TakenTrack.{TakenTrack}
use Rattle.merge_plan.specs.Appending.{append_refusal}
use Rattle.merge_plan.specs.Front.{front_of, reads_of}
use Rattle.merge_plan.specs.Plan.{Source, drivers_by, is_video, lanes_taken, limits_of, rule_of, split_given}
use Rattle.merge_plan.specs.Records.{chapters_of, entries_of, is_appended, kept_anywhere, key_of, keys_from, lanes_with, records_from, records_of, tracks_begun, tracks_ordered, tracks_taken, uids_of}
use Rattle.merge_plan.specs.Refusal.{lanes_refusal, plan_refusal}
use Rattle.merge_plan.specs.declared.refusal.PlanRefusal.{PlanRefusal}
use Rattle.merge_plan.specs.declared.refusal.PlanRefusal.TheVariants.{HeaderTooLarge}
use Rattle.mkv_io.specs.Results.{unless}
use Rattle.mkv_lines.specs.Line.{no_track_line}
use Rattle.mkv_lines.specs.Verdict.{Verdict, in_turn}
use Rattle.mkv_merge.specs.Chapters.{chapters_refusal}
use Rattle.mkv_merge.specs.Merge.{absent_in, absent_of, attached_refusal, chapters_in, damages_warned, first_met, front_for, has_other_count, is_absent_in, lacks_track, lines_absent, lines_absent_of, links_met, merge_verdict, merged_verdict, output_line, outputs_of, refusals, refusals_read, sources_in, sources_of, uuid_lines, verdict_of, warned_if}
use Rattle.mkv_merge.specs.Read.{attached_held, contents_held, inputs_of, is_split, reads_with, texts_held}
use Rattle.mkv_merge.specs.Refused.{first_cause}
use Rattle.mkv_merge.specs.Texts.{times_refusal}
use Rattle.mkv_merge.specs.declared.refusal.Refusal.TheVariants.{Differs, Plan}
use Rattle.std.specs.Result.{result_err}
use Rattle.merge_laws.specs.Order.{NamesTheFirst, OwnOrdersChangeNothing, unordered}
use Rattle.merge_laws.proofs.FrontLemmas.{AreApart, Keys}
use Rattle.merge_laws.proofs.OrderLemmas.{AreIds, HaveIds, IsFrom, all-reads, keys-apart, keys-from, lanes-same, numbers-same, ordered-same, sources-ids}
use Rattle.merge_laws.proofs.OrderTagLemmas.{AreChained, IsBelow, chained, none-begun, records-same, sources-chained}
use Rattle.merge_laws.proofs.SourceLemmas.{no-refusal, were-read}

-- ---- no track is absent

abbrev Has : InputRead → Type 0
Has i = HaveIds i.count i.taken

-- The pair names no absent track of the input number `j`, which has the options `f` and `count` tracks.
abbrev IsPresent : ℕ → FileWords → ℕ → ℕ × ℕ → Type 0
IsPresent j f count pair = is_absent_in j f count pair ≡ false

other-input : (a b c : Bool) → a ≡ false → (a && b && c) ≡ false
other-input a b c is = ap (λ (d : Bool). d && b && c) is

own-track : (a b c : Bool) → b ≡ false → (a && b && c) ≡ false
own-track true b c is = ap (λ (d : Bool). true && d && c) is
own-track false b c is = refl

below-present : (j : ℕ) (f : FileWords) (count : ℕ) (keys : Keys) → All (IsBelow j) keys → All (IsPresent j f count) keys
below-present j f count keys below =
    All-weaker (IsBelow j) (IsPresent j f count)
    (λ key less. other-input (key.0 == j) (nat_le count key.1) (not (list_any (λ (n : ℕ). n == key.1) f.named)) (grind (arith, nat_tests))) keys below

later-present : (j : ℕ) (f : FileWords) (count : ℕ) (keys : Keys) → All (IsFrom (j + 1)) keys → All (IsPresent j f count) keys
later-present j f count keys from =
    All-weaker (IsFrom (j + 1)) (IsPresent j f count)
    (λ key later. other-input (key.0 == j) (nat_le count key.1) (not (list_any (λ (n : ℕ). n == key.1) f.named)) (grind (arith, nat_tests))) keys from

own-present : (j : ℕ) (f : FileWords) (count from : ℕ) (ts : List TakenTrack) → AreIds count from ts → All (IsPresent j f count) (map (key_of j) ts)
own-present j f count from [] are = All-nil (IsPresent j f count)
own-present j f count from (t ∷ ts) are =
    All-cons (IsPresent j f count) (key_of j t) (map (key_of j) ts)
    (own-track (j == j) (nat_le count t.id) (not (list_any (λ (n : ℕ). n == t.id) f.named)) (grind (arith, nat_tests, are.1.0)))
    (own-present j f count (t.id + 1) ts are.1.1)

begun-present : (j : ℕ) (f : FileWords) (i : InputRead) → Has i → All (IsPresent j f i.count) (map (key_of j) (tracks_begun i))
begun-present j f i has = of (is_appended i)
  where
    of : (b : Bool) → All (IsPresent j f i.count) (map (key_of j) (if b then [] else i.taken))
    of true = All-nil (IsPresent j f i.count)
    of false = own-present j f i.count 0 i.taken has

filter-none : {A : Type 0} (p : A → Bool) (xs : List A) → All (λ (x : A). p x ≡ false) xs → filter p xs ≡ []
filter-none p [] none = refl
filter-none {A = A} p (x ∷ xs) none =
    ap (λ (b : Bool). if b then x ∷ filter p xs else filter p xs) (All-head (λ (y : A). p y ≡ false) x xs none) ∙ filter-none p xs (All-tail (λ (y : A). p y ≡ false) x xs none)

module _ (words : MergeWords) (keys : Keys) (first : take (length words.order) keys ≡ words.order) where
  -- No pair of the order names an absent track of an input.
  pairs-none : (done : Keys) (j : ℕ) (f : FileWords) (i : InputRead) (is : List InputRead) → keys ≡ done ++ keys_from j (i ∷ is) → All (IsBelow j) done → Has i → absent_in words.order j f i.count ≡ []
  pairs-none done j f i is are below has =
      let own : Keys = map (key_of j) (tracks_begun i) in
      let rest : Keys = keys_from (j + 1) is in
      let each : All (IsPresent j f i.count) (done ++ keys_from j (i ∷ is)) =
      All-append (IsPresent j f i.count) done (own ++ rest) (below-present j f i.count done below)
      (All-append (IsPresent j f i.count) own rest (begun-present j f i has) (later-present j f i.count rest (keys-from (j + 1) is))) in
      let all : All (IsPresent j f i.count) keys = subst (All (IsPresent j f i.count)) (sym are) each in
      filter-none (is_absent_in j f i.count) words.order (subst (All (IsPresent j f i.count)) first (All-take (IsPresent j f i.count) (length words.order) keys all))

  more-below : (done : Keys) (j : ℕ) (i : InputRead) → All (IsBelow j) done → All (IsBelow (j + 1)) (done ++ map (key_of j) (tracks_begun i))
  more-below done j i below =
      All-append (IsBelow (j + 1)) done (map (key_of j) (tracks_begun i)) (All-weaker (IsBelow j) (IsBelow (j + 1)) (λ key less. omega arith) done below) (own (tracks_begun i))
    where
      own : (ts : List TakenTrack) → All (IsBelow (j + 1)) (map (key_of j) ts)
      own [] = All-nil (IsBelow (j + 1))
      own (t ∷ ts) = All-cons (IsBelow (j + 1)) (key_of j t) (map (key_of j) ts) (omega arith) (own ts)

  -- So the option adds no warning of an absent track.
  lines-same : (done : Keys) (j : ℕ) (files : List FileWords) (reads : List InputRead) → keys ≡ done ++ keys_from j reads → All (IsBelow j) done → All Has reads
      → flat_map (lines_absent words) (enumerate_from j (zip files reads)) ≡ flat_map (lines_absent (unordered words)) (enumerate_from j (zip files reads))
  lines-same done j [] reads are below has = refl
  lines-same done j (f ∷ fs) [] are below has = refl
  lines-same done j (f ∷ fs) (i ∷ is) are below has =
      ap₂ (λ (pairs : List (ℕ × ℕ)) (rest : List (List ℕ)). (lines_absent_of f i.count ++ map (λ (pair : ℕ × ℕ). no_track_line f.name pair.1) pairs) ++ rest)
      (pairs-none done j f i is are below (All-head Has i is has))
      (lines-same (done ++ map (key_of j) (tracks_begun i)) (j + 1) fs is (are ∙ sym (append_assoc done (map (key_of j) (tracks_begun i)) (keys_from (j + 1) is))) (more-below done j i below) (All-tail Has i is has))

  lacks-same : (done : Keys) (j : ℕ) (files : List FileWords) (reads : List InputRead) → keys ≡ done ++ keys_from j reads → All (IsBelow j) done → All Has reads
      → list_any (lacks_track words) (enumerate_from j (zip files reads)) ≡ list_any (lacks_track (unordered words)) (enumerate_from j (zip files reads))
  lacks-same done j [] reads are below has = refl
  lacks-same done j (f ∷ fs) [] are below has = refl
  lacks-same done j (f ∷ fs) (i ∷ is) are below has =
      ap₂ (λ (pairs : List (ℕ × ℕ)) (rest : Bool). (is_some_of (absent_of f i.count) || is_some_of pairs) || rest)
      (pairs-none done j f i is are below (All-head Has i is has))
      (lacks-same (done ++ map (key_of j) (tracks_begun i)) (j + 1) fs is (are ∙ sym (append_assoc done (map (key_of j) (tracks_begun i)) (keys_from (j + 1) is))) (more-below done j i below) (All-tail Has i is has))

-- ---- the result

module _ (world : List ℕ → Option (List ℕ)) (words : MergeWords) (sources : List Source) (is : sources_of world words ≡ Ok sources) (first : NamesTheFirst words sources) where
  abbrev reads : List InputRead
  reads = reads_of sources

  abbrev keys : Keys
  keys = keys_from 0 reads

  have : All Has reads
  have = all-reads world words sources is first sources (sources-ids world words sources is)

  apart : AreApart keys
  apart = keys-apart 0 reads have

  taken : tracks_ordered words.order reads ≡ tracks_ordered [] reads
  taken = ordered-same world words sources is first

  chain : AreChained 0 reads
  chain =
      let were = were-read world words sources is in
      subst (λ (ss : List Source). AreChained 0 (reads_of ss)) were.placed
      (sources-chained 0 (contents_held world words) _ words.webm words.attached (attached_held world words) (chained [] 0 _ were.joined))

  records : records_of words.order reads ≡ records_of [] reads
  records =
      ap₂ (λ (order : Keys) (uids : List ℕ). records_from (lanes_with order keys uids) 0 0 (map kept_anywhere reads)) (sym first) (ap uids_of taken)
      ∙ records-same keys (length words.order) apart (uids_of (tracks_ordered [] reads)) [] 0 0 0 reads refl (All-nil (IsBelow 0)) (none-begun reads) chain

  -- the outputs, by their tracks, records and blocks
  abbrev outputs_by : List TakenTrack → List InputRecords → List (List Given) → List PlannedOutput
  outputs_by tracks kept lanes =
      map (λ (each : ℕ × Part). record {
        name = name_of (is_split words) words.output each.0;
        blocks = each.1.blocks;
        document = document_of (limits_of words) (map rule_of tracks) (front_for words each.0 (record (front_of words sources) { tracks = output_tracks (entries_of tracks) }))
            (chapters_in words sources each.1) (merged_tags kept) each.1.blocks;
      })
      (enumerate_from 1 (parts (record { spec = split_given words reads; size = size_of words.split; scale = words.scale; drives = drives_by (drivers_by (map is_video tracks)) })
      (merged (map (lane_blocks words.scale) lanes))))

  lanes : lanes_taken words sources ≡ lanes_taken (unordered words) sources
  lanes = lanes-same world words sources is first

  outputs : outputs_of words sources ≡ outputs_of (unordered words) sources
  outputs = λ i. outputs_by (taken i) (records i) (lanes i)

  -- the result, by its components
  abbrev verdict_by : Bool → List (List ℕ) → List (List ℕ) → List (List Given) → List PlannedOutput → Verdict
  verdict_by missing before numbers given made = record {
    status = warned_if (missing || list_any (λ (k : ℕ). is_some_of (first_met k (links_met numbers given))) (range_with_len 0 (length sources)) || has_other_count words (length made));
    lines = before ++ (map output_line made
        ++ flat_map (λ (each : ℕ × FileWords). damages_warned each.1.name (first_met each.0 (links_met numbers given))) (enumerate_from 0 words.files) ++ uuid_lines words (length made));
    before = before;
    outputs = in_turn (drafts_of made);
  }

  result : merged_verdict words sources ≡ merged_verdict (unordered words) sources
  result =
      let before = lines-same words keys first [] 0 words.files reads refl (All-nil (IsBelow 0)) have in
      let missing = lacks-same words keys first [] 0 words.files reads refl (All-nil (IsBelow 0)) have in
      let numbers = numbers-same world words sources is first in
      λ i. verdict_by (missing i) (before i) (numbers i) (lanes i) (outputs i)

  -- ---- the sources

  plan-same : plan_refusal words reads ≡ plan_refusal (unordered words) reads
  plan-same = λ i.
      option_or (lanes_refusal words.webm (tracks_taken reads) (taken i))
      (option_map HeaderTooLarge (first_too_large (output_tracks (entries_of (taken i))) (chapters_of reads) (merged_tags (records i))))

  -- all sources, also those of a refused merge
  abbrev all : List Source
  all = sources_in words (texts_held world words) (contents_held world words) (attached_held world words)

  sources-same : sources_of world words ≡ sources_of world (unordered words)
  sources-same =
      let found = no-refusal (first_cause (refusals world words ++ refusals_read words (texts_held world words) (contents_held world words) (attached_held world words))) all sources is in
      let plan : plan_refusal words (reads_of all) ≡ plan_refusal (unordered words) (reads_of all) =
      subst (λ (ss : List Source). plan_refusal words (reads_of ss) ≡ plan_refusal (unordered words) (reads_of ss)) (sym found.1) plan-same in
      ap (λ (why : Option PlanRefusal). unless (first_cause (refusals world words
      ++ (result_err (inputs_of words (contents_held world words)) ∷ chapters_refusal (texts_held world words).chapters ∷ times_refusal (texts_held world words).times
      ∷ attached_refusal (attached_held world words) ∷ option_map Differs (append_refusal (reads_with words (texts_held world words) (contents_held world words)))
      ∷ option_map Plan why ∷ []))) all) plan

  pub verdict-same : merge_verdict world words ≡ merge_verdict world (unordered words)
  verdict-same = ap (verdict_of words) is ∙ result ∙ sym (ap (verdict_of (unordered words)) (sym sources-same ∙ is))

pub own-orders : OwnOrdersChangeNothing
own-orders world words sources is first = verdict-same world words sources is first
