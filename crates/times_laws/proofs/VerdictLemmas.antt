-- The result of a merge whose sources give the same blocks.
use Rattle.std.proofs.Common.{◌≡◌, ◌<◌, ℕ, zero, suc, ◌+◌, ◌==◌, nat_le, Bool, true, false, ◌||◌, ◌&&◌, if◌then◌else◌, List, [], ◌∷◌, ◌++◌, length, map, filter, flat_map, Result, Ok, Err, refl, ap, ◌∙◌, arith, unwrap_or, not, eqb-true, sym, Some, ap₂}
use Rattle.std.specs.List.{enumerate_from, list_any, range_with_len, slice_get, zip}
use Rattle.std.specs.Option.{option_map_or}
use Rattle.std.proofs.lemmas.Bool.Decides.{nat_tests}
use Rattle.mkv_io.specs.declared.damage.Damage.{Damage}
use Rattle.tree_format.specs.Node.{Node}
use Rattle.output_model.specs.Cued.{document_of}
use Rattle.output_model.specs.Document.{lasting_if}
use Rattle.output_records.specs.declared.inputs.InputRecords.{InputRecords}
use Rattle.output_records.specs.Chapters.{merged_chapters}
use Rattle.output_records.specs.Info.{output_info}
use Rattle.output_records.specs.Tags.{merged_tags}
use Rattle.output_records.specs.Tracks.{output_tracks}
use Rattle.merge_model.specs.Lanes.{lane_blocks}
use Rattle.merge_model.specs.Links.{Given, going_on}
use Rattle.merge_model.specs.Merged.{merged}
use Rattle.splitter.specs.Sections.{Part, parts}
use Rattle.splitter.specs.Words.{size_of, spec_of}
use Rattle.remux_plan.specs.Parts.{PlannedOutput, chapters_of, drives_by, name_of, stretch_of}
use Rattle.remuxer.specs.Output.{drafts_of}
use Rattle.requests.specs.declared.merge.FileWords.{FileWords}
use Rattle.requests.specs.declared.merge.MergeWords.{MergeWords}
use Rattle.input_files.specs.declared.times_file.TimesName.{TimesName}
use Rattle.merge_inputs.specs.Input.{InputRead}
use Rattle.merge_inputs.specs.declared.taken.TakenTrack.{TakenTrack}
use Rattle.merge_plan.specs.Front.{attachments_of, reads_of}
use Rattle.merge_plan.specs.Plan.{Source, drivers_by, inputs_taken, is_video, lanes_taken, limits_of, rule_of, starts_in}
use Rattle.merge_plan.specs.Records.{entries_of, first_title, records_of, tracks_ordered}
use Rattle.mkv_lines.specs.Line.{append_differs_line, missing_line, no_track_line, pending_edit_line}
use Rattle.mkv_lines.specs.Verdict.{Verdict, in_turn, refused}
use Rattle.mkv_io.specs.Lists.{is_some_of}
use Rattle.mkv_merge.specs.Merge.{absent_in, absent_of, damages_warned, first_met, front_for, has_absent, has_damage, has_other_count, is_absent_in, lacks_track, lines_absent, lines_before, links_met, merged_verdict, output_line, outputs_of, warned_if, uuid_lines, verdict_of, warnings}
use Rattle.mkv_merge.specs.Read.{is_split}
use Rattle.mkv_merge.specs.Refused.{input_line, line_of}
use Rattle.mkv_merge.specs.declared.refusal.Refusal.{Refusal}
use Rattle.mkv_merge.specs.declared.refusal.Refusal.TheVariants.{AttachedTooLarge, Chapters, Differs, Input, Missing, MissingAttached, MissingChapters, MissingTimes, OutputIsInput, PendingInput, PendingOutput, Plan, Times}
use Rattle.times_laws.specs.GivenBack.{others, set_input, with_input}
use Rattle.times_laws.proofs.BareLemmas.{AreAlike, attachments-same, lanes-same, length-same, numbers-bare, ordered-bare, reads-same, records-bare, same-of, titles-bare, untimed}
use Rattle.times_laws.proofs.AlikeLemmas.{At}
use Rattle.times_laws.proofs.BothLemmas.{Both}
use Rattle.times_laws.proofs.SourcesLemmas.{AreGiven, Has}

-- the damage of the input number `k`, by the inputs of links and their blocks
abbrev met_by : List (List ℕ) → List (List Given) → ℕ → List Damage
met_by numbers given k = first_met k (links_met numbers given)

-- ---- absent tracks

-- A track that isn't counted needn't be named.
filter-others : (p : ℕ → Bool) (id : ℕ) (ids : List ℕ) → p id ≡ false → filter p (others id ids) ≡ filter p ids
filter-others p id [] none = refl
filter-others p id (x ∷ xs) none = by_id (x == id) refl (filter-others p id xs none)
  where
    by_id : (b : Bool) → (x == id) ≡ b → filter p (others id xs) ≡ filter p xs → filter p (if not b then x ∷ others id xs else others id xs) ≡ (if p x then x ∷ filter p xs else filter p xs)
    by_id true is rest =
        let out : p x ≡ false = ap p (eqb-true x id is) ∙ none in
        rest ∙ sym (ap (λ (b : Bool). if b then x ∷ filter p xs else filter p xs) out)
    by_id false is rest = ap (λ (ids : List ℕ). if p x then x ∷ ids else ids) rest

-- A track that exists isn't reported.
absent-same : (id count : ℕ) (new old : FileWords) → others id new.named ≡ others id old.named → id < count → absent_of new count ≡ absent_of old count
absent-same id count new old same there =
    let out : nat_le count id ≡ false = grind (arith, nat_tests) in
    sym (filter-others (λ (n : ℕ). nat_le count n) id new.named out) ∙ ap (filter (λ (n : ℕ). nat_le count n)) same ∙ filter-others (λ (n : ℕ). nat_le count n) id old.named out

-- A track that exists isn't reported for an order of tracks either.
any-others : (m id : ℕ) (ids : List ℕ) → (id == m) ≡ false → list_any (λ (k : ℕ). k == m) (others id ids) ≡ list_any (λ (k : ℕ). k == m) ids
any-others m id [] other = refl
any-others m id (x ∷ xs) other = by_id (x == id) refl (any-others m id xs other)
  where
    by_id : (b : Bool) → (x == id) ≡ b → list_any (λ (k : ℕ). k == m) (others id xs) ≡ list_any (λ (k : ℕ). k == m) xs
        → list_any (λ (k : ℕ). k == m) (if not b then x ∷ others id xs else others id xs) ≡ ((x == m) || list_any (λ (k : ℕ). k == m) xs)
    by_id true is rest =
        let out : (x == m) ≡ false = ap (λ (k : ℕ). k == m) (eqb-true x id is) ∙ other in
        rest ∙ sym (ap (λ (b : Bool). b || list_any (λ (k : ℕ). k == m) xs) out)
    by_id false is rest = ap (λ (b : Bool). (x == m) || b) rest

neither : (a b c : Bool) → (a && false && b) ≡ (a && false && c)
neither true b c = refl
neither false b c = refl

module _ (order : List (ℕ × ℕ)) (id count : ℕ) (new old : FileWords) (same : others id new.named ≡ others id old.named) (there : id < count) where
  pair-same : (input : ℕ) (pair : ℕ × ℕ) → is_absent_in input new count pair ≡ is_absent_in input old count pair
  pair-same input pair = by_count (nat_le count pair.1) refl
    where
      by_count : (b : Bool) → nat_le count pair.1 ≡ b
          → (pair.0 == input && b && not (list_any (λ (k : ℕ). k == pair.1) new.named)) ≡ (pair.0 == input && b && not (list_any (λ (k : ℕ). k == pair.1) old.named))
      by_count true is =
          let other : (id == pair.1) ≡ false = grind (arith, nat_tests) in
          ap (λ (b : Bool). pair.0 == input && true && not b)
          (sym (any-others pair.1 id new.named other) ∙ ap (list_any (λ (k : ℕ). k == pair.1)) same ∙ any-others pair.1 id old.named other)
      by_count false is = neither (pair.0 == input) (not (list_any (λ (k : ℕ). k == pair.1) new.named)) (not (list_any (λ (k : ℕ). k == pair.1) old.named))

  pairs-same : (input : ℕ) → absent_in order input new count ≡ absent_in order input old count
  pairs-same input = λ i. filter (λ (pair : ℕ × ℕ). pair-same input pair i) order

module _ (words : MergeWords) (id : ℕ) (new own : FileWords) (named : others id new.named ≡ others id own.named) (name_is : new.name ≡ own.name) where
  own-is : (f : FileWords) → Some f ≡ Some own → own ≡ f
  own-is f found = cc

  -- The absent tracks of the input with the option.
  absent-own : (f : FileWords) (i : InputRead) → Some f ≡ Some own → id < i.count → absent_of new i.count ≡ absent_of f i.count
  absent-own f i found there = absent-same id i.count new own named there ∙ ap (λ (file : FileWords). absent_of file i.count) (own-is f found)

  pairs-own : (j : ℕ) (f : FileWords) (i : InputRead) → Some f ≡ Some own → id < i.count → absent_in words.order j new i.count ≡ absent_in words.order j f i.count
  pairs-own j f i found there = pairs-same words.order id i.count new own named there j ∙ ap (λ (file : FileWords). absent_in words.order j file i.count) (own-is f found)

  name-own : (f : FileWords) → Some f ≡ Some own → new.name ≡ f.name
  name-own f found = name_is ∙ ap (λ (file : FileWords). file.name) (own-is f found)

  lines-own : (j : ℕ) (f : FileWords) (i : InputRead) → Some f ≡ Some own → id < i.count → lines_absent words (j, (new, i)) ≡ lines_absent words (j, (f, i))
  lines-own j f i found there =
      let name = name-own f found in let ids = absent-own f i found there in let pairs = pairs-own j f i found there in
      λ k. map (no_track_line (name k)) (ids k) ++ map (λ (pair : ℕ × ℕ). no_track_line (name k) pair.1) (pairs k)

  lacks-own : (j : ℕ) (f : FileWords) (i : InputRead) → Some f ≡ Some own → id < i.count → lacks_track words (j, (new, i)) ≡ lacks_track words (j, (f, i))
  lacks-own j f i found there = ap₂ (λ (ids : List ℕ) (pairs : List (ℕ × ℕ)). is_some_of ids || is_some_of pairs) (absent-own f i found there) (pairs-own j f i found there)

  lines-there : (j k : ℕ) (files : List FileWords) (sources : List Source) → slice_get files k ≡ Some own → At k (Has id) sources
      → flat_map (lines_absent words) (enumerate_from j (zip (set_input k new files) (reads_of sources))) ≡ flat_map (lines_absent words) (enumerate_from j (zip files (reads_of sources)))
  lines-there j k [] sources found has = refl
  lines-there j zero (f ∷ fs) [] found has = refl
  lines-there j (suc k) (f ∷ fs) [] found has = refl
  lines-there j zero (f ∷ fs) (s ∷ ss) found has = ap (λ (first : List (List ℕ)). first ++ flat_map (lines_absent words) (enumerate_from (j + 1) (zip fs (reads_of ss)))) (lines-own j f s.1 found has)
  lines-there j (suc k) (f ∷ fs) (s ∷ ss) found has = ap (λ (rest : List (List ℕ)). lines_absent words (j, (f, s.1)) ++ rest) (lines-there (j + 1) k fs ss found has)

  any-there : (j k : ℕ) (files : List FileWords) (sources : List Source) → slice_get files k ≡ Some own → At k (Has id) sources
      → list_any (lacks_track words) (enumerate_from j (zip (set_input k new files) (reads_of sources))) ≡ list_any (lacks_track words) (enumerate_from j (zip files (reads_of sources)))
  any-there j k [] sources found has = refl
  any-there j zero (f ∷ fs) [] found has = refl
  any-there j (suc k) (f ∷ fs) [] found has = refl
  any-there j zero (f ∷ fs) (s ∷ ss) found has = ap (λ (first : Bool). first || list_any (lacks_track words) (enumerate_from (j + 1) (zip fs (reads_of ss)))) (lacks-own j f s.1 found has)
  any-there j (suc k) (f ∷ fs) (s ∷ ss) found has = ap (λ (rest : Bool). lacks_track words (j, (f, s.1)) || rest) (any-there (j + 1) k fs ss found has)

  -- ---- names of inputs

  warned-same : (numbers : List (List ℕ)) (given : List (List Given)) (j k : ℕ) (files : List FileWords) → slice_get files k ≡ Some own
      → flat_map (λ (each : ℕ × FileWords). damages_warned each.1.name (met_by numbers given each.0)) (enumerate_from j (set_input k new files))
      ≡ flat_map (λ (each : ℕ × FileWords). damages_warned each.1.name (met_by numbers given each.0)) (enumerate_from j files)
  warned-same numbers given j k [] found = refl
  warned-same numbers given j zero (f ∷ fs) found =
      ap (λ (name : List ℕ). damages_warned name (met_by numbers given j) ++ flat_map (λ (each : ℕ × FileWords). damages_warned each.1.name (met_by numbers given each.0)) (enumerate_from (j + 1) fs)) (name-own f found)
  warned-same numbers given j (suc k) (f ∷ fs) found = ap (λ (rest : List (List ℕ)). damages_warned f.name (met_by numbers given j) ++ rest) (warned-same numbers given (j + 1) k fs found)

  name-same : (k j : ℕ) (files : List FileWords) → slice_get files k ≡ Some own → option_map_or (λ (f : FileWords). f.name) (slice_get (set_input k new files) j) [] ≡ option_map_or (λ (f : FileWords). f.name) (slice_get files j) []
  name-same k j [] found = refl
  name-same zero zero (f ∷ fs) found = name-own f found
  name-same zero (suc j) (f ∷ fs) found = refl
  name-same (suc k) zero (f ∷ fs) found = refl
  name-same (suc k) (suc j) (f ∷ fs) found = name-same k j fs found

lines-bare : (words : MergeWords) (j : ℕ) (files : List FileWords) (reads : List InputRead)
    → flat_map (lines_absent words) (enumerate_from j (zip files (map untimed reads))) ≡ flat_map (lines_absent words) (enumerate_from j (zip files reads))
lines-bare words j [] reads = refl
lines-bare words j (f ∷ fs) [] = refl
lines-bare words j (f ∷ fs) (i ∷ is) = ap (λ (rest : List (List ℕ)). lines_absent words (j, (f, i)) ++ rest) (lines-bare words (j + 1) fs is)

any-bare : (words : MergeWords) (j : ℕ) (files : List FileWords) (reads : List InputRead)
    → list_any (lacks_track words) (enumerate_from j (zip files (map untimed reads))) ≡ list_any (lacks_track words) (enumerate_from j (zip files reads))
any-bare words j [] reads = refl
any-bare words j (f ∷ fs) [] = refl
any-bare words j (f ∷ fs) (i ∷ is) = ap (λ (rest : Bool). lacks_track words (j, (f, i)) || rest) (any-bare words (j + 1) fs is)

-- ---- result

module _ (words : MergeWords) (n : TimesName) (timed own : FileWords) (named : others n.id timed.named ≡ others n.id own.named) (name_is : timed.name ≡ own.name) (found : slice_get words.files n.input ≡ Some own) where
  abbrev more : MergeWords
  more = with_input n.input timed words

  -- the outputs, by their components
  abbrev outputs_by : List TakenTrack → List InputRecords → List InputRecords → List ℕ → List Node → List (List Given) → List PlannedOutput
  outputs_by taken records free title attachments given =
      map (λ (each : ℕ × Part). record {
        name = name_of (is_split words) words.output each.0;
        blocks = each.1.blocks;
        document = document_of (limits_of words) (map rule_of taken)
            (front_for words each.0 (record { webm = words.webm; lasting = lasting_if words.duration; info = output_info words.scale (unwrap_or words.title title); tracks = output_tracks (entries_of taken); attachments = attachments }))
            (chapters_of (is_split words) (merged_chapters free) (stretch_of words.scale each.1.start each.1.end)) (merged_tags records) each.1.blocks;
      })
      (enumerate_from 1 (parts (record { spec = spec_of words.split (starts_in (merged_chapters free)); size = size_of words.split; scale = words.scale; drives = drives_by (drivers_by (map is_video taken)) }) (merged (map (lane_blocks words.scale) given))))

  -- a result, by its components
  abbrev verdict_by : Bool → Bool → List (List ℕ) → List (List ℕ) → List PlannedOutput → Verdict
  verdict_by missing damaged before warned outputs = record {
    status = warned_if (missing || damaged || has_other_count words (length outputs));
    lines = before ++ (map output_line outputs ++ warned ++ uuid_lines words (length outputs));
    before = before;
    outputs = in_turn (drafts_of outputs);
  }

  module _ (new old : List Source) (alike : AreAlike new old) (has : At n.input (Has n.id) old) where
    reads : map untimed (reads_of new) ≡ map untimed (reads_of old)
    reads = reads-same new old alike

    numbers : inputs_taken words.order (reads_of new) ≡ inputs_taken words.order (reads_of old)
    numbers = same-of (inputs_taken words.order) (numbers-bare words.order) (reads_of new) (reads_of old) reads

    lanes : lanes_taken more new ≡ lanes_taken words old
    lanes = ap (map (map (going_on words.append_damaged))) (lanes-same words.order new old alike)

    outputs : outputs_of more new ≡ outputs_of words old
    outputs =
        let taken : tracks_ordered words.order (reads_of new) ≡ tracks_ordered words.order (reads_of old) = same-of (tracks_ordered words.order) (ordered-bare words.order) (reads_of new) (reads_of old) reads in
        let records : records_of words.order (reads_of new) ≡ records_of words.order (reads_of old) = same-of (records_of words.order) (records-bare words.order) (reads_of new) (reads_of old) reads in
        let free : records_of [] (reads_of new) ≡ records_of [] (reads_of old) = same-of (records_of []) (records-bare []) (reads_of new) (reads_of old) reads in
        let titles : first_title (reads_of new) ≡ first_title (reads_of old) = same-of first_title titles-bare (reads_of new) (reads_of old) reads in
        let attachments : attachments_of new ≡ attachments_of old = attachments-same new old alike in
        λ i. outputs_by (taken i) (records i) (free i) (titles i) (attachments i) (lanes i)

    missing : has_absent more (reads_of new) ≡ has_absent words (reads_of old)
    missing =
        same-of (λ (each : List InputRead). list_any (lacks_track words) (enumerate_from 0 (zip more.files each))) (any-bare words 0 more.files) (reads_of new) (reads_of old) reads
        ∙ any-there words n.id timed own named name_is 0 n.input words.files old found has

    before : lines_before more (reads_of new) ≡ lines_before words (reads_of old)
    before =
        same-of (λ (each : List InputRead). flat_map (lines_absent words) (enumerate_from 0 (zip more.files each))) (lines-bare words 0 more.files) (reads_of new) (reads_of old) reads
        ∙ lines-there words n.id timed own named name_is 0 n.input words.files old found has

    damaged : has_damage more new ≡ has_damage words old
    damaged =
        let count = length-same new old alike in
        λ i. list_any (λ (k : ℕ). is_some_of (met_by (numbers i) (lanes i) k)) (range_with_len 0 (count i))

    warned : flat_map (warnings more new) (enumerate_from 0 more.files) ≡ flat_map (warnings words old) (enumerate_from 0 words.files)
    warned =
        (λ i. flat_map (λ (each : ℕ × FileWords). damages_warned each.1.name (met_by (numbers i) (lanes i) each.0)) (enumerate_from 0 more.files))
        ∙ warned-same words n.id timed own named name_is (inputs_taken words.order (reads_of old)) (lanes_taken words old) 0 n.input words.files found

    pub merged-same : merged_verdict more new ≡ merged_verdict words old
    merged-same = λ i. verdict_by (missing i) (damaged i) (before i) (warned i) (outputs i)

  -- The line of a refusal.
  pub line-same : (why : Refusal) → line_of more why ≡ line_of words why
  line-same (OutputIsInput name) = refl
  line-same (Missing input) = ap missing_line (name-same words n.id timed own named name_is n.input input words.files found)
  line-same MissingChapters = refl
  line-same (MissingTimes name) = refl
  line-same (MissingAttached attached) = refl
  line-same (PendingInput input) = ap pending_edit_line (name-same words n.id timed own named name_is n.input input words.files found)
  line-same PendingOutput = refl
  line-same (Input input why) = ap (λ (name : List ℕ). input_line name why) (name-same words n.id timed own named name_is n.input input words.files found)
  line-same (Chapters why) = refl
  line-same (Times name why) = refl
  line-same (AttachedTooLarge attached) = refl
  line-same (Differs d) = ap (λ (name : List ℕ). append_differs_line name d.id) (name-same words n.id timed own named name_is n.input d.input words.files found)
  line-same (Plan why) = refl

  pub verdict-same : (new old : Result (List Source) Refusal) → Both (AreGiven n) new old → verdict_of more new ≡ verdict_of words old
  verdict-same (Ok a) (Ok b) both = merged-same a b both.alike both.has
  verdict-same (Ok a) (Err why) both = absurd both
  verdict-same (Err why) (Ok b) both = absurd both
  verdict-same (Err why) (Err because) both = ap refused (line-same why ∙ ap (line_of words) both)
