-- What a merge attaches is added to what it is without.
use Rattle.std.proofs.Common.{◌≡◌, ℕ, ◌+◌, Bool, true, false, if◌then◌else◌, List, [], ◌∷◌, ◌++◌, length, map, find, flat_map, Option, None, Ok, refl, sym, ap, ap₂, subst, ◌∙◌, arith, append-nil, unwrap_or}
use Rattle.std.specs.List.{All, AllByRecursion, zip}
use Rattle.std.specs.Option.{option_map, option_or}
use Rattle.std.proofs.lemmas.Grind.{flat_map-append}
use Rattle.std.proofs.lemmas.List.{length-append, length-map, map-append, take_all}
use Rattle.std.proofs.lemmas.List.Elements.{All-cons, All-nil}
use Rattle.std.proofs.lemmas.List.Folds.{find-append}
use Rattle.meta_records.specs.Attached.{AttachedFile}
use Rattle.tree_format.specs.Node.{Node}
use Rattle.record_changes.specs.Identifiers.{renumbered}
use Rattle.record_changes.proofs.GivenLemmas.{length-from}
use Rattle.output_records.specs.Chapters.{merged_chapters}
use Rattle.output_records.specs.Info.{output_info}
use Rattle.output_records.specs.Limits.{first_too_large}
use Rattle.output_records.specs.Tags.{merged_tags}
use Rattle.output_records.specs.Tracks.{output_tracks}
use Rattle.output_records.specs.declared.inputs.InputRecords.{InputRecords}
use Rattle.output_records.specs.Attachments.{file_uids as uids_in_files}
use Rattle.input_files.specs.Inputs.{attached_names, file_names}
use Rattle.input_files.specs.TimesFile.{times_named, times_names}
use Rattle.input_files.specs.declared.text_files.TextFiles.{TextFiles}
use Rattle.merge_model.specs.Links.{Given, going_on}
use Rattle.requests.specs.declared.merge.AttachedWords.{AttachedWords}
use Rattle.requests.specs.declared.merge.MergeWords.{MergeWords}
use Rattle.merge_inputs.specs.Input.{InputRead}
use Rattle.merge_inputs.specs.declared.taken.TakenTrack.{TakenTrack}
use Rattle.merge_plan.specs.Attached.{attached_source, attached_sources, whole_file}
use Rattle.merge_plan.specs.Front.{attached as attached_as, attached_from, attachments_of, file_uids, files_in, reads_of}
use Rattle.merge_plan.specs.Order.{in_order}
use Rattle.merge_plan.specs.Plan.{Source, given_of, lanes_taken}
use Rattle.merge_plan.specs.Records.{LaneUids, anywhere, chapters_of, entries_of, first_title, info_of, is_appended, kept_anywhere, key_of, keys_from, lane_uids, lanes_with, owner_at, records_from, records_in, records_of, tags_of, title_or, track_uids_at, tracks_begun, tracks_of_output, tracks_ordered, tracks_taken, uids_at, uids_of}
use Rattle.merge_plan.specs.Refusal.{lanes_refusal, plan_refusal}
use Rattle.merge_plan.specs.declared.refusal.PlanRefusal.TheVariants.{HeaderTooLarge}
use Rattle.merge_plan.proofs.AttachedLemmas.{IsBareFor, lanes-bare}
use Rattle.mkv_io.specs.Results.{unless}
use Rattle.mkv_merge.specs.Merge.{refusals, refusals_read, sources_in, sources_of, sources_placed}
use Rattle.mkv_merge.specs.Read.{attached_held, contents_held, first_written, is_output, is_part, read_names, texts_held}
use Rattle.mkv_merge.specs.Refused.{first_cause}
use Rattle.mkv_merge.specs.declared.refusal.Refusal.{Refusal}
use Rattle.mkv_merge.specs.declared.refusal.Refusal.TheVariants.{OutputIsInput, Plan}
use Rattle.std.specs.Option.{option_to_list}
use Rattle.merge_laws.specs.Attached.{AttachedFilesAreWhole, AttachesFiles, unattached, whole}
use Rattle.merge_laws.proofs.AddedLemmas.{HasFilesAlone, IsAbsent, chapters-same, numbers_after, numbers_after-many, renumbered-after, tags-same}
use Rattle.merge_laws.proofs.OrderTagLemmas.{either, unmapped}
use Rattle.merge_laws.proofs.SourceLemmas.{no-refusal, none-stands}

-- ---- sources without tracks after others

module _ (webm : Bool) where
  no-keys : (n : ℕ) (ws : List AttachedWords) (cs : List (List ℕ)) → keys_from n (reads_of (attached_sources webm ws cs)) ≡ []
  no-keys n [] cs = refl
  no-keys n (w ∷ ws) [] = refl
  no-keys n (w ∷ ws) (c ∷ cs) = no-keys (n + 1) ws cs

  no-tracks : (ws : List AttachedWords) (cs : List (List ℕ)) → tracks_taken (reads_of (attached_sources webm ws cs)) ≡ []
  no-tracks [] cs = refl
  no-tracks (w ∷ ws) [] = refl
  no-tracks (w ∷ ws) (c ∷ cs) = no-tracks ws cs

  no-title : (ws : List AttachedWords) (cs : List (List ℕ)) → first_title (reads_of (attached_sources webm ws cs)) ≡ []
  no-title [] cs = refl
  no-title (w ∷ ws) [] = refl
  no-title (w ∷ ws) (c ∷ cs) = no-title ws cs

  no-lanes : (ws : List AttachedWords) (cs : List (List ℕ)) → All (IsBareFor (λ (s : Source). is_appended s.1) given_of) (attached_sources webm ws cs)
  no-lanes [] cs = All-nil (IsBareFor (λ (s : Source). is_appended s.1) given_of)
  no-lanes (w ∷ ws) [] = All-nil (IsBareFor (λ (s : Source). is_appended s.1) given_of)
  no-lanes (w ∷ ws) (c ∷ cs) =
      All-cons (IsBareFor (λ (s : Source). is_appended s.1) given_of) (attached_source webm (w, c)) (attached_sources webm ws cs) (record { alone = refl; empty = refl }) (no-lanes ws cs)

  -- They have neither Chapters nor Tags.
  alone : (lanes : LaneUids) (before number : ℕ) (ws : List AttachedWords) (cs : List (List ℕ))
      → All HasFilesAlone (records_from lanes before number (map kept_anywhere (reads_of (attached_sources webm ws cs))))
  alone lanes before number [] cs = All-nil HasFilesAlone
  alone lanes before number (w ∷ ws) [] = All-nil HasFilesAlone
  alone lanes before number (w ∷ ws) (c ∷ cs) =
      All-cons HasFilesAlone _ (records_from lanes number (number + 1) (map kept_anywhere (reads_of (attached_sources webm ws cs))))
      (record { chapters = refl; tags = refl; uids = of webm }) (alone lanes number (number + 1) ws cs)
    where
      of : (b : Bool) → All IsAbsent (uids_in_files (map anywhere (whole_file w b (length c))))
      of true = All-nil IsAbsent
      of false = All-cons IsAbsent 0 [] refl (All-nil IsAbsent)

  -- Their attached files are whole.
  files-whole : (ws : List AttachedWords) (cs : List (List ℕ)) → flat_map files_in (attached_sources webm ws cs) ≡ (if webm then [] else map whole (zip ws cs))
  files-whole = of webm
    where
      of : (b : Bool) (ws : List AttachedWords) (cs : List (List ℕ)) → flat_map files_in (attached_sources b ws cs) ≡ (if b then [] else map whole (zip ws cs))
      of true [] cs = refl
      of false [] cs = refl
      of true (w ∷ ws) [] = refl
      of false (w ∷ ws) [] = refl
      of true (w ∷ ws) (c ∷ cs) = of true ws cs
      of false (w ∷ ws) (c ∷ cs) =
          ap₂ (λ (bytes : List ℕ) (rest : List (AttachedFile × List ℕ)). ((whole (w, c)).0, bytes) ∷ rest) (take_all (length c) c (omega arith)) (of false ws cs)

  absent-uids : (ws : List AttachedWords) (cs : List (List ℕ)) → All IsAbsent (map (λ (a : AttachedFile). a.uid) (flat_map (λ (i : InputRead). i.attachments) (reads_of (attached_sources webm ws cs))))
  absent-uids = of webm
    where
      of : (b : Bool) (ws : List AttachedWords) (cs : List (List ℕ)) → All IsAbsent (map (λ (a : AttachedFile). a.uid) (flat_map (λ (i : InputRead). i.attachments) (reads_of (attached_sources b ws cs))))
      of b [] cs = All-nil IsAbsent
      of b (w ∷ ws) [] = All-nil IsAbsent
      of true (w ∷ ws) (c ∷ cs) = of true ws cs
      of false (w ∷ ws) (c ∷ cs) =
          All-cons IsAbsent 0 (map (λ (a : AttachedFile). a.uid) (flat_map (λ (i : InputRead). i.attachments) (reads_of (attached_sources false ws cs)))) refl (of false ws cs)

-- There are as many attached files with their data as without.
files-many : (sources : List Source) → length (flat_map files_in sources) ≡ length (flat_map (λ (i : InputRead). i.attachments) (reads_of sources))
files-many [] = refl
files-many (s ∷ ss) =
    length-append (files_in s) (flat_map files_in ss)
    ∙ ap₂ (λ (a b : ℕ). a + b) (length-map s.1.attachments _) (files-many ss)
    ∙ sym (length-append s.1.attachments (flat_map (λ (i : InputRead). i.attachments) (reads_of ss)))

nodes-append : (us vs : List ℕ) (fs gs : List (AttachedFile × List ℕ)) → length us ≡ length fs → attached_from (us ++ vs) (fs ++ gs) ≡ attached_from us fs ++ attached_from vs gs
nodes-append [] vs [] gs many = refl
nodes-append [] vs (f ∷ fs) gs many = absurd (omega arith)
nodes-append (u ∷ us) vs [] gs many = absurd (omega arith)
nodes-append (u ∷ us) vs (f ∷ fs) gs many = ap (λ (l : List Node). attached_as u f ∷ l) (nodes-append us vs fs gs (omega arith))

-- ---- a merge with them

module _ (words : MergeWords) (own : List Source) (contents : List (List ℕ)) where
  abbrev bare : List Source
  bare = attached_sources words.webm words.attached contents

  abbrev all : List Source
  all = own ++ bare

  keys-added : (n : ℕ) (ss : List Source) → keys_from n (reads_of (ss ++ bare)) ≡ keys_from n (reads_of ss)
  keys-added n [] = no-keys words.webm n words.attached contents
  keys-added n (s ∷ ss) = ap (λ (rest : List (ℕ × ℕ)). map (key_of n) (tracks_begun s.1) ++ rest) (keys-added (n + 1) ss)

  taken-added : (ss : List Source) → tracks_taken (reads_of (ss ++ bare)) ≡ tracks_taken (reads_of ss)
  taken-added [] = no-tracks words.webm words.attached contents
  taken-added (s ∷ ss) = ap (λ (rest : List TakenTrack). tracks_begun s.1 ++ rest) (taken-added ss)

  title-added : (ss : List Source) → first_title (reads_of (ss ++ bare)) ≡ first_title (reads_of ss)
  title-added [] = no-title words.webm words.attached contents
  title-added (s ∷ ss) = ap (title_or s.1.title) (title-added ss)

  ordered-added : (order : List (ℕ × ℕ)) → tracks_ordered order (reads_of all) ≡ tracks_ordered order (reads_of own)
  ordered-added order = ap₂ (λ (keys : List (ℕ × ℕ)) (taken : List TakenTrack). in_order order keys taken) (keys-added 0 own) (taken-added own)

  pub lanes-added : lanes_taken words all ≡ lanes_taken words own
  lanes-added =
      ap₂ (λ (keys : List (ℕ × ℕ)) (lanes : List (List Given)). map (map (going_on words.append_damaged)) (in_order words.order keys lanes)) (keys-added 0 own)
      (lanes-bare (λ (s : Source). is_appended s.1) given_of own bare (no-lanes words.webm words.attached contents))

  pub tracks-added : tracks_of_output words.order (reads_of all) ≡ tracks_of_output words.order (reads_of own)
  tracks-added = ap (λ (taken : List TakenTrack). output_tracks (entries_of taken)) (ordered-added words.order)

  pub info-added : info_of words (reads_of all) ≡ info_of words (reads_of own)
  info-added = ap (λ (title : List ℕ). output_info words.scale (unwrap_or words.title title)) (title-added own)

  -- The records of the inputs are the first; below, with the output tracks that they have.
  records-split : (lanes : LaneUids) (before number : ℕ) (ss : List Source)
      → (es : List InputRecords) × ((records_from lanes before number (map kept_anywhere (reads_of (ss ++ bare))) ≡ records_from lanes before number (map kept_anywhere (reads_of ss)) ++ es) × All HasFilesAlone es)
  records-split lanes before number [] =
      (records_from lanes before number (map kept_anywhere (reads_of bare)), (refl, alone words.webm lanes before number words.attached contents))
  records-split lanes before number (s ∷ ss) =
      let owner : ℕ = owner_at before number s.1 in
      let rest = records-split lanes owner (number + 1) ss in
      (rest.0, (ap (λ (l : List InputRecords). records_in (track_uids_at lanes owner s.1) (uids_at lanes owner) (kept_anywhere s.1) ∷ l) rest.1.0, rest.1.1))

  records-added : (order : List (ℕ × ℕ)) → (es : List InputRecords) × ((records_of order (reads_of all) ≡ records_of order (reads_of own) ++ es) × All HasFilesAlone es)
  records-added order =
      let lanes : lane_uids order (reads_of all) ≡ lane_uids order (reads_of own) = ap₂ (lanes_with order) (keys-added 0 own) (ap uids_of (ordered-added order)) in
      let split = records-split (lane_uids order (reads_of own)) 0 0 own in
      (split.0, (ap (λ (l : LaneUids). records_from l 0 0 (map kept_anywhere (reads_of all))) lanes ∙ split.1.0, split.1.1))

  pub chapters-added : chapters_of (reads_of all) ≡ chapters_of (reads_of own)
  chapters-added = let added = records-added [] in ap merged_chapters added.1.0 ∙ chapters-same (records_of [] (reads_of own)) added.0 added.1.1

  pub tags-added : tags_of words.order (reads_of all) ≡ tags_of words.order (reads_of own)
  tags-added = let added = records-added words.order in ap merged_tags added.1.0 ∙ tags-same (records_of words.order (reads_of own)) added.0 added.1.1

  plan-added : plan_refusal words (reads_of all) ≡ plan_refusal words (reads_of own)
  plan-added = λ i.
      option_or (lanes_refusal words.webm (taken-added own i) (ordered-added words.order i))
      (option_map HeaderTooLarge (first_too_large (tracks-added i) (chapters-added i) (tags-added i)))

  -- ---- the attached files

  -- the identifiers of the inputs' files, and those of the files that are attached
  abbrev own_uids : List ℕ
  own_uids = map (λ (a : AttachedFile). a.uid) (flat_map (λ (i : InputRead). i.attachments) (reads_of own))

  abbrev bare_uids : List ℕ
  bare_uids = map (λ (a : AttachedFile). a.uid) (flat_map (λ (i : InputRead). i.attachments) (reads_of bare))

  uids-are : file_uids (reads_of all) ≡ renumbered own_uids ++ numbers_after own_uids bare_uids
  uids-are =
      ap (λ (reads : List InputRead). renumbered (map (λ (a : AttachedFile). a.uid) (flat_map (λ (i : InputRead). i.attachments) reads))) (map-append (λ (s : Source). s.1) own bare)
      ∙ ap (λ (files : List AttachedFile). renumbered (map (λ (a : AttachedFile). a.uid) files)) (flat_map-append (λ (i : InputRead). i.attachments) (reads_of own) (reads_of bare))
      ∙ ap renumbered (map-append (λ (a : AttachedFile). a.uid) (flat_map (λ (i : InputRead). i.attachments) (reads_of own)) (flat_map (λ (i : InputRead). i.attachments) (reads_of bare)))
      ∙ renumbered-after own_uids bare_uids (absent-uids words.webm words.attached contents)

  -- the files that the merge attaches, with their contents
  abbrev added : List (AttachedFile × List ℕ)
  added = if words.webm then [] else map whole (zip words.attached contents)

  pub uids-many : length (numbers_after own_uids bare_uids) ≡ length added
  uids-many =
      numbers_after-many own_uids bare_uids ∙ length-map (flat_map (λ (i : InputRead). i.attachments) (reads_of bare)) (λ (a : AttachedFile). a.uid)
      ∙ sym (files-many bare) ∙ ap length (files-whole words.webm words.attached contents)

  pub files-added : attachments_of all ≡ attachments_of own ++ attached_from (numbers_after own_uids bare_uids) added
  files-added =
      let many : length (renumbered own_uids) ≡ length (flat_map files_in own) =
      length-from own_uids [] own_uids ∙ length-map (flat_map (λ (i : InputRead). i.attachments) (reads_of own)) (λ (a : AttachedFile). a.uid) ∙ sym (files-many own) in
      ap₂ attached_from uids-are (flat_map-append files_in own bare ∙ ap (λ (l : List (AttachedFile × List ℕ)). flat_map files_in own ++ l) (files-whole words.webm words.attached contents))
      ∙ nodes-append (renumbered own_uids) (numbers_after own_uids bare_uids) (flat_map files_in own) added many

-- ---- the merge without them

-- A name that none of the files has, none of fewer files has.
find-fewer : (p : List ℕ → Bool) (a b c d e : List (List ℕ)) → find p (a ++ (b ++ (c ++ (d ++ e)))) ≡ None → find p (a ++ (b ++ (c ++ e))) ≡ None
find-fewer p a b c d e none =
    let first = either (find p a) (find p (b ++ (c ++ (d ++ e)))) (sym (find-append p a (b ++ (c ++ (d ++ e)))) ∙ none) in
    let second = either (find p b) (find p (c ++ (d ++ e))) (sym (find-append p b (c ++ (d ++ e))) ∙ first.1) in
    let third = either (find p c) (find p (d ++ e)) (sym (find-append p c (d ++ e)) ∙ second.1) in
    let last = either (find p d) (find p e) (sym (find-append p d e) ∙ third.1) in
    find-append p a (b ++ (c ++ e))
    ∙ ap₂ (λ (x y : Option (List ℕ)). option_or x y) first.0
    (find-append p b (c ++ e) ∙ ap₂ (λ (x y : Option (List ℕ)). option_or x y) second.0 (find-append p c e ∙ ap₂ (λ (x y : Option (List ℕ)). option_or x y) third.0 last.1))

unwritten : (words : MergeWords) → first_written words ≡ None → first_written (unattached words) ≡ None
unwritten words none =
    let both = either (find (is_output words) (read_names words)) (find (is_part words) (read_names words)) none in
    let files = file_names words.files in
    let texts = option_to_list words.chapters in
    let times = times_names (times_named words.files) in
    let names = attached_names words.attached in
    ap₂ (λ (x y : Option (List ℕ)). option_or x y) (find-fewer (is_output words) files texts times names _ both.0) (find-fewer (is_part words) files texts times names _ both.1)

none-first : (causes : List (Option Refusal)) → AllByRecursion (λ (cause : Option Refusal). cause ≡ None) causes → first_cause causes ≡ None
none-first [] none = refl
none-first (cause ∷ causes) none = ap (λ (c : Option Refusal). first_cause (c ∷ causes)) none.0 ∙ none-first causes none.1

-- ---- together

module _ (world : List ℕ → Option (List ℕ)) (words : MergeWords) where
  abbrev texts : TextFiles
  texts = texts_held world words

  abbrev held : List (List ℕ)
  held = contents_held world words

  abbrev attached : List (List ℕ)
  attached = attached_held world words

  abbrev placed : List Source
  placed = sources_placed words texts held

  sources-without : first_cause (refusals world words ++ refusals_read words texts held attached) ≡ None → sources_of world (unattached words) ≡ Ok placed
  sources-without passed =
      let each = none-stands (refusals world words ++ refusals_read words texts held attached) passed in
      let before = each.1.1.1.1 in
      let behind = before.1.1.1.1 in
      let out : option_map OutputIsInput (first_written (unattached words)) ≡ None = ap (option_map OutputIsInput) (unwritten words (unmapped OutputIsInput (first_written words) each.0)) in
      let planned : option_map Plan (plan_refusal (unattached words) (reads_of (placed ++ []))) ≡ None =
      ap (λ (ss : List Source). option_map Plan (plan_refusal words (reads_of ss))) (append-nil placed)
      ∙ ap (option_map Plan) (sym (plan-added words placed attached)) ∙ behind.1.1.0 in
      ap (λ (why : Option Refusal). unless why (placed ++ []))
      (none-first (refusals world (unattached words) ++ refusals_read (unattached words) texts held [])
      (out, (each.1.0, (each.1.1.0, (refl, (before.0, (before.1.0, (before.1.1.0, (before.1.1.1.0, (refl, (behind.1.0, (planned, tt))))))))))))
      ∙ ap (λ (ss : List Source). Ok ss) (append-nil placed)

pub files-are_whole : AttachedFilesAreWhole
files-are_whole world words sources is =
    let found = no-refusal (first_cause (refusals world words ++ refusals_read words (texts_held world words) (contents_held world words) (attached_held world words)))
    (sources_in words (texts_held world words) (contents_held world words) (attached_held world words)) sources is in
    let own : List Source = sources_placed words (texts_held world words) (contents_held world words) in
    let contents = attached_held world words in
    subst (AttachesFiles world words) found.1 (record {
      own = own;
      without = sources-without world words found.0;
      uids = numbers_after (own_uids words own contents) (bare_uids words own contents);
      many = uids-many words own contents;
      attachments = files-added words own contents;
      lanes = lanes-added words own contents;
      tracks = tracks-added words own contents;
      info = info-added words own contents;
      chapters = chapters-added words own contents;
      tags = tags-added words own contents;
    })
