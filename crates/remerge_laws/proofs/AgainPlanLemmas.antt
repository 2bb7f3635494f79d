-- The plan of an output that is merged by itself isn't refused.
use Rattle.std.proofs.Common.{◌≡◌, ◌<◌, ◌≤◌, ℕ, ◌+◌, ◌^◌, ◌==◌, nat_lt, Bool, true, false, not, ◌||◌, if◌then◌else◌, List, [], ◌∷◌, ◌++◌, length, map, flat_map, All, Option, None, Some, IfSome, refl, sym, ap, ap₂, subst, ◌∙◌, append-nil, arith}
use Rattle.std.specs.Prelude.{is_some}
use Rattle.std.specs.List.{AllZip}
use Rattle.std.specs.Option.{option_and_then, option_map, option_or}
use Rattle.std.proofs.lemmas.List.{length-map}
use Rattle.std.proofs.lemmas.List.Elements.{All-cons, All-filter, All-head, All-nil, All-tail}
use Rattle.mkv_io.specs.declared.damage.Damage.{Damage}
use Rattle.mkv_io.specs.declared.damage.Kind.TheVariants.{Encoding, TrackScale}
use Rattle.mkv_schema.specs.declared.ids.TheConstants.{CHAPTERS, CONTENT_ENCODINGS, TAGS, TRACKS, TRACK_ENTRY, TRACK_TIMESTAMP_SCALE}
use Rattle.mkv_schema.specs.declared.limits.TheConstants.{MAX_MASTER_LEN}
use Rattle.mkv_schema.specs.Element.{damage}
use Rattle.mkv_schema.specs.Outline.{first_damage, where_it}
use Rattle.tree_format.specs.declared.limits.TheConstants.{MAX_NODES}
use Rattle.tree_format.specs.Node.{Node, Nodes, leaf, master, none, node, nodes_of, list_of, id_of, body_of, offset_of, children, depth, depth_all, deepest, HasRoom, IsMaster}
use Rattle.tree_format.specs.NormalForm.{content, header_octets, is_filler, kept_octets, longest, octets, octets_all}
use Rattle.tree_format.specs.Reading.{is_master_in}
use Rattle.tree_format.specs.Standing.{AllStandIn, StandsIn, placed, placed_all}
use Rattle.tree_format.specs.Values.{first_child}
use Rattle.tree_format.proofs.NodeLemmas.{nodes-list}
use Rattle.tree_format.proofs.WrittenLemmas.{octets-kept}
use Rattle.ebml_tree.specs.Building.{IsRead}
use Rattle.file_format.specs.Encoding.{bad_encoding, bad_scale, can_be_undone, encodings_of, is_one, usable_causes}
use Rattle.file_format.specs.Entry.{entries_of}
use Rattle.output_model.specs.declared.TheConstants.{MAX_LANES}
use Rattle.output_model.specs.Sound.{IsRecord}
use Rattle.track_records.specs.declared.track.Track.{Track}
use Rattle.track_records.specs.declared.track_change.TrackChange.{TrackChange}
use Rattle.track_records.specs.Entry.{IsWholeEntry, written_entry}
use Rattle.track_records.specs.Usable.{causes_of}
use Rattle.track_records.specs.Sound.{IsEntry}
use Rattle.track_records.proofs.EntriesLemmas.{entries-room, entries-sound}
use Rattle.meta_records.proofs.CausesLemmas.{first_damage-behind}
use Rattle.record_changes.specs.ChapterIdentifiers.{with_identifiers}
use Rattle.record_changes.specs.Identifiers.{renumbered}
use Rattle.record_changes.specs.Tags.{written_tags}
use Rattle.record_changes.proofs.GivenLemmas.{numbers-settle}
use Rattle.record_laws.specs.Again.{plain, plain_changes, written_entries}
use Rattle.record_laws.specs.Tags.{keep_all}
use Rattle.record_laws.proofs.EntryLemmas.{part-others}
use Rattle.output_records.specs.declared.inputs.InputRecords.{InputRecords}
use Rattle.output_records.specs.Chapters.{chapter_numbers, edition_numbers, joined_chapters, later, merged_chapters}
use Rattle.output_records.specs.Inputs.{children_in}
use Rattle.output_records.specs.Limits.{too_large}
use Rattle.output_records.specs.RecordLimits.{is_too_large}
use Rattle.output_records.specs.Tracks.{output_tracks}
use Rattle.output_records.proofs.OutputLemmas.{entry-in}
use Rattle.output_records.proofs.RecordLemmas.{some-holds}
use Rattle.requests.specs.declared.merge.MergeWords.{MergeWords}
use Rattle.merge_inputs.specs.Input.{InputRead}
use Rattle.merge_inputs.specs.Taken.{IsTaken, first_unusable, taken_from}
use Rattle.merge_inputs.specs.declared.taken.TakenTrack.{TakenTrack}
use Rattle.merge_inputs.proofs.TakenLemmas.{taken-tracks}
use Rattle.merge_laws.proofs.SourceLemmas.{taken-all}
use Rattle.merge_plan.specs.Records.{change_of, chapters_of, entries_from, entry_of, tags_of, tracks_of_output, tracks_ordered, tracks_taken, uids_of}
use Rattle.merge_plan.specs.Records.{entries_of as entries_given}
use Rattle.merge_plan.specs.Refusal.{count_refusal, lanes_refusal, no_lane, not_webm, plan_refusal, records_refusal, too_many_lanes, where_so}
use Rattle.merge_plan.specs.declared.refusal.PlanRefusal.{PlanRefusal}
use Rattle.merge_plan.specs.declared.refusal.PlanRefusal.TheVariants.{HeaderTooLarge, NoLane, TooManyLanes}
use Rattle.merge_plan.proofs.RecordLemmas.{length-uids, ordered-count}
use Rattle.merge_laws.proofs.EntryLemmas.{CanBeSet, first-kept, written-whole}
use Rattle.merge_laws.proofs.TracksLemmas.{all-low, all-stand}
use Rattle.remerge_laws.specs.Again.{HasIdentifiersOf}
use Rattle.remerge_laws.specs.AgainTracks.{ArePlainTracks}
use Rattle.remerge_laws.specs.Alike.{AreAlike, MayBeAlike}
use Rattle.merge_plan.specs.Identifiers.{Have64Bits, identifiers_of}
use Rattle.remerge_laws.specs.Placed.{MayStandAs}
use Rattle.requests.specs.Plain.{plain_file}
use Rattle.remerge_laws.specs.Plain.{plain_merge}
use Rattle.remerge_laws.specs.Records.{AreTracksOf}
use Rattle.remerge_laws.specs.Tracks.{IsTrackOf}
use Rattle.remerge_laws.proofs.AgainTagLemmas.{again_numbers, given-one, one, own-chapters, own-editions, tags-made, written_again}
use Rattle.remerge_laws.proofs.AgainTrackLemmas.{IsBare, bare-placed, entries-plain}
use Rattle.remerge_laws.proofs.ContentLemmas.{same-body}
use Rattle.remerge_laws.proofs.NamedLemmas.{own-small}
use Rattle.remerge_laws.proofs.OwnTrackLemmas.{map-entries}
use Rattle.remerge_laws.proofs.PlacedLemmas.{body-placed, first-placed}
use Rattle.remerge_laws.proofs.RepeatTrackLemmas.{taken-master}
use Rattle.remerge_laws.proofs.StandLemmas.{chapters-stand, tags-stand}
use Rattle.remerge_laws.proofs.TreeLemmas.{alike-count, depth-placed}
use Rattle.remerge_laws.proofs.WholeLemmas.{first-none, second-none}

abbrev Small : ℕ → Type 0
Small n = n < 2 ^ 64

-- ---- a written record is a record again, except for its length

-- `n` is a master with the ID `own` and valid Elements, and isn't too deep.
pub record IsTree (own : ℕ) (n : Node) : Type 0 where
  read : IsRead own n
  low : depth n ≤ deepest

mutual
  stands-placed : (parent p : ℕ) (n : Node) → StandsIn parent n → StandsIn parent (placed p n)
  stands-placed parent p (leaf id at body) stands = stands
  stands-placed parent p (master id at kids) stands = (stands.0, all-placed id (p + length (header_octets id (length (octets_all kids)))) kids stands.1)

  all-placed : (parent p : ℕ) (ns : Nodes) → AllStandIn parent ns → AllStandIn parent (placed_all p ns)
  all-placed parent p none stand = tt
  all-placed parent p (node n ns) stand = split (is_filler (id_of n)) (stands-placed parent p n stand.0) (λ q. all-placed parent q ns stand.1)
    where
      split : (t : Bool) → StandsIn parent (placed p n) → ((q : ℕ) → AllStandIn parent (placed_all q ns))
          → AllStandIn parent (if t then placed_all p ns else node (placed p n) (placed_all (p + length (octets n)) ns))
      split true here rest = rest p
      split false here rest = (here, rest (p + length (octets n)))

tree-placed : (own p : ℕ) (n : Node) → IsRecord own n → IsTree own (placed p n)
tree-placed own p (leaf id at body) is = let never = is.master in absurd (cc)
tree-placed own p (master id at kids) is =
    let deep = is.limits.deep in
    let low = depth-placed p (master id at kids) in
    record {
      read = record { id = is.id; master = refl; sound = all-placed id (p + length (header_octets id (length (octets_all kids)))) kids is.sound };
      low = omega arith;
    }

tree-read : (own : ℕ) (o p : Option Node) → IfSome o (IsRecord own) → MayStandAs o p → IfSome p (IsTree own)
tree-read own None None is stands = tt
tree-read own None (Some m) is stands = absurd stands
tree-read own (Some n) None is stands = absurd stands
tree-read own (Some n) (Some m) is stands = subst (IsTree own) (sym stands.1) (tree-placed own stands.0 n is)

-- A new tree with its children is one, too.
tree-anew : (own : ℕ) (n : Node) → IsTree own n → IsTree own (master own 0 (nodes_of (children n ++ [])))
tree-anew own (leaf id at body) is = let never = is.read.master in absurd (cc)
tree-anew own (master id at kids) is =
    subst (λ (ns : Nodes). IsTree own (master own 0 ns)) (sym (ap nodes_of (append-nil (list_of kids)) ∙ nodes-list kids))
    (record { read = record { id = refl; master = refl; sound = subst (λ (i : ℕ). AllStandIn i kids) is.read.id is.read.sound }; low = is.low })

tree-empty : (own : ℕ) → IsTree own (master own 0 none)
tree-empty own = record { read = record { id = refl; master = refl; sound = tt }; low = omega arith }

-- ---- if two records are written alike, both are too large or none is

large-alike : (own : ℕ) (m n : Node) → IsRecord own m → IsTree own n → AreAlike m n → is_too_large n ≡ is_too_large m
large-alike own m n is tree alike =
    let written : kept_octets (id_of m) (content m) ≡ kept_octets (id_of m) (content n) =
    sym (octets-kept m) ∙ alike.same ∙ octets-kept n ∙ ap (λ (i : ℕ). kept_octets i (content n)) (sym alike.id) in
    let same : content m ≡ content n = same-body (id_of m) (content m) (content n) alike.some is.limits.long written in
    let long : length (content n) ≤ longest = subst (λ (body : List ℕ). length body ≤ longest) same is.limits.long in
    let again : IsRecord own n = record { id = tree.read.id; master = tree.read.master; sound = tree.read.sound; limits = record { long = long; deep = tree.low } } in
    ap₂ (λ (body : List ℕ) (many : ℕ). nat_lt MAX_MASTER_LEN (length body) || nat_lt MAX_NODES many) (sym same) (sym (alike-count own m n is again same))

may-large : (own : ℕ) (o p : Option Node) → IfSome o (IsRecord own) → IfSome p (IsTree own) → MayBeAlike o p → too_large own p ≡ too_large own o
may-large own None None is tree alike = refl
may-large own None (Some n) is tree alike = absurd alike
may-large own (Some m) None is tree alike = absurd alike
may-large own (Some m) (Some n) is tree alike = ap (λ (large : Bool). if large then Some own else None) (large-alike own m n is tree alike)

-- ---- entries that are written for tracks that were read

stand-each : (parent : ℕ) (ns : Nodes) → AllStandIn parent ns → All (StandsIn parent) (list_of ns)
stand-each parent none stand = All-nil (StandsIn parent)
stand-each parent (node n ns) stand = All-cons (StandsIn parent) n (list_of ns) stand.0 (stand-each parent ns stand.1)

entry-master : (e : Node) → id_of e ≡ TRACK_ENTRY → StandsIn TRACKS e → IsMaster e
entry-master (leaf id at body) own stands =
    let never : true ≡ false = sym entry-in ∙ ap (is_master_in TRACKS) (sym own) ∙ stands.no_master in absurd (cc)
entry-master (master id at kids) own stands = refl

-- The entries of a Tracks Element are valid.
entries-whole : (tracks : Node) → IsTree TRACKS tracks → All IsWholeEntry (entries_of tracks)
entries-whole (leaf id at body) is = let never = is.read.master in absurd (cc)
entries-whole (master id at kids) is = λ k d inside. of _ (each k d inside) (stand k d inside) (room k d inside)
  where
    each : All IsEntry (entries_of (master id at kids))
    each = entries-sound (master id at kids) is.read.sound

    stand : All (StandsIn TRACKS) (entries_of (master id at kids))
    stand = All-filter (λ n. id_of n == TRACK_ENTRY) (StandsIn TRACKS) (list_of kids) (stand-each TRACKS kids (subst (λ (i : ℕ). AllStandIn i kids) is.read.id is.read.sound))

    room : All HasRoom (entries_of (master id at kids))
    room =
        let low = is.low in
        let same : depth_all (nodes_of (list_of kids)) ≡ depth_all kids = ap depth_all (nodes-list kids) in
        entries-room (master id at kids) (list_of kids) refl (omega arith)

    of : (e : Node) → IsEntry e → StandsIn TRACKS e → HasRoom e → IsWholeEntry e
    of e entry stands fits = record { id = entry.id; master = entry-master e entry.id stands; sound = entry.sound; room = fits }

-- They stay valid with a number and an identifier.
pub all-whole : (number : ℕ) (uids : List ℕ) (es : List Node) → 0 < number → number + length uids ≤ 2 ^ 64 → All Small uids → All IsWholeEntry es
    → All IsWholeEntry (written_entries (plain_changes number uids) es)
all-whole number [] es some few small whole = All-nil IsWholeEntry
all-whole number (uid ∷ uids) [] some few small whole = All-nil IsWholeEntry
all-whole number (uid ∷ uids) (e ∷ es) some few small whole =
    let can : CanBeSet (plain number uid) = record { some = some; number = omega arith; uid = All-head Small uid uids small; name = tt; language = tt; language_tag = tt } in
    All-cons IsWholeEntry (written_entry (plain number uid) false e) (written_entries (plain_changes (number + 1) uids) es)
    (written-whole (plain number uid) false e can (All-head IsWholeEntry e es whole))
    (all-whole (number + 1) uids es (omega arith) (omega arith) (All-tail Small uid uids small) (All-tail IsWholeEntry e es whole))

tree-entries : (es : List Node) → All IsWholeEntry es → IsTree TRACKS (output_tracks es)
tree-entries es whole = let low = all-low es whole in record { read = record { id = refl; master = refl; sound = all-stand es whole }; low = omega arith }

-- The entries that are read from an output are valid.
pub read-whole : (tracks : Node) (read : List Track) → IsRecord TRACKS tracks → AreTracksOf tracks read → All IsWholeEntry (map (λ (t : Track). t.entry) read)
read-whole tracks read is are =
    let there : Node = placed are.place tracks in
    let entries_are : map (λ (t : Track). t.entry) read ≡ entries_of there = ap (map (λ (t : Track). t.entry)) are.stand ∙ map-entries (entries_of there) in
    subst (All IsWholeEntry) (sym entries_are) (entries-whole there (tree-placed TRACKS are.place tracks is))

-- The Tracks of an output, as they are merged again.
pub tracks-tree : (name : List ℕ) (tracks : Node) (read : List Track) → IsRecord TRACKS tracks → ArePlainTracks tracks → AreTracksOf tracks read
    → length (taken_from (plain_file name) 0 read) ≤ MAX_LANES → All Small (uids_of (taken_from (plain_file name) 0 read))
    → IsTree TRACKS (output_tracks (entries_given (taken_from (plain_file name) 0 read)))
tracks-tree name tracks read is plain_tracks are few small =
    let taken : List TakenTrack = taken_from (plain_file name) 0 read in
    let whole = read-whole tracks read is are in
    let long = length-uids taken in
    subst (λ (es : List Node). IsTree TRACKS (output_tracks es)) (sym (entries-plain name tracks read plain_tracks are))
    (tree-entries (written_entries (plain_changes 1 (uids_of taken)) (map (λ (t : Track). t.entry) read))
    (all-whole 1 (uids_of taken) (map (λ (t : Track). t.entry) read) (omega arith) (omega (arith, long, few)) small whole))

-- ---- number of output tracks

lanes-again : (webm : Bool) (taken sorted again again_sorted : List TakenTrack) → length again ≡ length taken → lanes_refusal webm taken sorted ≡ None → lanes_refusal false again again_sorted ≡ None
lanes-again webm taken sorted again again_sorted many good =
    let counted : count_refusal taken ≡ None = first-none (count_refusal taken) (not_webm webm sorted) good in
    let some : no_lane taken ≡ None = first-none (no_lane taken) (too_many_lanes taken) counted in
    let few : too_many_lanes taken ≡ None = second-none (no_lane taken) (too_many_lanes taken) counted in
    ap₂ (λ (a b : Option PlanRefusal). option_or (option_or a b) None)
    (ap (λ (n : ℕ). where_so (n == 0) NoLane) many ∙ some) (ap (λ (n : ℕ). where_so (nat_lt MAX_LANES n) TooManyLanes) many ∙ few)

-- The input `again` has records like the records of a merge of `reads` with its output tracks in the order `order`.
pub record AreAgain (order : List (ℕ × ℕ)) (reads : List InputRead) (again : InputRead) : Type 0 where
  pub tracks : IsRecord TRACKS (tracks_of_output order reads)
  pub chapters : IfSome (chapters_of reads) (IsRecord CHAPTERS)
  pub tags : IfSome (tags_of order reads) (IsRecord TAGS)
  pub tree : IsTree TRACKS (tracks_of_output [] (again ∷ []))
  pub chapters_stand : MayStandAs (chapters_of reads) again.chapters
  pub tags_stand : MayStandAs (tags_of order reads) again.tags
  pub tracks_alike : AreAlike (tracks_of_output order reads) (tracks_of_output [] (again ∷ []))
  pub chapters_alike : MayBeAlike (chapters_of reads) (chapters_of (again ∷ []))
  pub tags_alike : MayBeAlike (tags_of order reads) (tags_of [] (again ∷ []))

-- ---- an input with the identifiers of a merge

module _ (words : MergeWords) (reads : List InputRead) (again : InputRead) (short : Have64Bits (identifiers_of words.order reads)) (has : HasIdentifiersOf words.order reads again) where
  abbrev alone : InputRecords
  alone = one words.order reads again has

  -- It has equally many tracks, and they keep their identifiers.
  again-many : length again.taken ≡ length (tracks_taken reads)
  again-many = sym (length-map again.taken (λ (t : TakenTrack). t.track.uid)) ∙ ap length has.tracks ∙ length-uids (tracks_ordered words.order reads) ∙ ordered-count words.order reads

  pub again-small : All Small (uids_of again.taken)
  again-small =
      let ids : List ℕ = map (λ (t : TakenTrack). t.track.uid) (tracks_ordered words.order reads) in
      subst (All Small) (sym (ap renumbered has.tracks ∙ numbers-settle.stays (uids_of (tracks_ordered words.order reads)) (numbers-settle.settled ids))) short.tracks

  -- ---- its Chapters

  joined-tree : (c : Option Node) → IfSome c (IsTree CHAPTERS) → IsTree CHAPTERS (master CHAPTERS 0 (nodes_of (children_in (option_map (later None) c) ++ [])))
  joined-tree None is = tree-empty CHAPTERS
  joined-tree (Some n) is = tree-anew CHAPTERS n is

  chapters-tree : IfSome again.chapters (IsTree CHAPTERS) → IfSome (chapters_of (again ∷ [])) (IsTree CHAPTERS)
  chapters-tree is =
      let editions : List ℕ = edition_numbers (alone ∷ []) in
      let chapters : List ℕ = chapter_numbers (alone ∷ []) in
      let joined : Node = joined_chapters (alone ∷ []) in
      let tree : IsTree CHAPTERS joined = joined-tree again.chapters is in
      let low = tree.low in
      let still = chapters-stand editions chapters joined refl refl tree.read.sound
      (subst (All Small) (sym (own-editions words.order reads again has)) short.editions) (subst (All Small) (sym (own-chapters words.order reads again has)) short.chapters) in
      let shallow = still.shallow in
      subst (λ (rs : List InputRecords). IfSome (merged_chapters rs) (IsTree CHAPTERS)) (sym (given-one words.order reads again has))
      (some-holds (IsTree CHAPTERS) (with_identifiers editions chapters joined)
      (record { read = record { id = still.id; master = still.master; sound = still.sound }; low = omega arith }))

  -- ---- its Tags

  written-tree : (t : Option Node) → IfSome t (IsTree TAGS) → IsTree TAGS (master TAGS 0 (nodes_of (written_again words.order reads again has t)))
  written-tree None is = tree-empty TAGS
  written-tree (Some n) is =
      let numbers : ℕ → ℕ → Option ℕ = again_numbers words.order reads again has in
      let low = is.low in
      let still = tags-stand keep_all numbers n is.read.master is.read.id is.read.sound (own-small (identifiers_of words.order reads) alone short refl) in
      let shallow = still.shallow in
      tree-anew TAGS (written_tags keep_all numbers n) (record { read = record { id = still.id ∙ is.read.id; master = still.master; sound = still.sound }; low = omega arith })

  tags-tree : IfSome again.tags (IsTree TAGS) → IfSome (tags_of [] (again ∷ [])) (IsTree TAGS)
  tags-tree is =
      subst (λ (o : Option Node). IfSome o (IsTree TAGS)) (sym (tags-made words.order reads again has))
      (some-holds (IsTree TAGS) (master TAGS 0 (nodes_of (written_again words.order reads again has again.tags))) (written-tree again.tags is))

  -- ---- its plan

  taken-alone : tracks_taken (again ∷ []) ≡ again.taken
  taken-alone = ap (λ (o : Option ℕ). (if is_some o then [] else again.taken) ++ []) has.alone ∙ append-nil again.taken

  pub plan-again : (out name : List ℕ) → AreAgain words.order reads again → plan_refusal words reads ≡ None → plan_refusal (plain_merge out name) (again ∷ []) ≡ None
  plan-again out name are unrefused =
      let first : Option PlanRefusal = lanes_refusal words.webm (tracks_taken reads) (tracks_ordered words.order reads) in
      let lanes : lanes_refusal false (tracks_taken (again ∷ [])) (tracks_ordered [] (again ∷ [])) ≡ None =
      lanes-again words.webm (tracks_taken reads) (tracks_ordered words.order reads) (tracks_taken (again ∷ [])) (tracks_ordered [] (again ∷ [])) (ap length taken-alone ∙ again-many) (first-none first (records_refusal words.order reads) unrefused) in
      let chapters : too_large CHAPTERS (chapters_of (again ∷ [])) ≡ too_large CHAPTERS (chapters_of reads) =
      may-large CHAPTERS (chapters_of reads) (chapters_of (again ∷ [])) are.chapters
      (chapters-tree (tree-read CHAPTERS (chapters_of reads) again.chapters are.chapters are.chapters_stand)) are.chapters_alike in
      let tags : too_large TAGS (tags_of [] (again ∷ [])) ≡ too_large TAGS (tags_of words.order reads) =
      may-large TAGS (tags_of words.order reads) (tags_of [] (again ∷ [])) are.tags
      (tags-tree (tree-read TAGS (tags_of words.order reads) again.tags are.tags are.tags_stand)) are.tags_alike in
      let tracks : too_large TRACKS (Some (tracks_of_output [] (again ∷ []))) ≡ too_large TRACKS (Some (tracks_of_output words.order reads)) =
      may-large TRACKS (Some (tracks_of_output words.order reads)) (Some (tracks_of_output [] (again ∷ []))) are.tracks are.tree are.tracks_alike in
      let records : records_refusal [] (again ∷ []) ≡ None =
      ap (λ (o : Option ℕ). option_map HeaderTooLarge o) (ap₂ (λ (a b : Option ℕ). option_or a b) tracks (ap₂ (λ (a b : Option ℕ). option_or a b) chapters tags))
      ∙ second-none first (records_refusal words.order reads) unrefused in
      ap₂ (λ (a b : Option PlanRefusal). option_or a b) lanes records

-- ---- tracks that can be used

abbrev passes : Node → Bool
passes n = is_one (body_of n)

-- The first TrackTimestampScale of an entry, if any, is 1.
abbrev HasOneScale : Node → Type 0
HasOneScale e = IfSome (option_map passes (first_child TRACK_TIMESTAMP_SCALE e)) (λ (b : Bool). b ≡ true)

-- The frames of a track with this entry can be used.
abbrev CanBeUsed : Node → Type 0
CanBeUsed e = first_damage (usable_causes e) ≡ None

scale-found : (t : Track) → first_damage (causes_of t) ≡ None → HasOneScale t.entry
scale-found t used = of (first_child TRACK_TIMESTAMP_SCALE t.entry) (scale-cause t.stored (bad_encoding t.entry) (bad_scale t.entry) used)
  where
    scale-cause : (stored : Bool) (a b : Option Damage) → first_damage (if stored then b ∷ [] else (a ∷ b ∷ [])) ≡ None → b ≡ None
    scale-cause true a None nothing = refl
    scale-cause true a (Some d) nothing = absurd (cc)
    scale-cause false None None nothing = refl
    scale-cause false None (Some d) nothing = absurd (cc)
    scale-cause false (Some d) b nothing = absurd (cc)

    of : (o : Option Node) → option_and_then (λ n. where_it (not (passes n)) (damage TrackScale TRACK_TIMESTAMP_SCALE (offset_of n))) o ≡ None
        → IfSome (option_map passes o) (λ (b : Bool). b ≡ true)
    of None nothing = tt
    of (Some n) nothing = by (passes n) nothing
      where
        by : (b : Bool) → where_it (not b) (damage TrackScale TRACK_TIMESTAMP_SCALE (offset_of n)) ≡ None → b ≡ true
        by true nothing = refl
        by false nothing = absurd (cc)

scale-good : (e : Node) → HasOneScale e → bad_scale e ≡ None
scale-good e is = of (first_child TRACK_TIMESTAMP_SCALE e) is
  where
    of : (o : Option Node) → IfSome (option_map passes o) (λ (b : Bool). b ≡ true)
        → option_and_then (λ n. where_it (not (passes n)) (damage TrackScale TRACK_TIMESTAMP_SCALE (offset_of n))) o ≡ None
    of None is = refl
    of (Some n) is = ap (λ (b : Bool). where_it (not b) (damage TrackScale TRACK_TIMESTAMP_SCALE (offset_of n))) is

-- A written entry has the scale of the entry.
scale-written : (c : TrackChange) (stored : Bool) (e : Node) → IsMaster e → HasOneScale e → HasOneScale (written_entry c stored e)
scale-written c stored (leaf id at body) is scale = let never : true ≡ false = is in absurd (cc)
scale-written c stored (master id at kids) is scale =
    subst (λ (o : Option Node). IfSome (option_map passes o) (λ (b : Bool). b ≡ true))
    (sym (first-kept c stored TRACK_TIMESTAMP_SCALE id at kids (λ ns. part-others c stored ns TRACK_TIMESTAMP_SCALE refl refl refl refl))) scale

scales-from : (number : ℕ) (uids : List ℕ) (taken : List TakenTrack) → All IsTaken taken → All HasOneScale (entries_from number uids taken)
scales-from number [] taken are = All-nil HasOneScale
scales-from number (uid ∷ uids) [] are = All-nil HasOneScale
scales-from number (uid ∷ uids) (t ∷ taken) are =
    let first : IsTaken t = All-head IsTaken t taken are in
    All-cons HasOneScale (entry_of number uid t) (entries_from (number + 1) uids taken)
    (scale-written (change_of number uid t) t.track.stored t.track.entry (taken-master t first) (scale-found t.track first.usable))
    (scales-from (number + 1) uids taken (All-tail IsTaken t taken are))

-- An entry without ContentEncodings can be used after writing.
entry-used : (e : Node) (p : ℕ) → IsBare e → HasOneScale e → CanBeUsed (placed p e)
entry-used e p bare scale =
    let no_encoding : bad_encoding (placed p e) ≡ None =
    ap (λ (o : Option Node). option_and_then (λ n. where_it (not (can_be_undone (encodings_of n))) (damage Encoding CONTENT_ENCODINGS (offset_of n))) o) (bare-placed e p bare) in
    let there : HasOneScale (placed p e) =
    subst (λ (o : Option Bool). IfSome o (λ (b : Bool). b ≡ true)) (sym (first-placed passes (λ n q. ap is_one (body-placed n q)) TRACK_TIMESTAMP_SCALE refl e p)) scale in
    ap₂ (λ (a b : Option Damage). first_damage (a ∷ b ∷ [])) no_encoding (scale-good (placed p e) there)

tracks-used : (es : List Node) (ts : List Track) → AllZip IsTrackOf es ts → All IsBare es → All HasOneScale es → All (λ (t : Track). CanBeUsed t.entry) ts
tracks-used [] [] are bare scales = All-nil (λ (t : Track). CanBeUsed t.entry)
tracks-used [] (t ∷ ts) are bare scales = absurd are
tracks-used (e ∷ es) [] are bare scales = absurd are
tracks-used (e ∷ es) (t ∷ ts) are bare scales =
    All-cons (λ (k : Track). CanBeUsed k.entry) t ts
    (subst CanBeUsed (sym are.0.stands.1) (entry-used e are.0.stands.0 (All-head IsBare e es bare) (All-head HasOneScale e es scales)))
    (tracks-used es ts are.1 (All-tail IsBare e es bare) (All-tail HasOneScale e es scales))

none-unusable : (taken : List TakenTrack) → All (λ (t : TakenTrack). t.track.stored ≡ false) taken → All (λ (t : TakenTrack). CanBeUsed t.track.entry) taken → first_unusable taken ≡ None
none-unusable [] undone used = refl
none-unusable (t ∷ taken) undone used =
    let own : first_damage (causes_of t.track) ≡ None =
    ap (λ (stored : Bool). first_damage (if stored then bad_scale t.track.entry ∷ [] else usable_causes t.track.entry)) (All-head (λ (k : TakenTrack). k.track.stored ≡ false) t taken undone)
    ∙ All-head (λ (k : TakenTrack). CanBeUsed k.track.entry) t taken used in
    first_damage-behind (causes_of t.track) (flat_map (λ (k : TakenTrack). causes_of k.track) taken) own
    ∙ none-unusable taken (All-tail (λ (k : TakenTrack). k.track.stored ≡ false) t taken undone) (All-tail (λ (k : TakenTrack). CanBeUsed k.track.entry) t taken used)

-- The tracks that are read from entries of a merge can be used if these have no ContentEncodings.
pub usable-again : (name : List ℕ) (taken : List TakenTrack) (read : List Track) → All IsTaken taken → All IsBare (entries_given taken)
    → AllZip IsTrackOf (entries_given taken) read → first_unusable (taken_from (plain_file name) 0 read) ≡ None
usable-again name taken read are bare say =
    none-unusable (taken_from (plain_file name) 0 read) (taken-all (λ (t : TakenTrack). t.track.stored ≡ false) (plain_file name) 0 read (λ k t took. refl))
    (taken-tracks (λ (t : Track). CanBeUsed t.entry) (plain_file name) read (λ b t is. is) (tracks-used (entries_given taken) read say bare (scales-from 1 (uids_of taken) taken are)))
