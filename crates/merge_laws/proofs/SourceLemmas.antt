-- The inputs of a merge, as they are read, can be written.
use Rattle.std.proofs.Common.{◌≡◌, ◌<◌, ◌≤◌, ℕ, suc, ◌+◌, ◌^◌, ◌==◌, Bool, true, false, not, ◌&&◌, ◌||◌, if◌then◌else◌, cond, List, [], ◌∷◌, ◌++◌, length, find, map, Option, Some, None, IfSome, Result, Ok, Err, inl, inr, ◌⊎◌, eqb-true, refl, sym, ap, subst, ◌∙◌, arith, unwrap_or}
use Rattle.std.specs.List.{All, AllByRecursion, list_all, zip}
use Rattle.std.specs.Option.{option_map, option_map_or}
use Rattle.std.specs.Result.{result_err}
use Rattle.std.specs.Str.{IsUtf8, is_utf8}
use Rattle.std.proofs.lemmas.List.{length-map}
use Rattle.std.proofs.lemmas.List.Elements.{All-nil, All-cons, All-head, All-tail, All-append, All-map}
use Rattle.std.proofs.lemmas.List.Sums.{take_while-cons}
use Rattle.std.proofs.lemmas.Slice.Zip.{length-zip}
use Rattle.std.proofs.lemmas.Str.{IsUtf8-nil, IsUtf8-from_is_utf8}
use Rattle.ebml_numbers.specs.Number.{AreOctets}
use Rattle.ebml_numbers.proofs.SpelledLemmas.{AreOctets-take, AreOctets-drop}
use Rattle.mkv_schema.specs.Schema.{may_stand, kind_of}
use Rattle.mkv_schema.specs.declared.ids.TheConstants.{CHAPTERS, INFO, TAGS, TITLE, TRACKS, TRACK_ENTRY, TRACK_UID}
use Rattle.mkv_schema.specs.declared.kind.ElementKind.TheVariants.{Ascii, Utf8}
use Rattle.mkv_io.specs.declared.damage.Damage.{Damage}
use Rattle.mkv_io.specs.Faults.{counted}
use Rattle.mkv_schema.specs.declared.element.Header.{Header}
use Rattle.mkv_schema.specs.Element.{stated_end}
use Rattle.mkv_schema.specs.Outline.{outline_of, segment_run}
use Rattle.mkv_io.specs.Results.{and_then, unless}
use Rattle.mkv_schema.specs.Value.{body_of, first_of, text_of}
use Rattle.mkv_schema.proofs.OutlineLemmas.{and_then-ok, unless-ok}
use Rattle.tree_format.specs.declared.limits.TheConstants.{MAX_NODES}
use Rattle.tree_format.specs.Node.{Node, id_of, HasRoom}
use Rattle.tree_format.specs.Node as tree
use Rattle.tree_format.specs.Reading.{tree_of}
use Rattle.tree_format.specs.Standing.{IsSoundOf}
use Rattle.tree_format.specs.Text.{HasNoZero}
use Rattle.tree_format.specs.Values.{first_child}
use Rattle.tree_format.proofs.ChildLemmas.{first_child-value, HasUint-of}
use Rattle.tree_format.proofs.FoundLemmas.{tree_of-sound, tree_of-root}
use Rattle.file_format.specs.Entry.{entries_of, uid_of}
use Rattle.file_format.specs.Refusal as tracks
use Rattle.file_format.proofs.TracksLemmas.{refusal-none}
use Rattle.track_records.specs.Sound.{IsEntry}
use Rattle.track_records.specs.Track.{track_of, tracks_of}
use Rattle.track_records.specs.declared.track.Track.{Track}
use Rattle.track_records.proofs.StandLemmas as row
use Rattle.file_format.specs.Info.{info_refusal}
use Rattle.meta_records.specs.Attached.{first_attached}
use Rattle.meta_records.specs.Records.{AreRead, FileRecords, file_records, first_tree, good_info, good_tracks, tree_at}
use Rattle.meta_records.proofs.RecordsLemmas.{AreRead-made}
use Rattle.track_records.specs.Entry.{IsWholeEntry}
use Rattle.record_laws.proofs.WholeLemmas.{read-entries-whole}
use Rattle.output_records.proofs.OutputLemmas.{title-in}
use Rattle.mkv_io.specs.declared.entry.Entry.{Entry}
use Rattle.ext_times.specs.Listing.{Listing}
use Rattle.input_files.specs.declared.text_files.TextFiles.{TextFiles}
use Rattle.input_files.specs.declared.times_file.TimesFile.{TimesFile}
use Rattle.input_files.specs.TextFile.{srt_text}
use Rattle.input_files.specs.declared.chapter_file.ChapterFile.{ChapterFile}
use Rattle.input_files.specs.declared.chapter_file.ChapterFile.TheVariants as file
use Rattle.input_files.specs.declared.refusal.TextRefusal.{TextRefusal}
use Rattle.input_files.specs.Names.{is_srt}
use Rattle.input_files.specs.Track.{text_entry}
use Rattle.merge_model.specs.declared.limits.TheConstants.{MAX_SHIFT}
use Rattle.requests.specs.declared.merge.FileWords.{FileWords}
use Rattle.requests.specs.declared.merge.MergeWords.{MergeWords}
use Rattle.requests.specs.Sound.{IsSoundFile, IsSoundMerge}
use Rattle.input_files.specs.Inputs.{attached_names, file_names}
use Rattle.text_formats.specs.Reading.{IsEntryWithin}
use Rattle.input_files.specs.declared.limits.TheConstants.{MAX_SRT_LEN}
use Rattle.requests.specs.declared.merge.AttachedWords.{AttachedWords}
use Rattle.merge_inputs.specs.Input.{InputRead, file_read, found_then, input_of, input_with, refusal_of, text_read, text_then, text_with, input_or_refusal}
use Rattle.merge_inputs.specs.Select.{is_taken, kept_one, takes, unmoved}
use Rattle.merge_inputs.specs.Taken.{first_unusable, taken_from, taken_one, taken_track, value_for}
use Rattle.merge_inputs.specs.Title.{title_of_info}
use Rattle.merge_inputs.specs.declared.taken.TakenTrack.{TakenTrack}
use Rattle.mkv_schema.specs.declared.track_type.TheConstants.{AUDIO_TRACK, SUBTITLE_TRACK, VIDEO_TRACK}
use Rattle.merge_inputs.specs.declared.input.InputRefusal.{InputRefusal}
use Rattle.merge_inputs.specs.declared.input.InputRefusal.TheVariants.{Damaged}
use Rattle.merge_inputs.proofs.TakenLemmas.{AreTaken-read, taken-tracks}
use Rattle.merge_plan.specs.Appending.{append_refusal}
use Rattle.merge_plan.specs.declared.appending.AppendDiffers.{AppendDiffers}
use Rattle.merge_plan.specs.Attached.{attached_source, attached_sources}
use Rattle.merge_plan.specs.Front.{reads_of}
use Rattle.merge_plan.specs.Places.{in_place}
use Rattle.merge_plan.specs.Plan.{Source}
use Rattle.merge_plan.specs.Refusal.{plan_refusal}
use Rattle.merge_plan.specs.declared.refusal.PlanRefusal.{PlanRefusal}
use Rattle.mkv_merge.specs.Merge.{refusals, refusals_read, sources_in, sources_of}
use Rattle.mkv_merge.specs.Chapters.{chaptered, first_with, with_chapters}
use Rattle.mkv_merge.specs.Texts.{listings_at, timed_from, with_listings}
use Rattle.mkv_merge.specs.Read.{attached_held, contents_held, found_in, inputs_from, inputs_of, numbered, reads_with, texts_held}
use Rattle.mkv_merge.specs.Refused.{first_cause}
use Rattle.mkv_merge.specs.declared.refusal.Refusal.{Refusal}
use Rattle.mkv_merge.specs.declared.refusal.Refusal.TheVariants.{Differs, Plan}
use Rattle.requests.specs.Texts.{HasTexts, AreTexts}
use Rattle.merge_laws.specs.Sources.{HoldsOctets, IsReadSource, IsReadTrack, AreSources, is_taken_type}
use Rattle.merge_laws.proofs.PlaceLemmas.{placed-read}
use Rattle.merge_laws.proofs.TextLemmas.{entries-within, text-read, text-uids, text-usable}
use Rattle.merge_laws.proofs.TreeLemmas.{HasChildrenRead, tree_of-children, entries-octets, uid-small, IsOfOctets}

-- ---- an Element that was read as a tree

-- The item that is found passes the test.
find-passes : {A : Type 0} (p : A → Bool) (xs : List A) (x : A) → find p xs ≡ Some x → p x ≡ true
find-passes p [] x found = absurd (cc)
find-passes p (y ∷ ys) x found = split (p y) refl found (find-passes p ys x)
  where
    split : (t : Bool) → p y ≡ t → cond t (Some y) (find p ys) ≡ Some x → (find p ys ≡ Some x → p x ≡ true) → p x ≡ true
    split true is found rest = let same : y ≡ x = cc in ap p (sym same) ∙ is
    split false is found rest = rest found

-- `tree` is a valid tree with the ID `id`, made of bytes.
record IsReadTree (id : ℕ) (tree : Node) : Type 0 where
  sound : IsSoundOf id tree
  children : HasChildrenRead tree

tree-read : (id : ℕ) (bytes : List ℕ) (segment : Header) (tree : Node) → AreOctets bytes → first_tree id bytes segment ≡ Ok (Some tree) → IsReadTree id tree
tree-read id bytes segment tree octets is = split (first_of id (segment_run bytes segment).list) refl is
  where
    split : (o : Option Header) → first_of id (segment_run bytes segment).list ≡ o → tree_at bytes o ≡ Ok (Some tree) → IsReadTree id tree
    split None found read = absurd (cc)
    split (Some h) found read =
        let parts = and_then-ok (tree_of h.id h.offset (body_of bytes h) h.body MAX_NODES) (λ (t : Node). Ok (Some t)) (Some tree) read in
        let same : parts.0 ≡ tree = (let made = parts.1.1 in cc) in
        let whole : tree_of h.id h.offset (body_of bytes h) h.body MAX_NODES ≡ Ok tree = parts.1.0 ∙ ap (λ (t : Node). Ok t) same in
        let body : AreOctets (body_of bytes h) = AreOctets-drop h.body _ (AreOctets-take (stated_end h) bytes octets) in
        let own : h.id ≡ id = eqb-true h.id id (find-passes (λ (c : Header). c.id == id) (segment_run bytes segment).list h found) in
        record {
          sound = record {
            id = (tree_of-root h.id h.offset h.body MAX_NODES (body_of bytes h) tree whole).1 ∙ own;
            sound = tree_of-sound h.id h.offset h.body MAX_NODES (body_of bytes h) tree body whole;
          };
          children = tree_of-children h.id h.offset h.body MAX_NODES (body_of bytes h) tree body whole;
        }

-- ---- the tracks

-- The tracks were read, and each identifier has 64 bits.
record AreReadTracks (list : List Track) : Type 0 where
  read : AreRead list
  uids : All (λ (t : Track). t.uid < 2 ^ 64) list

entry-uid : (entry : Node) → IsWholeEntry entry → IsOfOctets entry → uid_of entry < 2 ^ 64
entry-uid entry whole hold =
    uid-small entry whole.sound (HasUint-of TRACK_ENTRY TRACK_UID entry (record { id = whole.id; sound = whole.sound }) row.uid.known) hold

tracks-made : (tree : Node) (list : List Track) → IsReadTree TRACKS tree → tracks_of tree ≡ Ok list → AreReadTracks list
tracks-made tree list read is =
    let entries : List Node = entries_of tree in
    let made = unless-ok (tracks.refusal_of tree) (map track_of entries) list is in
    let whole = read-entries-whole.read tree read.sound read.children.shallow in
    let hold = entries-octets tree read.children in
    let each = λ (P : Track → Type 0) (all : All (λ (e : Node). P (track_of e)) entries). subst (All P) made.1 (All-map P track_of entries all) in
    record {
      read = AreRead-made tree list is ((refusal-none tree).0 made.0)
          (each (λ (t : Track). IsEntry t.entry) (λ k d below. let one = whole k d below in record { id = one.id; sound = one.sound }))
          (each (λ (t : Track). HasRoom t.entry) (λ k d below. (whole k d below).room));
      uids = each (λ (t : Track). t.uid < 2 ^ 64) (λ k d below. entry-uid _ (whole k d below) (hold k d below));
    }

good-tracks : (bytes : List ℕ) (segment : Header) (list : List Track) → AreOctets bytes → and_then (first_tree TRACKS bytes segment) (good_tracks segment) ≡ Ok list → AreReadTracks list
good-tracks bytes segment list octets is =
    let found = and_then-ok (first_tree TRACKS bytes segment) (good_tracks segment) list is in
    split found.0 found.1.0 found.1.1
  where
    split : (o : Option Node) → first_tree TRACKS bytes segment ≡ Ok o → good_tracks segment o ≡ Ok list → AreReadTracks list
    split None read good = absurd (cc)
    split (Some tree) read good = tracks-made tree list (tree-read TRACKS bytes segment tree octets read) good

-- ---- the title

title-text : (o : Option Node) → IfSome o (IsReadTree INFO) → IsUtf8 (title_of_info o)
title-text None read = IsUtf8-nil
title-text (Some info) read = split (first_child TITLE info) refl
  where
    may : may_stand TITLE (id_of info) ≡ true
    may = ap (may_stand TITLE) read.sound.id ∙ title-in.stands

    value : (n : Node) → first_child TITLE info ≡ Some n → (kind_of TITLE ≡ Some Ascii) ⊎ (kind_of TITLE ≡ Some Utf8) → is_utf8 (text_of (tree.body_of n)) ≡ true
    value n found (inl ascii) = first_child-value info n TITLE Ascii read.sound.sound may ascii found
    value n found (inr utf8) = first_child-value info n TITLE Utf8 read.sound.sound may utf8 found

    split : (o : Option Node) → first_child TITLE info ≡ o → IsUtf8 (option_map_or (λ (n : Node). text_of (tree.body_of n)) o [])
    split None found = IsUtf8-nil
    split (Some n) found = IsUtf8-from_is_utf8 (text_of (tree.body_of n)) (value n found title-in.kind)

-- The title has no zero byte.
text-whole : (body : List ℕ) → HasNoZero (text_of body)
text-whole [] = refl
text-whole (o ∷ body) = subst HasNoZero (sym (take_while-cons (λ octet. not (octet == 0)) o body)) (of (not (o == 0)) refl (text-whole body))
  where
    of : (keeps : Bool) → not (o == 0) ≡ keeps → HasNoZero (text_of body) → HasNoZero (cond keeps (o ∷ text_of body) [])
    of true is rest = ap (λ b. b && list_all (λ octet. not (octet == 0)) (text_of body)) is ∙ rest
    of false is rest = refl

title-whole : (o : Option Node) → HasNoZero (title_of_info o)
title-whole None = refl
title-whole (Some info) = of (first_child TITLE info)
  where
    of : (o : Option Node) → HasNoZero (option_map_or (λ (n : Node). text_of (tree.body_of n)) o [])
    of None = refl
    of (Some n) = text-whole (tree.body_of n)

good-title : (bytes : List ℕ) (segment : Header) (info : Option Node) → AreOctets bytes → and_then (first_tree INFO bytes segment) good_info ≡ Ok info → IsUtf8 (title_of_info info)
good-title bytes segment info octets is =
    let found = and_then-ok (first_tree INFO bytes segment) good_info info is in
    split found.0 found.1.0 found.1.1
  where
    split : (o : Option Node) → first_tree INFO bytes segment ≡ Ok o → good_info o ≡ Ok info → IsUtf8 (title_of_info info)
    split None read good = let same : None ≡ info = cc in subst (λ (o : Option Node). IsUtf8 (title_of_info o)) same (title-text None tt)
    split (Some each) read good =
        let same = (unless-ok (info_refusal each) (Some each) info good).1 in
        subst (λ (o : Option Node). IsUtf8 (title_of_info o)) same (title-text (Some each) (tree-read INFO bytes segment each octets read))

-- ---- the records of a file

record AreReadRecords (r : FileRecords) : Type 0 where
  title : IsUtf8 (title_of_info r.info)
  tracks : AreReadTracks r.tracks

records-read : (bytes : List ℕ) (segment : Header) (r : FileRecords) → AreOctets bytes → file_records bytes segment ≡ Ok r → AreReadRecords r
records-read bytes segment r octets is =
    let info = and_then-ok (and_then (first_tree INFO bytes segment) good_info) _ r is in
    let list = and_then-ok (and_then (first_tree TRACKS bytes segment) (good_tracks segment)) _ r info.1.1 in
    let attached = and_then-ok (first_attached bytes segment) _ r list.1.1 in
    let chapters = and_then-ok (first_tree CHAPTERS bytes segment) _ r attached.1.1 in
    let tags = and_then-ok (first_tree TAGS bytes segment) _ r chapters.1.1 in
    let made : record { info = info.0; tracks = list.0; attachments = attached.0; chapters = chapters.0; tags = tags.0 } ≡ r = cc (tags.1.1) in
    subst AreReadRecords made (record { title = good-title bytes segment info.0 octets info.1.0; tracks = good-tracks bytes segment list.0 octets list.1.0 })

-- ---- the selected tracks

-- The value that is given to an ID is text.
given-text : (id : ℕ) (pairs : List (ℕ × List ℕ)) → All (λ (given : ℕ × List ℕ). IsUtf8 given.1) pairs → IfSome (value_for id pairs) IsUtf8
given-text id [] all = tt
given-text id (pair ∷ pairs) all = split (pair.0 == id) (given-text id pairs (All-tail (λ (given : ℕ × List ℕ). IsUtf8 given.1) pair pairs all))
  where
    split : (t : Bool) → IfSome (value_for id pairs) IsUtf8 → IfSome (if t then Some pair.1 else value_for id pairs) IsUtf8
    split true rest = All-head (λ (given : ℕ × List ℕ). IsUtf8 given.1) pair pairs all
    split false rest = rest

-- The texts that are given to the track `t` are valid.
record HasTextsGiven (t : TakenTrack) : Type 0 where
  name : IfSome t.name IsUtf8
  language : IfSome t.language IsUtf8
  language_tag : IfSome t.language_tag IsUtf8

-- A fact about each track that the command line selects, with its options, holds for the selected tracks.
pub taken-all : (P : TakenTrack → Type 0) (words : FileWords) (id : ℕ) (list : List Track) → ((k : ℕ) (t : Track) → is_taken words k t.kind ≡ true → P (taken_track words k t)) → All P (taken_from words id list)
taken-all P words id [] each = All-nil P
taken-all P words id (t ∷ ts) each =
    All-append P (taken_one words id t) (taken_from words (id + 1) ts) (one (is_taken words id t.kind) refl) (taken-all P words (id + 1) ts each)
  where
    one : (taken : Bool) → is_taken words id t.kind ≡ taken → All P (if taken then taken_track words id t ∷ [] else [])
    one true is = All-cons P (taken_track words id t) [] (each id t is) (All-nil P)
    one false is = All-nil P

taken-texts : (words : FileWords) (list : List Track) → HasTexts words → All HasTextsGiven (taken_from words 0 list)
taken-texts words list has =
    taken-all HasTextsGiven words 0 list (λ k t is. record { name = given-text k words.names has.names; language = given-text k words.languages has.languages; language_tag = given-text k words.language_tags has.language_tags })

type-taken : (words : FileWords) (id type : ℕ) → is_taken words id type ≡ true → is_taken_type type ≡ true
type-taken words id type = of (type == VIDEO_TRACK) (type == AUDIO_TRACK) (type == SUBTITLE_TRACK)
  where
    of : (video audio subtitle : Bool) → (if video then takes words.video id else if audio then takes words.audio id else if subtitle then takes words.subtitles id else false) ≡ true → (video || audio || subtitle) ≡ true
    of true audio subtitle is = refl
    of false true subtitle is = refl
    of false false true is = refl
    of false false false is = absurd (cc)

taken-types : (words : FileWords) (list : List Track) → All (λ (t : TakenTrack). is_taken_type t.track.kind ≡ true) (taken_from words 0 list)
taken-types words list = taken-all (λ (t : TakenTrack). is_taken_type t.track.kind ≡ true) words 0 list (λ k t is. type-taken words k t.kind is)

-- ---- an input

pub found-ok : {A B : Type 0} (found : Result A Damage) (more : A → Result B InputRefusal) (y : B) → found_then found more ≡ Ok y → (x : A) × ((found ≡ Ok x) × (more x ≡ Ok y))
found-ok (Ok x) more y is = (x, (refl, is))
found-ok (Err d) more y is = absurd (cc)

pub unrefused-ok : (why : Option InputRefusal) (input read : InputRead) → input_or_refusal why input ≡ Ok read → (why ≡ None) × (input ≡ read)
unrefused-ok None input read is = (refl, cc)
unrefused-ok (Some why) input read is = absurd (cc)

no-unusable : (o : Option Damage) → option_map Damaged o ≡ None → o ≡ None
no-unusable None is = refl
no-unusable (Some d) is = absurd (cc)

-- The append offset of an input before it is placed is small enough.
unmoved-place : (words : FileWords) → unwrap_or (unmoved words) 0 ≤ MAX_SHIFT
unmoved-place words = of words.appended
  where
    of : (b : Bool) → unwrap_or (if b then Some 0 else None) 0 ≤ MAX_SHIFT
    of true = omega arith
    of false = omega arith

-- The tracks that were read and selected can be written.
taken-read : (words : FileWords) (list : List Track) → IsSoundFile words → HasTexts words → AreReadTracks list → first_unusable (taken_from words 0 list) ≡ None → All IsReadTrack (taken_from words 0 list)
taken-read words list sound has tracks usable =
    let taken : List TakenTrack = taken_from words 0 list in
    let good = AreTaken-read words list taken refl tracks.read sound usable in
    let uids = taken-tracks (λ (t : Track). t.uid < 2 ^ 64) words list (λ b t is. is) tracks.uids in
    let types = taken-types words list in
    let texts = taken-texts words list has in
    λ k d below. record { taken = good k d below; kind = types k d below; uid = uids k d below; name = (texts k d below).name; language = (texts k d below).language; language_tag = (texts k d below).language_tag }

file-read : (words : FileWords) (webm : Bool) (held : ℕ) (bytes : List ℕ) (read : InputRead) → AreOctets bytes → IsSoundFile words → HasTexts words → file_read words webm held bytes ≡ Ok read → IsReadSource (bytes, read)
file-read words webm held bytes read octets sound has is =
    let outline = found-ok (outline_of held bytes) _ read is in
    let o = outline.0 in
    let records = found-ok (file_records bytes o.segment) _ read outline.1.1 in
    let r : FileRecords = records.0 in
    let made = unrefused-ok (refusal_of (taken_from words 0 r.tracks)) (input_with words webm o r) read records.1.1 in
    let found = records-read bytes o.segment r octets records.1.0 in
    let usable : first_unusable (taken_from words 0 r.tracks) ≡ None = no-unusable (first_unusable (taken_from words 0 r.tracks)) made.0 in
    subst (λ (i : InputRead). IsReadSource (bytes, i)) made.1
    (record { octets = octets; entries = tt; title = found.title; whole = title-whole r.info; tracks = taken-read words r.tracks sound has found.tracks usable; place = unmoved-place words })

pub text-ok : (found : Result (List Entry) TextRefusal) (more : List Entry → InputRead) (read : InputRead) → text_then found more ≡ Ok read → (entries : List Entry) × ((found ≡ Ok entries) × (more entries ≡ read))
text-ok (Ok entries) more read is = (entries, (refl, cc))
text-ok (Err why) more read is = absurd (cc)

srt-read : (words : FileWords) (bytes : List ℕ) (read : InputRead) → AreOctets bytes → IsSoundFile words → HasTexts words → text_read words bytes ≡ Ok read → IsReadSource (bytes, read)
srt-read words bytes read octets sound has is =
    let found = text-ok (srt_text bytes) (text_with words) read is in
    subst (λ (i : InputRead). IsReadSource (bytes, i)) found.1.1 (record {
      octets = octets;
      entries = entries-within bytes found.0 found.1.0;
      title = IsUtf8-nil;
      whole = refl;
      tracks = taken-read words (track_of text_entry ∷ []) sound has (record { read = text-read; uids = text-uids }) (text-usable words);
      place = unmoved-place words;
    })

input-read : (words : FileWords) (webm : Bool) (held : ℕ) (bytes : List ℕ) (read : InputRead) → AreOctets bytes → IsSoundFile words → HasTexts words → input_of words webm held bytes ≡ Ok read → IsReadSource (bytes, read)
input-read words webm held bytes read octets sound has = of (is_srt words.name bytes)
  where
    of : (text : Bool) → (if text then text_read words bytes else file_read words webm held bytes) ≡ Ok read → IsReadSource (bytes, read)
    of true is = srt-read words bytes read octets sound has is
    of false is = file-read words webm held bytes read octets sound has is

-- The command line selects tracks that the file has, and these are counted.
pub input-taken : (words : FileWords) (webm : Bool) (held : ℕ) (bytes : List ℕ) (read : InputRead) → input_of words webm held bytes ≡ Ok read
    → (list : List Track) × ((taken_from words 0 list ≡ read.taken) × (length list ≡ read.count))
input-taken words webm held bytes read = of (is_srt words.name bytes)
  where
    of : (text : Bool) → (if text then text_read words bytes else file_read words webm held bytes) ≡ Ok read
        → (list : List Track) × ((taken_from words 0 list ≡ read.taken) × (length list ≡ read.count))
    of true is =
        let found = text-ok (srt_text bytes) (text_with words) read is in
        (track_of text_entry ∷ [], (ap (λ (i : InputRead). i.taken) found.1.1, ap (λ (i : InputRead). i.count) found.1.1))
    of false is =
        let outline = found-ok (outline_of held bytes) _ read is in
        let records = found-ok (file_records bytes outline.0.segment) _ read outline.1.1 in
        let r : FileRecords = records.0 in
        let made = unrefused-ok (refusal_of (taken_from words 0 r.tracks)) (input_with words webm outline.0 r) read records.1.1 in
        (r.tracks, (ap (λ (i : InputRead). i.taken) made.1, ap (λ (i : InputRead). i.count) made.1))

-- ---- all inputs

pub then-ok : {A B : Type 0} (found : Result A Refusal) (more : A → Result B Refusal) (y : B) → and_then found more ≡ Ok y → (x : A) × ((found ≡ Ok x) × (more x ≡ Ok y))
then-ok (Ok x) more y is = (x, (refl, is))
then-ok (Err why) more y is = absurd (cc)

pub numbered-ok : (k : ℕ) (found : Result InputRead InputRefusal) (read : InputRead) → numbered k found ≡ Ok read → found ≡ Ok read
numbered-ok k (Ok one) read is = ap (λ (i : InputRead). Ok i) (cc)
numbered-ok k (Err why) read is = absurd (cc)

-- Inputs that are read from files with these contents can be written.
inputs-read : (webm : Bool) (k held : ℕ) (files : List FileWords) (contents : List (List ℕ)) (reads : List InputRead) → length contents ≡ length files → All AreOctets contents → All IsSoundFile files → All HasTexts files
    → inputs_from webm k held (zip files contents) ≡ Ok reads → All IsReadSource (zip contents reads)
inputs-read webm k held [] [] reads same octets sound has is =
    let none : [] ≡ reads = cc in
    subst (λ (rs : List InputRead). All IsReadSource (zip [] rs)) none (All-nil IsReadSource)
inputs-read webm k held [] (c ∷ cs) reads same octets sound has is = absurd (omega arith)
inputs-read webm k held (f ∷ fs) [] reads same octets sound has is = absurd (omega arith)
inputs-read webm k held (f ∷ fs) (c ∷ cs) reads same octets sound has is =
    let first = then-ok (numbered k (input_of f webm held c)) _ reads is in
    let read : InputRead = first.0 in
    let others = then-ok (inputs_from webm (suc k) (counted held read.held) (zip fs cs)) _ reads first.1.1 in
    let made : read ∷ others.0 ≡ reads = (let last = others.1.1 in cc) in
    let own = input-read f webm held c read (All-head AreOctets c cs octets) (All-head IsSoundFile f fs sound) (All-head HasTexts f fs has) (numbered-ok k (input_of f webm held c) read first.1.0) in
    let rest = inputs-read webm (suc k) (counted held read.held) fs cs others.0 (omega arith) (All-tail AreOctets c cs octets) (All-tail IsSoundFile f fs sound) (All-tail HasTexts f fs has) others.1.0 in
    subst (λ (rs : List InputRead). All IsReadSource (zip (c ∷ cs) rs)) made (All-cons IsReadSource (c, read) (zip cs others.0) own rest)

-- ---- the Chapters of a chapter file

chapters-source : (bytes : List ℕ) (read : InputRead) (chapters : Option Node) → IsReadSource (bytes, read) → IsReadSource (bytes, with_chapters chapters read)
chapters-source bytes read chapters is = record { octets = is.octets; entries = is.entries; title = is.title; whole = is.whole; tracks = is.tracks; place = is.place }

others-chaptered : (contents : List (List ℕ)) (reads : List InputRead) → All IsReadSource (zip contents reads) → All IsReadSource (zip contents (map (with_chapters None) reads))
others-chaptered [] [] each = each
others-chaptered [] (r ∷ rs) each = each
others-chaptered (c ∷ cs) [] each = each
others-chaptered (c ∷ cs) (r ∷ rs) each =
    All-cons IsReadSource (c, with_chapters None r) (zip cs (map (with_chapters None) rs)) (chapters-source c r None (All-head IsReadSource (c, r) (zip cs rs) each))
    (others-chaptered cs rs (All-tail IsReadSource (c, r) (zip cs rs) each))

first-chaptered : (chapters : Option Node) (contents : List (List ℕ)) (reads : List InputRead) → All IsReadSource (zip contents reads) → All IsReadSource (zip contents (first_with with_chapters chapters reads))
first-chaptered chapters [] [] each = each
first-chaptered chapters [] (r ∷ rs) each = each
first-chaptered chapters (c ∷ cs) [] each = each
first-chaptered chapters (c ∷ cs) (r ∷ rs) each =
    All-cons IsReadSource (c, with_chapters chapters r) (zip cs (map (with_chapters None) rs)) (chapters-source c r chapters (All-head IsReadSource (c, r) (zip cs rs) each))
    (others-chaptered cs rs (All-tail IsReadSource (c, r) (zip cs rs) each))

chaptered-read : (webm : Bool) (f : ChapterFile) (contents : List (List ℕ)) (reads : List InputRead) → All IsReadSource (zip contents reads) → All IsReadSource (zip contents (chaptered with_chapters webm f reads))
chaptered-read webm file.Absent contents reads each = each
chaptered-read webm file.Missing contents reads each = each
chaptered-read webm (file.Refused why) contents reads each = each
chaptered-read webm (file.Read chapters) contents reads each = first-chaptered (kept_one (not webm) (Some chapters)) contents reads each

-- ---- inputs with timestamp files

times-source : (bytes : List ℕ) (read : InputRead) (times : List (ℕ × Listing)) → IsReadSource (bytes, read) → IsReadSource (bytes, with_listings times read)
times-source bytes read times is = record { octets = is.octets; entries = is.entries; title = is.title; whole = is.whole; tracks = is.tracks; place = is.place }

timed-read : (files : List TimesFile) (input : ℕ) (contents : List (List ℕ)) (reads : List InputRead) → All IsReadSource (zip contents reads) → All IsReadSource (zip contents (timed_from files input reads))
timed-read files input [] [] each = each
timed-read files input [] (r ∷ rs) each = each
timed-read files input (c ∷ cs) [] each = each
timed-read files input (c ∷ cs) (r ∷ rs) each =
    All-cons IsReadSource (c, with_listings (listings_at input files) r) (zip cs (timed_from files (suc input) rs))
    (times-source c r (listings_at input files) (All-head IsReadSource (c, r) (zip cs rs) each))
    (timed-read files (suc input) cs rs (All-tail IsReadSource (c, r) (zip cs rs) each))

-- ---- the sources

content-octets : (world : List ℕ → Option (List ℕ)) (name : List ℕ) (o : Option (List ℕ)) → HoldsOctets world → world name ≡ o → AreOctets (unwrap_or o [])
content-octets world name None holds is = λ i. omega arith
content-octets world name (Some bytes) holds is = holds name bytes is

contents-octets : (world : List ℕ → Option (List ℕ)) (names : List (List ℕ)) → HoldsOctets world → All AreOctets (map (λ (name : List ℕ). unwrap_or (world name) []) names)
contents-octets world [] holds = All-nil AreOctets
contents-octets world (name ∷ names) holds =
    All-cons AreOctets (unwrap_or (world name) []) (map (λ (n : List ℕ). unwrap_or (world n) []) names) (content-octets world name (world name) holds refl) (contents-octets world names holds)

pub no-refusal : (why : Option Refusal) (sources found : List Source) → unless why sources ≡ Ok found → (why ≡ None) × (sources ≡ found)
no-refusal None sources found is = (refl, cc)
no-refusal (Some why) sources found is = absurd (cc)

unplanned : (why : Option PlanRefusal) → option_map Plan why ≡ None → why ≡ None
unplanned None is = refl
unplanned (Some why) is = absurd (cc)

undiffering : (why : Option AppendDiffers) → option_map Differs why ≡ None → why ≡ None
undiffering None is = refl
undiffering (Some why) is = absurd (cc)

-- No refusal holds.
pub none-stands : (causes : List (Option Refusal)) → first_cause causes ≡ None → AllByRecursion (λ (cause : Option Refusal). cause ≡ None) causes
none-stands [] is = tt
none-stands (None ∷ causes) is = (refl, none-stands causes is)
none-stands (Some why ∷ causes) is = absurd (cc)

all-found : (reads : Result (List InputRead) Refusal) → result_err reads ≡ None → reads ≡ Ok (found_in reads)
all-found (Ok reads) is = refl
all-found (Err why) is = absurd (cc)

-- The sources of a merge were read: each from the content of its file. Then they got the Chapters and timestamps of text files, and their append
-- offsets. The files that the merge attaches come after them.
pub record WereRead (world : List ℕ → Option (List ℕ)) (words : MergeWords) (sources : List Source) : Type 0 where
  pub given : TextFiles
  pub found : List InputRead
  pub read : inputs_of words (contents_held world words) ≡ Ok found
  pub placed : in_place (zip (contents_held world words) (timed_from given.times 0 (chaptered with_chapters words.webm given.chapters found)))
      ++ attached_sources words.webm words.attached (attached_held world words) ≡ sources
  pub joined : append_refusal (timed_from given.times 0 (chaptered with_chapters words.webm given.chapters found)) ≡ None
  pub unrefused : plan_refusal words (reads_of sources) ≡ None

-- The sources of a merge were read in this way.
pub were-read : (world : List ℕ → Option (List ℕ)) (words : MergeWords) (sources : List Source) → sources_of world words ≡ Ok sources → WereRead world words sources
were-read world words sources is =
    let contents = contents_held world words in
    let attached = attached_held world words in
    let all = sources_in words (texts_held world words) contents attached in
    let causes = refusals world words ++ refusals_read words (texts_held world words) contents attached in
    let good = no-refusal (first_cause causes) all sources is in
    let read = (none-stands causes good.0).1.1.1.1.1 in
    record {
      given = texts_held world words;
      found = found_in (inputs_of words contents);
      read = all-found (inputs_of words contents) read.0;
      placed = good.1;
      joined = undiffering (append_refusal (reads_with words (texts_held world words) contents)) read.1.1.1.1.0;
      unrefused = ap (λ (each : List Source). plan_refusal words (reads_of each)) (sym good.1) ∙ unplanned (plan_refusal words (reads_of all)) read.1.1.1.1.1.0;
    }

-- A file that the merge attaches can be written.
attached-source : (webm : Bool) (words : AttachedWords) (bytes : List ℕ) → AreOctets bytes → IsReadSource (attached_source webm (words, bytes))
attached-source webm words bytes octets = record {
  octets = octets;
  entries = All-nil (IsEntryWithin MAX_SRT_LEN);
  title = IsUtf8-nil;
  whole = refl;
  tracks = All-nil IsReadTrack;
  place = omega arith;
}

attached-read : (webm : Bool) (attached : List AttachedWords) (contents : List (List ℕ)) → All AreOctets contents → All IsReadSource (attached_sources webm attached contents)
attached-read webm [] contents octets = All-nil IsReadSource
attached-read webm (w ∷ ws) [] octets = All-nil IsReadSource
attached-read webm (w ∷ ws) (c ∷ cs) octets =
    All-cons IsReadSource (attached_source webm (w, c)) (attached_sources webm ws cs) (attached-source webm w c (All-head AreOctets c cs octets)) (attached-read webm ws cs (All-tail AreOctets c cs octets))

-- The sources of a merge can be written.
pub sources-read : (words : MergeWords) (sources : List Source) → IsSoundMerge words → AreTexts words → (world : List ℕ → Option (List ℕ)) → HoldsOctets world → sources_of world words ≡ Ok sources → AreSources words sources
sources-read words sources sound texts world holds is =
    let were = were-read world words sources is in
    let given : TextFiles = were.given in
    let found : List InputRead = were.found in
    let headed : List InputRead = chaptered with_chapters words.webm given.chapters found in
    let octets = contents-octets world (file_names words.files) holds in
    let own = inputs-read words.webm 0 0 words.files contents found many octets sound.each texts.files were.read in
    let timed = timed-read given.times 0 contents headed (chaptered-read words.webm given.chapters contents found own) in
    record {
      each = subst (All IsReadSource) were.placed
          (All-append IsReadSource (in_place (zip contents (timed_from given.times 0 headed))) (attached_sources words.webm words.attached (attached_held world words))
          (placed-read (zip contents (timed_from given.times 0 headed)) (omega (arith, length-zip contents (timed_from given.times 0 headed), many, sound.files.most)) timed)
          (attached-read words.webm words.attached (attached_held world words) (contents-octets world (attached_names words.attached) holds)));
      unrefused = were.unrefused;
    }
  where
    contents : List (List ℕ)
    contents = contents_held world words

    many : length contents ≡ length words.files
    many = length-map (file_names words.files) (λ (name : List ℕ). unwrap_or (world name) []) ∙ length-map words.files (λ (w : FileWords). w.name)
