-- An input as a merge reads it, compared with an extraction from the same file.
use Rattle.std.proofs.Common.{◌≡◌, ◌<◌, ℕ, suc, ◌+◌, ◌^◌, Bool, true, false, not, ◌&&◌, if◌then◌else◌, nat_eq, List, [], ◌∷◌, length, map, get_or, Option, Some, None, IfSome, option_map, Result, Ok, Err, refl, sym, ap, subst, ◌∙◌, arith}
use Rattle.std.specs.List.{All, slice_get, starts_with}
use Rattle.std.proofs.lemmas.List.Elements.{All-append, All-cons, All-map, All-nil}
use Rattle.mkv_io.specs.declared.damage.Damage.{Damage}
use Rattle.mkv_schema.specs.declared.ids.TheConstants.{TRACKS}
use Rattle.mkv_schema.specs.declared.element.Header.{Header}
use Rattle.mkv_schema.specs.Outline.{Outlined, ebml_header, ebml_mark, first_element, limits_from, outline_of, outlined, segment_of, segment_run}
use Rattle.mkv_io.specs.Results.{and_then}
use Rattle.mkv_schema.proofs.OutlineLemmas.{and_then-ok, unless-ok}
use Rattle.tree_format.specs.Node.{Node}
use Rattle.file_format.specs.Entry.{default_duration_of, entries_of, number_of}
use Rattle.file_format.specs.Refusal as tracks
use Rattle.file_format.specs.Tracks.{IsTrack}
use Rattle.file_format.proofs.TracksLemmas.{refusal-none}
use Rattle.track_records.specs.Track.{track_of}
use Rattle.track_records.specs.declared.track.Track.{Track}
use Rattle.mkv_schema.specs.declared.ids.TheConstants.{INFO}
use Rattle.meta_records.specs.Records.{FileRecords, file_records, first_tree, good_info, good_tracks, scale_of_info}
use Rattle.meta_records.specs.Attached.{first_attached}
use Rattle.mkv_schema.specs.declared.ids.TheConstants.{CHAPTERS, TAGS}
use Rattle.input_files.specs.Names.{begins_ebml, is_srt, is_srt_name}
use Rattle.requests.specs.declared.merge.FileWords.{FileWords}
use Rattle.merge_inputs.specs.Input.{Clusters, InputRead, file_read, found_then, input_of, input_with, refusal_of, text_read, input_or_refusal}
use Rattle.merge_inputs.specs.Select.{is_taken}
use Rattle.merge_inputs.specs.Taken.{taken_from, taken_one, taken_track}
use Rattle.merge_inputs.specs.declared.taken.TakenTrack.{TakenTrack}
use Rattle.merge_inputs.specs.declared.input.InputRefusal.{InputRefusal}
pub use Rattle.lemmas.proofs.PlainLemmas.{All-get as at-place}

-- ---- the outline

header-same : (found : Result Header Damage) (a b : Header) → found ≡ Ok a → found ≡ Ok b → a ≡ b
header-same found a b is is' = let same : Ok a ≡ Ok b = sym is ∙ is' in cc

-- The Segment doesn't depend on the size of earlier inputs.
pub segment-same : (bytes : List ℕ) (held held' : ℕ) (x y : Outlined) → outline_of held bytes ≡ Ok x → outline_of held' bytes ≡ Ok y → x.segment ≡ y.segment
unfolding outline_of
segment-same bytes held held' x y is is' =
    let e = and_then-ok (ebml_header bytes) _ x is in
    let f = and_then-ok (ebml_header bytes) _ y is' in
    let s = and_then-ok (segment_of bytes e.0) _ x e.1.1 in
    let t = and_then-ok (segment_of bytes f.0) _ y f.1.1 in
    let made = unless-ok (limits_from held [] (segment_run bytes s.0).list) (outlined bytes e.0 s.0 (segment_run bytes s.0)) x s.1.1 in
    let made' = unless-ok (limits_from held' [] (segment_run bytes t.0).list) (outlined bytes f.0 t.0 (segment_run bytes t.0)) y t.1.1 in
    let header : e.0 ≡ f.0 = header-same (ebml_header bytes) e.0 f.0 e.1.0 f.1.0 in
    let segment : s.0 ≡ t.0 = header-same (segment_of bytes f.0) s.0 t.0 (ap (segment_of bytes) (sym header) ∙ s.1.0) t.1.0 in
    ap (λ (o : Outlined). o.segment) (sym made.1) ∙ segment ∙ ap (λ (o : Outlined). o.segment) made'.1

-- A file with an outline begins as an EBML header does.
begins : (bytes : List ℕ) (held : ℕ) (x : Outlined) → outline_of held bytes ≡ Ok x → begins_ebml bytes ≡ true
unfolding outline_of ebml_header
begins bytes held x is =
    let e = and_then-ok (ebml_header bytes) _ x is in
    let first = and_then-ok (first_element bytes) _ e.0 e.1.0 in
    by_mark (starts_with nat_eq bytes ebml_mark) _ _ first.0 refl first.1.0
  where
    by_mark : (b : Bool) (found : Result Header Damage) (d : Damage) (h : Header) → starts_with nat_eq bytes ebml_mark ≡ b → (if b then found else Err d) ≡ Ok h → begins_ebml bytes ≡ true
    by_mark true found d h is made = is
    by_mark false found d h is made = absurd (cc)

not-srt : (name bytes : List ℕ) → begins_ebml bytes ≡ true → is_srt name bytes ≡ false
not-srt name bytes is = by_name (is_srt_name name)
  where
    by_name : (b : Bool) → (b && not (begins_ebml bytes)) ≡ false
    by_name true = ap not is
    by_name false = refl

-- ---- the tracks

-- The track `t` has the values of its entry.
pub record IsSaid (t : Track) : Type 0 where
  pub number : t.number ≡ number_of t.entry
  pub duration : IfSome (default_duration_of t.entry) (λ d. d < 2 ^ 48)

said : (entry : Node) → IsTrack entry → IsSaid (track_of entry)
said entry is = record { number = refl; duration = is.duration }

good-said : (segment : Header) (tree : Option Node) (list : List Track) → good_tracks segment tree ≡ Ok list → All IsSaid list
good-said segment None list is = absurd (cc)
good-said segment (Some tree) list is =
    let made = unless-ok (tracks.refusal_of tree) (map track_of (entries_of tree)) list is in
    let are = (refusal-none tree).0 made.0 in
    subst (All IsSaid) made.1 (All-map IsSaid track_of (entries_of tree) (λ k d below. said (get_or (entries_of tree) k d) (are.each k d below)))

pub tracks-said : (bytes : List ℕ) (segment : Header) (r : FileRecords) → file_records bytes segment ≡ Ok r → All IsSaid r.tracks
tracks-said bytes segment r is =
    let info = and_then-ok (and_then (first_tree INFO bytes segment) good_info) _ r is in
    let list = and_then-ok (and_then (first_tree TRACKS bytes segment) (good_tracks segment)) _ r info.1.1 in
    let found = and_then-ok (first_tree TRACKS bytes segment) (good_tracks segment) list.0 list.1.0 in
    let attached = and_then-ok (first_attached bytes segment) _ r list.1.1 in
    let chapters = and_then-ok (first_tree CHAPTERS bytes segment) _ r attached.1.1 in
    let tags = and_then-ok (first_tree TAGS bytes segment) _ r chapters.1.1 in
    let made : record { info = info.0; tracks = list.0; attachments = attached.0; chapters = chapters.0; tags = tags.0 } ≡ r = cc (tags.1.1) in
    subst (λ (each : FileRecords). All IsSaid each.tracks) made (good-said segment found.0 list.0 found.1.1)

-- ---- selected tracks

-- A selected track has the number of the track at the place of its ID.
abbrev pub StandsAt : List Track → TakenTrack → Type 0
StandsAt all t = option_map (λ (k : Track). k.number) (slice_get all t.id) ≡ Some t.track.number

-- The selected tracks after the first `k` are at the places of their IDs.
stand-from : (words : FileWords) (all : List Track) (k : ℕ) (ts : List Track) → ((j : ℕ) → slice_get all (k + j) ≡ slice_get ts j) → All (StandsAt all) (taken_from words k ts)
stand-from words all k [] are = All-nil (StandsAt all)
stand-from words all k (t ∷ ts) are =
    let none : k + 0 ≡ k = omega arith in
    let here : slice_get all k ≡ Some t = ap (slice_get all) (sym none) ∙ are 0 in
    All-append (StandsAt all) (taken_one words k t) (taken_from words (k + 1) ts) (one here (is_taken words k t.kind)) (stand-from words all (k + 1) ts (λ j. behind j))
  where
    behind : (j : ℕ) → slice_get all (k + 1 + j) ≡ slice_get ts j
    behind j = let same : k + 1 + j ≡ k + suc j = omega arith in ap (slice_get all) same ∙ are (suc j)

    one : slice_get all k ≡ Some t → (taken : Bool) → All (StandsAt all) (if taken then taken_track words k t ∷ [] else [])
    one here true = All-cons (StandsAt all) (taken_track words k t) [] (ap (option_map (λ (k : Track). k.number)) here) (All-nil (StandsAt all))
    one here false = All-nil (StandsAt all)

pub taken-stand : (words : FileWords) (tracks : List Track) → All (StandsAt tracks) (taken_from words 0 tracks)
taken-stand words tracks = stand-from words tracks 0 tracks (λ j. let same : 0 + j ≡ j = omega arith in ap (slice_get tracks) same)

-- ---- an input

-- `i` is read from a file with these records and this Segment.
pub record IsReadAs (words : FileWords) (segment : Header) (r : FileRecords) (i : InputRead) : Type 0 where
  pub blocks : i.blocks ≡ Clusters segment (scale_of_info r.info)
  pub count : i.count ≡ length r.tracks
  pub taken : i.taken ≡ taken_from words 0 r.tracks

found-ok : {A B : Type 0} (found : Result A Damage) (more : A → Result B InputRefusal) (y : B) → found_then found more ≡ Ok y → (x : A) × ((found ≡ Ok x) × (more x ≡ Ok y))
found-ok (Ok x) more y is = (x, (refl, is))
found-ok (Err d) more y is = absurd (cc)

unrefused : (why : Option InputRefusal) (input read : InputRead) → input_or_refusal why input ≡ Ok read → input ≡ read
unrefused None input read is = cc
unrefused (Some why) input read is = absurd (cc)

records-same : (found : Result FileRecords Damage) (a b : FileRecords) → found ≡ Ok a → found ≡ Ok b → a ≡ b
records-same found a b is is' = let same : Ok a ≡ Ok b = sym is ∙ is' in cc

file-read : (words : FileWords) (webm : Bool) (held : ℕ) (bytes : List ℕ) (o : Outlined) (r : FileRecords) (i : InputRead) → outline_of 0 bytes ≡ Ok o → file_records bytes o.segment ≡ Ok r → file_read words webm held bytes ≡ Ok i → IsReadAs words o.segment r i
file-read words webm held bytes o r i outline records is =
    let found = found-ok (outline_of held bytes) _ i is in
    let p : Outlined = found.0 in
    let segment = segment-same bytes held 0 p o found.1.0 outline in
    let own = found-ok (file_records bytes p.segment) _ i found.1.1 in
    let same : own.0 ≡ r = records-same (file_records bytes o.segment) own.0 r (ap (file_records bytes) (sym segment) ∙ own.1.0) records in
    let made = unrefused (refusal_of (taken_from words 0 own.0.tracks)) (input_with words webm p own.0) i own.1.1 in
    subst (IsReadAs words o.segment r) made (subst (λ (each : FileRecords). IsReadAs words o.segment r (input_with words webm p each)) (sym same) (record {
      blocks = ap (λ (s : Header). Clusters s (scale_of_info r.info)) segment;
      count = refl;
      taken = refl;
    }))

pub input-read : (words : FileWords) (webm : Bool) (held : ℕ) (bytes : List ℕ) (o : Outlined) (r : FileRecords) (i : InputRead) → outline_of 0 bytes ≡ Ok o → file_records bytes o.segment ≡ Ok r → input_of words webm held bytes ≡ Ok i → IsReadAs words o.segment r i
input-read words webm held bytes o r i outline records is =
    let other = not-srt words.name bytes (begins bytes 0 o outline) in
    file-read words webm held bytes o r i outline records (sym (ap (λ (b : Bool). if b then text_read words bytes else file_read words webm held bytes) other) ∙ is)
