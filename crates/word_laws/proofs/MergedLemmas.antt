-- The command line of a merge is read back.
use Rattle.std.proofs.Common.{◌≡◌, inl, inr, ◌<◌, ◌≤◌, ℕ, Bool, true, false, ◌||◌, List, [], ◌∷◌, ◌++◌, length, codes, Option, Some, None, Ok, refl, sym, ap, ap₂, ◌∙◌, arith, append_assoc, All, ◌==◌, slice_get, IfSome, option_map, option_and_then, unwrap_or, eqb-true, flat_map}
use Rattle.std.proofs.lemmas.Bool.{or_parts, cases_Bool}
use Rattle.std.proofs.lemmas.Bool.Decides.{nat_tests}
use Rattle.std.proofs.lemmas.List.{append-nil}
use Rattle.std.proofs.lemmas.List.Folds.{list_any-append}
use Rattle.std.proofs.lemmas.List.Elements.{All-head, All-tail}
use Rattle.std.proofs.lemmas.List.Concat.{flat_map-append}
use Rattle.word_values.specs.declared.values.Value.{Value}
use Rattle.word_values.specs.declared.values.Value.TheVariants.{Flag, File, Text, Scale, Split}
use denote.Enum.Bare.{sameb}
use Rattle.merge_words.specs.contracts.options.Scope.{the_type}
use Rattle.requests.specs.declared.merge.AttachedWords.{AttachedWords}
use Rattle.requests.specs.declared.merge.FileWords.{FileWords}
use Rattle.requests.specs.declared.merge.MergeWords.{MergeWords}
use Rattle.merge_words.specs.declared.options.Subject.{Subject}
use Rattle.merge_words.specs.declared.options.Subject.TheVariants as subject
use Rattle.merge_words.specs.declared.options.Scope.TheVariants as scope
use Rattle.merge_words.specs.Options.{same}
use Rattle.merge_words.specs.Items.{counted, stands, files_in, since, since_file, since_attached}
use Rattle.merge_words.specs.Said.{value_in, file_in, file_of, text_of, scale_of, blocks_of, span_of, split_of, uuids_of, order_of}
use Rattle.merge_words.specs.Files.{ids_of, file}
use Rattle.merge_words.specs.Output.{merge_words as said_by, title_in, scale_in, blocks_in, span_in, uuids_in, order_in}
use Rattle.merge_words.specs.Attached.{attached_file, attached}
use Rattle.merge_words.specs.Merge.{starts, read_all, items, unattached, dangling, complete, merged, linking, unlinked}
use Rattle.merge_words.proofs.FilesLemmas.{files_from, parted_files, attached_from, parted_attached}
use Rattle.requests.specs.Sound.{IsSoundMerge, IsSoundFile}
use Rattle.mkv_args.specs.declared.command.Command.TheVariants as commands
use Rattle.mkv_args.specs.declared.commands.Verb.TheVariants as verb
use Rattle.mkv_args.specs.Merge.{merge}
use Rattle.mkv_args.specs.Words.{command, command_named}
use Rattle.word_laws.specs.Values.{split_word}
use Rattle.requests.specs.declared.split.SplitWords.{SplitWords}
use Rattle.word_laws.specs.SpelledMerge.{unusual, attached_words, file_words, merge_words}
use Rattle.word_laws.specs.SpellableMerge.{IsLinkable, IsLength, IsMergeFile, IsSpellableMerge}
use Rattle.word_laws.proofs.SimpleLemmas.{by_verb}
use Rattle.word_laws.proofs.SayingLemmas.{◌&◌, Item, Piece, item, piece_items, after_pieces, none_about, other_stands, stands_both}
use Rattle.word_laws.proofs.GroupLemmas.{since_grows, AreFree}
use Rattle.word_laws.proofs.AboutLemmas.{about, about-append, is_said, first_said, stands_about, value_of_about, or_else, value_either, piece_items-append, after_pieces-append}
use Rattle.word_laws.proofs.PieceLemmas.{flag_stands, value_first}
use Rattle.word_laws.proofs.FileLemmas.{group, file_items, after_file, file_read, counted_both, same_count, none_with}
use Rattle.word_laws.proofs.OwnLemmas.{IsSaidOf, ids_are, file_is}
use Rattle.word_laws.proofs.OutputLemmas.{said_length, said_uuids, said_order, output_pieces, output_read, ids_none}
use Rattle.word_laws.proofs.FilesLemmas.{files_items, files_read, none_since, one_counted, made_behind, made_end, files_behind, files_first, files_are}
use Rattle.word_laws.proofs.AttachedLemmas.{attached_pieces, attached_group, attached_all, IsFresh, attached_all_read, since_last, is_other, attached_about, attached_ids, attached_is, attached_are, of_attached, unscoped_items, unscoped_both}

-- ---- items of files are about files
abbrev out_items : MergeWords → List Item
out_items w = piece_items 1 (output_pieces w)

-- the pieces before the files: the options for the output, and the attached files
abbrev front_pieces : MergeWords → List Piece
front_pieces w = output_pieces w ++ attached_all w.attached

abbrev front_items : MergeWords → List Item
front_items w = piece_items 1 (front_pieces w)

abbrev begin : MergeWords → ℕ
begin w = after_pieces 1 (front_pieces w)

abbrev all_items : MergeWords → List Item
all_items w = front_items w ++ files_items (begin w) w.files

front_is : (w : MergeWords) → front_items w ≡ out_items w ++ piece_items (after_pieces 1 (output_pieces w)) (attached_all w.attached)
front_is w = piece_items-append (output_pieces w) (attached_all w.attached) 1

out_about : (w : MergeWords) (t : Subject) → is_other t ≡ true → about t (front_pieces w) ≡ about t (output_pieces w)
out_about w t other =
    about-append t (output_pieces w) (attached_all w.attached)
    ∙ (ap (λ l. about t (output_pieces w) ++ l) (attached_about t w.attached other) ∙ append-nil (about t (output_pieces w)))

-- No item before the files has the subject.
front_none : (w : MergeWords) (t : Subject) → none_about t (output_pieces w) ≡ true → is_other t ≡ true → stands t (front_items w) ≡ false
front_none w t none other =
    stands_about t (front_pieces w) 1
    ∙ (ap is_said (out_about w t other) ∙ (sym (stands_about t (output_pieces w) 1) ∙ other_stands 1 t (output_pieces w) none))

files_other : (t : Subject) (fs : List FileWords) (at : ℕ) → ((f : FileWords) → none_about t (group f) ≡ true) → same subject.File t ≡ false → stands t (files_items at fs) ≡ false
files_other t [] at none file = refl
files_other t (f ∷ fs) at none file =
    let last : stands t (item (after_pieces at (group f)) subject.File scope.Output (File f.name) ∷ []) ≡ false = rw file refl in
    stands_both t (file_items at f) (files_items (after_file at f) fs)
    (stands_both t (piece_items at (group f)) (item (after_pieces at (group f)) subject.File scope.Output (File f.name) ∷ []) (other_stands at t (group f) (none f)) last)
    (files_other t fs (after_file at f) none file)

none_value : (t : Subject) (xs : List Item) → stands t xs ≡ false → value_in t xs ≡ None
none_value t [] none = refl
none_value t (x ∷ xs) none = let parts = or_parts (same x.subject t) (stands t xs) none in rw parts.0 (none_value t xs parts.1)

or_none : (o : Option Value) → or_else o None ≡ o
or_none None = refl
or_none (Some v) = refl

or_false : (b : Bool) → (b || false) ≡ b
or_false true = refl
or_false false = refl

-- The options for the output come before the files.
out_stands : (w : MergeWords) (t : Subject) → ((f : FileWords) → none_about t (group f) ≡ true) → same subject.File t ≡ false → is_other t ≡ true → stands t (all_items w) ≡ is_said (about t (output_pieces w))
out_stands w t none file other =
    list_any-append (λ (i : Item). same i.subject t) (front_items w) (files_items (begin w) w.files)
    ∙ (rw (files_other t w.files (begin w) none file) (or_false (stands t (front_items w))) ∙ (stands_about t (front_pieces w) 1 ∙ ap is_said (out_about w t other)))

out_value : (w : MergeWords) (t : Subject) → ((f : FileWords) → none_about t (group f) ≡ true) → same subject.File t ≡ false → is_other t ≡ true → value_in t (all_items w) ≡ first_said (about t (output_pieces w))
out_value w t none file other =
    value_either t (front_items w) (files_items (begin w) w.files)
    ∙ (rw (none_value t (files_items (begin w) w.files) (files_other t w.files (begin w) none file)) (or_none (value_in t (front_items w))) ∙ (value_of_about t (front_pieces w) 1 ∙ ap first_said (out_about w t other)))

-- ---- values of the output
text_back : (o : Option (List ℕ)) → option_and_then text_of (option_map Text o) ≡ o
text_back None = refl
text_back (Some x) = refl

name_back : (o : Option (List ℕ)) → option_and_then file_of (option_map File o) ≡ o
name_back None = refl
name_back (Some x) = refl

scale_back : (scale : ℕ) → unwrap_or (option_and_then scale_of (option_map Scale (unusual 1000000 scale))) 1000000 ≡ scale
scale_back scale = elim (cases_Bool (scale == 1000000)) [ inl is ↦ rw is (sym (eqb-true scale 1000000 is)) | inr is ↦ rw is refl ]

blocks_back : (a b : Bool) (blocks span : ℕ) → (blocks == 65535) ≡ a → unwrap_or (option_and_then blocks_of (first_said (said_length a b blocks span ++ []))) 65535 ≡ blocks
blocks_back true true blocks span is = grind (arith, nat_tests)
blocks_back true false blocks span is = grind (arith, nat_tests)
blocks_back false b blocks span is = refl

span_back : (a b : Bool) (blocks span : ℕ) → IsLength blocks span → (blocks == 65535) ≡ a → (span == 5000000000) ≡ b → unwrap_or (option_and_then span_of (first_said (said_length a b blocks span ++ []))) 5000000000 ≡ span
span_back true true blocks span one is usual = grind (arith, nat_tests)
span_back true false blocks span one is usual = refl
span_back false b blocks span (inl blocks_usual) is usual = absurd (grind (arith, nat_tests))
span_back false b blocks span (inr span_usual) is usual = sym span_usual

split_back : (o : Option SplitWords) → option_and_then split_of (option_map Split o) ≡ o
split_back None = refl
split_back (Some x) = refl

uuids_back : (us : List ℕ) → unwrap_or (option_and_then uuids_of (first_said (said_uuids us ++ []))) [] ≡ us
uuids_back [] = refl
uuids_back (u ∷ us) = refl

order_back : (ps : List (ℕ × ℕ)) → unwrap_or (option_and_then order_of (first_said (said_order ps ++ []))) [] ≡ ps
order_back [] = refl
order_back (p ∷ ps) = refl

module _ (w : MergeWords) (is : IsSpellableMerge w) where
  webm_is : stands subject.Webm (all_items w) ≡ w.webm
  webm_is = out_stands w subject.Webm (λ f. refl) refl refl ∙ flag_stands (codes "--webm") Flag w.webm

  title_is : title_in (all_items w) ≡ w.title
  title_is = rw (out_value w subject.Title (λ f. refl) refl refl) (rw (value_first (codes "--title") (λ t. t) Text w.title) (text_back w.title))

  chapters_is : file_in subject.ChapterFile (all_items w) ≡ w.chapters
  chapters_is = rw (out_value w subject.ChapterFile (λ f. refl) refl refl) (rw (value_first (codes "--chapters") (λ t. t) File w.chapters) (name_back w.chapters))

  scale_is : scale_in (all_items w) ≡ w.scale
  scale_is = rw (out_value w subject.Scale (λ f. refl) refl refl) (rw (value_first (codes "--timestamp-scale") _ Scale (unusual 1000000 w.scale)) (scale_back w.scale))

  blocks_is : blocks_in (all_items w) ≡ w.blocks
  blocks_is = rw (out_value w subject.ClusterLength (λ f. refl) refl refl) (blocks_back (w.blocks == 65535) (w.span == 5000000000) w.blocks w.span refl)

  span_is : span_in (all_items w) ≡ w.span
  span_is = rw (out_value w subject.ClusterLength (λ f. refl) refl refl) (span_back (w.blocks == 65535) (w.span == 5000000000) w.blocks w.span is.length refl refl)

  split_is : option_and_then split_of (value_in subject.Split (all_items w)) ≡ w.split
  split_is = rw (out_value w subject.Split (λ f. refl) refl refl) (rw (value_first (codes "--split") split_word Split w.split) (split_back w.split))

  uuids_is : uuids_in (all_items w) ≡ w.uuids
  uuids_is = rw (out_value w subject.Uuids (λ f. refl) refl refl) (uuids_back w.uuids)

  link_is : stands subject.Link (all_items w) ≡ w.link
  link_is = out_stands w subject.Link (λ f. refl) refl refl ∙ flag_stands (codes "--link") Flag w.link

  duration_is : stands subject.Duration (all_items w) ≡ w.duration
  duration_is = out_stands w subject.Duration (λ f. refl) refl refl ∙ flag_stands (codes "--duration") Flag w.duration

  order_is : order_in (all_items w) ≡ w.order
  order_is = rw (out_value w subject.Order (λ f. refl) refl refl) (order_back w.order)

  append_damaged_is : stands subject.AppendDamaged (all_items w) ≡ w.append_damaged
  append_damaged_is = out_stands w subject.AppendDamaged (λ f. refl) refl refl ∙ flag_stands (codes "--append-damaged") Flag w.append_damaged

-- ---- values of the files
joined_none : {X : Type 0} (a b c : List X) → a ≡ [] → b ≡ c → a ++ b ≡ c
joined_none a b c none same = rw none same

front_ids : (w : MergeWords) (at : ℕ) → flat_map (λ (i : Item). ids_of i.value) (piece_items at (front_pieces w)) ≡ []
front_ids w at =
    ap (λ (l : List Item). flat_map (λ (i : Item). ids_of i.value) l) (piece_items-append (output_pieces w) (attached_all w.attached) at)
    ∙ (flat_map-append (λ (i : Item). ids_of i.value) (piece_items at (output_pieces w)) (piece_items (after_pieces at (output_pieces w)) (attached_all w.attached))
    ∙ joined_none _ _ _ (ids_none w at) (attached_ids w.attached (after_pieces at (output_pieces w))))

-- The options of the first file are those of its own pieces.
own_about : (w : MergeWords) (f : FileWords) (t : Subject) → is_other t ≡ true → about t (output_pieces w) ≡ [] → about t (front_pieces w ++ group f) ≡ about t (group f)
own_about w f t other none =
    about-append t (front_pieces w) (group f) ∙ ap (λ l. l ++ about t (group f)) (out_about w t other ∙ none)

first_says : (w : MergeWords) (f : FileWords) → IsSaidOf f (front_pieces w ++ group f)
first_says w f =
    let own = own_about w f in
    record {
      joins = own subject.Append refl refl;
      video = own subject.Video refl refl;
      audio = own subject.Audio refl refl;
      subtitles = own subject.Subtitles refl refl;
      attachments = own subject.Attachments refl refl;
      track_tags = own subject.TrackTags refl refl;
      global_tags = own subject.GlobalTags refl refl;
      statistics = own subject.Statistics refl refl;
      chapters = own subject.Chapters refl refl;
      keep_encodings = own subject.KeepEncodings refl refl;
      names = own subject.TrackName refl refl;
      languages = own subject.Language refl refl;
      language_tags = own subject.LanguageTag refl refl;
      defaults = own subject.DefaultFlag refl refl;
      forced = own subject.ForcedFlag refl refl;
      enabled = own subject.EnabledFlag refl refl;
      hearing_impaired = own subject.HearingImpairedFlag refl refl;
      visual_impaired = own subject.VisualImpairedFlag refl refl;
      text_descriptions = own subject.TextDescriptionsFlag refl refl;
      original = own subject.OriginalFlag refl refl;
      commentary = own subject.CommentaryFlag refl refl;
      times = own subject.Times refl refl;
      syncs = own subject.Sync refl refl;
      cues = own subject.Cues refl refl;
      named = λ (at : ℕ). ap (λ (l : List Item). flat_map (λ (i : Item). ids_of i.value) l) (piece_items-append (front_pieces w) (group f) at)
          ∙ (flat_map-append (λ (i : Item). ids_of i.value) (piece_items at (front_pieces w)) (piece_items (after_pieces at (front_pieces w)) (group f))
          ∙ joined_none _ _ _ (front_ids w at) (ids_are f (after_pieces at (front_pieces w))));
    }

all_files : (w : MergeWords) (fs : List FileWords) → 0 < length fs → All IsMergeFile fs → files_from [] (front_items w ++ files_items (begin w) fs) ≡ fs
all_files w [] some are = absurd (omega arith)
all_files w (f ∷ fs) some are =
    let one = All-head IsMergeFile f fs are in
    let rest = files_items (after_file (begin w) f) fs in
    let whole : front_items w ++ piece_items (begin w) (group f) ≡ piece_items 1 (front_pieces w ++ group f) = sym (piece_items-append (front_pieces w) (group f) 1) in
    files_behind [] (front_items w) (file_items (begin w) f ++ rest) (front_none w subject.File refl refl)
    ∙ (files_first (front_items w) (begin w) f rest ∙ rw whole (rw (file_is f (front_pieces w ++ group f) 1 (first_says w f) one.named) (rw (files_are fs (after_file (begin w) f) (All-tail IsMergeFile f fs are)) refl)))

-- ---- attached files
first_attached : (w : MergeWords) (all : List AttachedWords) (at : ℕ) → after_pieces 1 (output_pieces w) ≡ at → attached_from [] (out_items w ++ piece_items at (attached_all all)) ≡ all
first_attached w [] at is =
    made_behind subject.AttachedFile attached_file [] (out_items w) [] (other_stands 1 subject.AttachedFile (output_pieces w) refl)
first_attached w (a ∷ more) at is =
    let options = piece_items at (attached_pieces a) in
    let own = item (after_pieces at (attached_pieces a)) subject.AttachedFile scope.Attached (File a.file) in
    let rest = piece_items (after_pieces at (attached_group a)) (attached_all more) in
    let whole : out_items w ++ options ≡ piece_items 1 (output_pieces w ++ attached_pieces a) =
    ap (λ k. out_items w ++ piece_items k (attached_pieces a)) (sym is) ∙ sym (piece_items-append (output_pieces w) (attached_pieces a) 1) in
    made_behind subject.AttachedFile attached_file [] (out_items w) (options ++ (own ∷ rest)) (other_stands 1 subject.AttachedFile (output_pieces w) refl)
    ∙ (made_behind subject.AttachedFile attached_file (out_items w) options (own ∷ rest) refl
    ∙ ap₂ (λ (x : AttachedWords) (xs : List AttachedWords). x ∷ xs)
    (ap (λ l. attached_file l (File a.file)) whole ∙ attached_is a (output_pieces w ++ attached_pieces a) 1 refl refl refl) (attached_are more (after_pieces at (attached_group a))))

attached_read_is : (w : MergeWords) → attached (all_items w) ≡ w.attached
attached_read_is w =
    parted_attached (all_items w)
    ∙ (made_end subject.AttachedFile attached_file [] (front_items w) (files_items (begin w) w.files) (files_other subject.AttachedFile w.files (begin w) (λ f. refl) refl)
    ∙ (ap (attached_from []) (front_is w) ∙ first_attached w w.attached (after_pieces 1 (output_pieces w)) refl))

said_is : (w : MergeWords) → IsSoundMerge w → IsSpellableMerge w → said_by (all_items w) ≡ w
unfolding said_by
said_is w sound is =
    let some = sound.files.least in
    rw (webm_is w is) (rw (title_is w is) (rw (chapters_is w is) (rw (scale_is w is) (rw (blocks_is w is) (rw (span_is w is)
    (rw (split_is w is) (rw (parted_files (all_items w) ∙ all_files w w.files (omega arith) is.files) (rw (uuids_is w is) (rw (link_is w is) (rw (duration_is w is) (rw (append_damaged_is w is) (rw (attached_read_is w) (rw (order_is w is) refl)))))))))))))

-- ---- arguments are read as the items
since_all : (fs : List FileWords) (before : List Item) (at : ℕ) → since_file before ≡ [] → since_file (before ++ files_items at fs) ≡ []
since_all [] before at none = rw (append-nil before) none
since_all (f ∷ fs) before at none = rw (← append_assoc before (file_items at f) (files_items (after_file at f) fs)) (since_all fs (before ++ file_items at f) (after_file at f) (none_since before at f))

front_since : (w : MergeWords) → since_file (front_items w) ≡ front_items w
unfolding since
front_since w = since_grows subject.File [] (front_items w) (front_none w subject.File refl refl)

-- The items before the files have no subject of a file.
free_first : (w : MergeWords) (f : FileWords) → AreFree (front_items w) (group f)
free_first w f = (free subject.Append refl refl & free subject.Video refl refl & free subject.Audio refl refl & free subject.Subtitles refl refl & free subject.Attachments refl refl & free subject.TrackTags refl refl & free subject.GlobalTags refl refl & free subject.Statistics refl refl & free subject.Chapters refl refl & free subject.KeepEncodings refl refl & free subject.Sync refl refl & free subject.TrackName refl refl & free subject.Language refl refl & free subject.LanguageTag refl refl & free subject.DefaultFlag refl refl & free subject.ForcedFlag refl refl & free subject.EnabledFlag refl refl & free subject.HearingImpairedFlag refl refl & free subject.VisualImpairedFlag refl refl & free subject.TextDescriptionsFlag refl refl & free subject.OriginalFlag refl refl & free subject.CommentaryFlag refl refl & free subject.Cues refl refl & free subject.Times refl refl & tt)
  where
    free : (t : Subject) → none_about t (output_pieces w) ≡ true → is_other t ≡ true → stands t (since_file (front_items w)) ≡ false
    free t none other = ap (stands t) (front_since w) ∙ front_none w t none other

no_files_out : (w : MergeWords) → files_in (front_items w) ≡ 0
no_files_out w = same_count [] (front_items w) (front_none w subject.File refl refl)

files_all_read : (w : MergeWords) (fs : List FileWords) (count : ℕ) → 0 < length fs → length fs ≤ 64 → IfSome (slice_get fs 0) (λ (f : FileWords). f.appended ≡ false) → All IsSoundFile fs → All IsMergeFile fs
    → read_all count (front_items w) (starts (begin w) (flat_map file_words fs)) ≡ Ok (front_items w ++ files_items (begin w) fs)
files_all_read w [] count some few first sound are = absurd (omega arith)
files_all_read w (f ∷ fs) count some few first sound are =
    let none = no_files_out w in
    let one = one_counted (front_items w) (begin w) f in
    let here = file_read count (front_items w) (begin w) f (flat_map file_words fs) (All-head IsSoundFile f fs sound) (All-head IsMergeFile f fs are) (λ is. absurd (cc)) (omega arith) (free_first w f) in
    let next = files_read fs count (front_items w ++ file_items (begin w) f) (after_file (begin w) f) (All-tail IsSoundFile f fs sound) (All-tail IsMergeFile f fs are) (omega arith) (omega arith) (none_since (front_items w) (begin w) f) in
    here ∙ (next ∙ rw (append_assoc (front_items w) (file_items (begin w) f) (files_items (after_file (begin w) f) fs)) refl)

out_attached : (w : MergeWords) → since_attached (out_items w) ≡ out_items w
unfolding since
out_attached w = since_grows subject.AttachedFile [] (out_items w) (other_stands 1 subject.AttachedFile (output_pieces w) refl)

-- No option of an attached file is among those for the output.
out_fresh : (w : MergeWords) → IsFresh (out_items w)
out_fresh w = (free subject.AttachedName refl, (free subject.AttachedType refl, (free subject.AttachedNote refl, free subject.AttachedFile refl)))
  where
    free : (t : Subject) → none_about t (output_pieces w) ≡ true → stands t (since_attached (out_items w)) ≡ false
    free t none = ap (stands t) (out_attached w) ∙ other_stands 1 t (output_pieces w) none

none_attached : (w : MergeWords) → counted subject.AttachedFile (out_items w) ≡ 0
none_attached w = none_with subject.AttachedFile (out_items w) (other_stands 1 subject.AttachedFile (output_pieces w) refl)

items_read : (w : MergeWords) → IsSoundMerge w → IsSpellableMerge w → items (codes "merge" ∷ merge_words w) ≡ Ok (all_items w)
unfolding items
items_read w sound is =
    let some = sound.files.least in
    let few = sound.files.most in
    let count = length (codes "merge" ∷ merge_words w) in
    let none = none_attached w in
    let room = is.few in
    let at = after_pieces 1 (output_pieces w) in
    let attach = attached_all_read w.attached count (out_items w) at (flat_map file_words w.files) is.attached (out_fresh w) (omega arith) in
    let front : read_all count (out_items w ++ piece_items at (attached_all w.attached)) (starts (after_pieces at (attached_all w.attached)) (flat_map file_words w.files))
    ≡ read_all count (front_items w) (starts (begin w) (flat_map file_words w.files)) =
    ap (λ l. read_all count l (starts (after_pieces at (attached_all w.attached)) (flat_map file_words w.files))) (sym (front_is w))
    ∙ ap (λ n. read_all count (front_items w) (starts n (flat_map file_words w.files))) (sym (after_pieces-append (output_pieces w) (attached_all w.attached) 1)) in
    output_read w count (flat_map attached_words w.attached ++ flat_map file_words w.files) sound is
    ∙ (attach ∙ (front ∙ files_all_read w w.files count (omega arith) few sound.first sound.each is.files))

-- ---- nothing is missing
last_file : (w : MergeWords) (fs : List FileWords) → 0 < length fs → since_file (front_items w ++ files_items (begin w) fs) ≡ []
last_file w [] some = absurd (omega arith)
last_file w (f ∷ fs) some =
    rw (← append_assoc (front_items w) (file_items (begin w) f) (files_items (after_file (begin w) f) fs)) (since_all fs (front_items w ++ file_items (begin w) f) (after_file (begin w) f) (none_since (front_items w) (begin w) f))

counted_all : (w : MergeWords) (fs : List FileWords) → 0 < length fs → 0 < files_in (front_items w ++ files_items (begin w) fs)
counted_all w [] some = absurd (omega arith)
counted_all w (f ∷ fs) some =
    let one = one_counted (front_items w) (begin w) f in
    let both = counted_both (front_items w ++ file_items (begin w) f) (files_items (after_file (begin w) f) fs) in
    rw (← append_assoc (front_items w) (file_items (begin w) f) (files_items (after_file (begin w) f) fs)) (omega arith)

none_unattached : (xs : List Item) → of_attached xs ≡ false → unattached xs ≡ None
none_unattached [] none = refl
none_unattached (x ∷ xs) none = let parts = or_parts (sameb the_type x.scope scope.Attached) (of_attached xs) none in rw parts.0 (none_unattached xs parts.1)

-- No item after the last attached file is an option for one.
front_unattached : (w : MergeWords) (all : List AttachedWords) (at : ℕ) → of_attached (since_attached (out_items w ++ piece_items at (attached_all all))) ≡ false
front_unattached w [] at =
    ap (λ l. of_attached (since_attached l)) (append-nil (out_items w)) ∙ (ap of_attached (out_attached w) ∙ unscoped_items 1 (output_pieces w) refl)
front_unattached w (a ∷ more) at = ap of_attached (since_last a more (out_items w) at)

files_unattached : (fs : List FileWords) (at : ℕ) → of_attached (files_items at fs) ≡ false
files_unattached [] at = refl
files_unattached (f ∷ fs) at =
    unscoped_both (file_items at f) (files_items (after_file at f) fs)
    (unscoped_both (piece_items at (group f)) (item (after_pieces at (group f)) subject.File scope.Output (File f.name) ∷ []) (unscoped_items at (group f) refl) refl)
    (files_unattached fs (after_file at f))

none_dangling : (w : MergeWords) → 0 < length w.files → dangling (all_items w) ≡ None
none_dangling w some =
    let files = files_items (begin w) w.files in
    let grown = since_grows subject.AttachedFile (front_items w) files (files_other subject.AttachedFile w.files (begin w) (λ f. refl) refl) in
    let front = ap (λ l. of_attached (since_attached l)) (front_is w) ∙ front_unattached w w.attached (after_pieces 1 (output_pieces w)) in
    let none = ap of_attached grown ∙ unscoped_both (since_attached (front_items w)) files front (files_unattached w.files (begin w)) in
    rw (last_file w w.files some) (rw (none_unattached (since_attached (all_items w)) none) refl)

none_linking : (xs : List Item) → stands subject.Link xs ≡ false → linking xs ≡ None
none_linking [] none = refl
none_linking (x ∷ xs) none = let parts = or_parts (same x.subject subject.Link) (stands subject.Link xs) none in rw parts.0 (none_linking xs parts.1)

unlinked_none : (xs : List Item) (link : Bool) (us : List ℕ) → IsLinkable link us → stands subject.Link xs ≡ link → stands subject.Uuids xs ≡ is_said (said_uuids us ++ []) → unlinked xs ≡ None
unlinked_none xs true [] linked links some = absurd (omega arith)
unlinked_none xs true (u ∷ us) linked links some = rw some refl
unlinked_none xs false us linked links some =
    rw (none_linking xs links) (elim (cases_Bool (stands subject.Uuids xs)) [ inl is ↦ rw is refl | inr is ↦ rw is refl ])

complete_all : (w : MergeWords) (count : ℕ) → IsSoundMerge w → IsSpellableMerge w → complete count (all_items w) ≡ Ok tt
unfolding complete
complete_all w count sound is =
    let some = sound.files.least in
    let filled = counted_all w w.files (omega arith) in
    let has : (files_in (all_items w) == 0) ≡ false = grind (arith, nat_tests) in
    let free = unlinked_none (all_items w) w.link w.uuids is.link (link_is w is) (out_stands w subject.Uuids (λ f. refl) refl refl) in
    rw (none_dangling w (omega arith)) (rw (last_file w w.files (omega arith)) (rw has (rw free refl)))

pub merge_read : (w : MergeWords) → IsSoundMerge w → IsSpellableMerge w → command (codes "merge" ∷ merge_words w) ≡ Ok (commands.Merge w)
unfolding command_named merge merged
merge_read w sound is =
    by_verb verb.Merge (merge_words w) refl ∙ rw (items_read w sound is) (rw (complete_all w (length (codes "merge" ∷ merge_words w)) sound is) (rw (said_is w sound is) (rw is.order.begin refl)))
