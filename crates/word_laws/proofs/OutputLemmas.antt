-- The options for the whole output are read back.
use Rattle.std.proofs.Common.{ℕ, ◌/◌, ◌%◌, Bool, true, false, if◌then◌else◌, List, [], ◌∷◌, ◌++◌, codes, map, All, ◌<◌, ◌^◌, ◌≡◌, Option, Some, None, IfSome, refl, subst, arith, ◌==◌, option_map, inl, inr, flat_map}
use Rattle.std.specs.Fmt.{decimal}
use Rattle.std.proofs.lemmas.Bool.{cases_Bool}
use Rattle.word_values.specs.declared.values.Value.{Value}
use Rattle.word_values.specs.declared.values.Value.TheVariants.{Flag, File, Text, Scale, Blocks, Span, Split, Uuids, Order}
use Rattle.word_values.specs.declared.values.ValueForm.{ValueForm}
use Rattle.word_values.specs.declared.values.ValueForm.TheVariants as form
use Rattle.requests.specs.declared.split.SplitWords.{SplitWords}
use Rattle.requests.specs.Sound.{IsWithin, IsSoundSplit, AreUuids}
use Rattle.word_values.specs.Values.{flag_of, value_of}
use Rattle.merge_words.specs.Items.{track_in}
use Rattle.requests.specs.declared.merge.FileWords.{FileWords}
use Rattle.requests.specs.declared.merge.MergeWords.{MergeWords}
use Rattle.merge_words.specs.declared.options.Subject.{Subject}
use Rattle.merge_words.specs.declared.options.Subject.TheVariants as subject
use Rattle.merge_words.specs.declared.options.Scope.{Scope}
use Rattle.merge_words.specs.declared.options.Scope.TheVariants as scope
use Rattle.merge_words.specs.Options.{meaning_of, table}
use Rattle.merge_words.specs.Files.{ids_of}
use Rattle.merge_words.specs.Merge.{starts, read_all}
use Rattle.requests.specs.Sound.{IsSoundMerge}
use Rattle.word_laws.specs.Values.{with_commas, last_digits, split_word, uuids_word, place_word, order_word}
use Rattle.word_laws.specs.SpelledMerge.{parts_joined, unusual, with_value, output_options}
use Rattle.word_laws.specs.SpellableMerge.{IsText, IsOrder, IsSpellableMerge, IsSplit}
use Rattle.word_laws.proofs.ValueLemmas.{text_read, scale_read, blocks_read, span_read}
use Rattle.word_laws.proofs.SplitLemmas.{split_value_read, uuids_read, order_read}
use Rattle.word_laws.proofs.SayingLemmas.{◌&◌, Item, Said, Piece, said_words, piece_words, piece_items, after_pieces, IsOption}
use Rattle.word_laws.proofs.GroupLemmas.{IsReadable, AreReadable, value_said, once_read, pieces_read}
use Rattle.word_laws.proofs.AboutLemmas.{ids_said, ids_part}
use Rattle.word_laws.proofs.PieceLemmas.{means, said_flag, flag_words, flag_readable, flag_ids, said_value, value_words, text_words, value_ids}
use Rattle.word_laws.proofs.FileLemmas.{pieces_spelled}

-- ---- limits in blocks or milliseconds
abbrev pub said_length : Bool → Bool → ℕ → ℕ → List Said
said_length false whole blocks span = record { word = codes "--cluster-length"; value = Some (decimal blocks); says = Blocks blocks } ∷ []
said_length true false blocks span = record { word = codes "--cluster-length"; value = Some (decimal (span / 1000000) ++ codes "ms"); says = Span span } ∷ []
said_length true true blocks span = []

length_spelled : (a b : Bool) (blocks span : ℕ) → said_words (said_length a b blocks span)
    ≡ with_value (codes "--cluster-length") (if a then option_map (λ t. decimal (t / 1000000) ++ codes "ms") (if b then None else Some span) else Some (decimal blocks))
length_spelled false b blocks span = refl
length_spelled true false blocks span = refl
length_spelled true true blocks span = refl

length_readable : (a b : Bool) (blocks span : ℕ) → IsOption (codes "--cluster-length") (means subject.ClusterLength scope.Output form.Length) → IsWithin 1 65535 blocks → IsWithin 100000000 32000000000 span → span % 1000000 ≡ 0
    → IsReadable (record { subject = subject.ClusterLength; scope = scope.Output; said = said_length a b blocks span })
length_readable false b blocks span is few long whole =
    once_read subject.ClusterLength scope.Output (said_length false b blocks span) (value_said (codes "--cluster-length") (means subject.ClusterLength scope.Output form.Length) (decimal blocks) (Blocks blocks) is refl (blocks_read blocks few), refl)
length_readable true false blocks span is few long whole =
    once_read subject.ClusterLength scope.Output (said_length true false blocks span)
    (value_said (codes "--cluster-length") (means subject.ClusterLength scope.Output form.Length) (decimal (span / 1000000) ++ codes "ms") (Span span) is refl (span_read span long whole), refl)
length_readable true true blocks span is few long whole = once_read subject.ClusterLength scope.Output [] tt

length_ids : (a b : Bool) (blocks span : ℕ) → ids_said (said_length a b blocks span) ≡ []
length_ids false b blocks span = refl
length_ids true false blocks span = refl
length_ids true true blocks span = refl

-- ---- the pieces
abbrev pub said_title : MergeWords → List Said
said_title w = said_value (codes "--title") (λ t. t) Text w.title

abbrev pub said_chapters : MergeWords → List Said
said_chapters w = said_value (codes "--chapters") (λ t. t) File w.chapters

abbrev pub said_scale : MergeWords → List Said
said_scale w = said_value (codes "--timestamp-scale") decimal Scale (unusual 1000000 w.scale)

abbrev pub said_split : MergeWords → List Said
said_split w = said_value (codes "--split") split_word Split w.split

abbrev pub said_uuids : List ℕ → List Said
said_uuids [] = []
said_uuids (u ∷ us) = record { word = codes "--segment-uid"; value = Some (with_commas (map (last_digits 16 32) (u ∷ us))); says = Uuids (u ∷ us) } ∷ []

uuids_spelled : (us : List ℕ) → said_words (said_uuids us) ≡ with_value (codes "--segment-uid") (uuids_word us)
uuids_spelled [] = refl
uuids_spelled (u ∷ us) = refl

uuids_readable : (us : List ℕ) → IsOption (codes "--segment-uid") (means subject.Uuids scope.Output form.Uuids) → AreUuids us → All (λ u. u < 2 ^ 128) us
    → IsReadable (record { subject = subject.Uuids; scope = scope.Output; said = said_uuids us })
uuids_readable [] is sound small = once_read subject.Uuids scope.Output [] tt
uuids_readable (u ∷ us) is sound small =
    once_read subject.Uuids scope.Output (said_uuids (u ∷ us))
    (value_said (codes "--segment-uid") (means subject.Uuids scope.Output form.Uuids) (with_commas (map (last_digits 16 32) (u ∷ us))) (Uuids (u ∷ us)) is refl (uuids_read (u ∷ us) (omega arith) sound small), refl)

uuids_ids : (us : List ℕ) → ids_said (said_uuids us) ≡ []
uuids_ids [] = refl
uuids_ids (u ∷ us) = refl

abbrev pub said_order : List (ℕ × ℕ) → List Said
said_order [] = []
said_order (p ∷ ps) = record { word = codes "--track-order"; value = Some (with_commas (map place_word (p ∷ ps))); says = Order (p ∷ ps) } ∷ []

order_spelled : (ps : List (ℕ × ℕ)) → said_words (said_order ps) ≡ with_value (codes "--track-order") (order_word ps)
order_spelled [] = refl
order_spelled (p ∷ ps) = refl

order_readable : (files : List FileWords) (ps : List (ℕ × ℕ)) → IsOption (codes "--track-order") (means subject.Order scope.Output form.Order) → IsOrder files ps
    → IsReadable (record { subject = subject.Order; scope = scope.Output; said = said_order ps })
order_readable files [] is order = once_read subject.Order scope.Output [] tt
order_readable files (p ∷ ps) is order =
    once_read subject.Order scope.Output (said_order (p ∷ ps))
    (value_said (codes "--track-order") (means subject.Order scope.Output form.Order) (with_commas (map place_word (p ∷ ps))) (Order (p ∷ ps)) is refl (order_read (p ∷ ps) (omega arith) order.differ order.short), refl)

order_ids : (ps : List (ℕ × ℕ)) → ids_said (said_order ps) ≡ []
order_ids [] = refl
order_ids (p ∷ ps) = refl

split_sound : (o : Option SplitWords) (x : SplitWords) → IfSome o IsSoundSplit → IfSome o IsSplit → o ≡ Some x → IsSoundSplit x × IsSplit x
split_sound None x sound is same = absurd (cc)
split_sound (Some y) x sound is same = let e : y ≡ x = cc in (subst IsSoundSplit e sound, subst IsSplit e is)

abbrev pub output_pieces : MergeWords → List Piece
output_pieces w =
    record { subject = subject.Output; scope = scope.Output; said = said_value (codes "--output") (λ t. t) File (Some w.output) } ∷
    record { subject = subject.Webm; scope = scope.Output; said = said_flag (codes "--webm") Flag w.webm } ∷
    record { subject = subject.Title; scope = scope.Output; said = said_title w } ∷
    record { subject = subject.ChapterFile; scope = scope.Output; said = said_chapters w } ∷
    record { subject = subject.Scale; scope = scope.Output; said = said_scale w } ∷
    record { subject = subject.ClusterLength; scope = scope.Output; said = said_length (w.blocks == 65535) (w.span == 5000000000) w.blocks w.span } ∷
    record { subject = subject.Split; scope = scope.Output; said = said_split w } ∷
    record { subject = subject.Uuids; scope = scope.Output; said = said_uuids w.uuids } ∷
    record { subject = subject.Link; scope = scope.Output; said = said_flag (codes "--link") Flag w.link } ∷
    record { subject = subject.Duration; scope = scope.Output; said = said_flag (codes "--duration") Flag w.duration } ∷
    record { subject = subject.AppendDamaged; scope = scope.Output; said = said_flag (codes "--append-damaged") Flag w.append_damaged } ∷
    record { subject = subject.Order; scope = scope.Output; said = said_order w.order } ∷ []

output_spelled : (w : MergeWords) → piece_words (output_pieces w) ≡ parts_joined (output_options w)
output_spelled w = pieces_spelled (output_pieces w) (output_options w) (
    refl &
    flag_words (codes "--webm") Flag w.webm &
    text_words (codes "--title") Text w.title &
    text_words (codes "--chapters") File w.chapters &
    value_words (codes "--timestamp-scale") decimal Scale (unusual 1000000 w.scale) &
    length_spelled (w.blocks == 65535) (w.span == 5000000000) w.blocks w.span &
    value_words (codes "--split") split_word Split w.split &
    uuids_spelled w.uuids &
    flag_words (codes "--link") Flag w.link &
    flag_words (codes "--duration") Flag w.duration &
    flag_words (codes "--append-damaged") Flag w.append_damaged &
    order_spelled w.order &
    tt)

-- A value is read back, if there is one.
pub value_readable : {X : Type 0} (c : Scope) (s : Subject) (f : ValueForm) (word : List ℕ) (text : X → List ℕ) (value : X → Value) (o : Option X) → IsOption word (means s c f) → flag_of f ≡ None
    → ((x : X) → track_in (value x) ≡ None) → ((x : X) → o ≡ Some x → value_of f (text x) ≡ Some (value x)) → IsReadable (record { subject = s; scope = c; said = said_value word text value o })
value_readable c s f word text value None is due none reads = once_read s c [] tt
value_readable c s f word text value (Some x) is due none reads =
    once_read s c (said_value word text value (Some x)) (value_said word (means s c f) (text x) (value x) is due (reads x refl), none x)

title_is : (o : Option (List ℕ)) (x : List ℕ) → IfSome o IsText → o ≡ Some x → IsText x
title_is None x is same = absurd (cc)
title_is (Some y) x is same = let e : y ≡ x = cc in rw e at is

scale_is : (scale x : ℕ) → unusual 1000000 scale ≡ Some x → scale ≡ x
scale_is scale x same = elim (cases_Bool (scale == 1000000)) [ inl is ↦ absurd (let none = rw is at same in cc) | inr is ↦ (let some = rw is at same in cc) ]

output_readable : (w : MergeWords) → IsSoundMerge w → IsSpellableMerge w → AreReadable (output_pieces w)
unfolding meaning_of table value_of
output_readable w sound is = (
    value_readable scope.Output subject.Output form.Name (codes "--output") (λ t. t) File (Some w.output) (refl, refl) refl (λ x. refl) (λ x same. refl) &
    flag_readable subject.Webm scope.Output (codes "--webm") w.webm (refl, refl) &
    value_readable scope.Output subject.Title form.Text (codes "--title") (λ t. t) Text w.title (refl, refl) refl (λ x. refl) (λ x same. rw (text_read x (title_is w.title x is.title same)) refl) &
    value_readable scope.Output subject.ChapterFile form.Name (codes "--chapters") (λ t. t) File w.chapters (refl, refl) refl (λ x. refl) (λ x same. refl) &
    value_readable scope.Output subject.Scale form.Scale (codes "--timestamp-scale") decimal Scale (unusual 1000000 w.scale) (refl, refl) refl (λ x. refl)
    (λ x same. scale_read x (let e = scale_is w.scale x same in rw e at sound.scale)) &
    length_readable (w.blocks == 65535) (w.span == 5000000000) w.blocks w.span (refl, refl) sound.blocks sound.span is.milliseconds &
    value_readable scope.Output subject.Split form.Split (codes "--split") split_word Split w.split (refl, refl) refl (λ x. refl)
    (λ x same. let both = split_sound w.split x sound.split is.split same in split_value_read x both.0 both.1) &
    uuids_readable w.uuids (refl, refl) sound.uuids is.uuids &
    flag_readable subject.Link scope.Output (codes "--link") w.link (refl, refl) &
    flag_readable subject.Duration scope.Output (codes "--duration") w.duration (refl, refl) &
    flag_readable subject.AppendDamaged scope.Output (codes "--append-damaged") w.append_damaged (refl, refl) &
    order_readable w.files w.order (refl, refl) is.order &
    tt)

pub output_read : (w : MergeWords) (count : ℕ) (rest : List (List ℕ)) → IsSoundMerge w → IsSpellableMerge w
    → read_all count [] (starts 1 (parts_joined (output_options w) ++ rest)) ≡ read_all count (piece_items 1 (output_pieces w)) (starts (after_pieces 1 (output_pieces w)) rest)
output_read w count rest sound is =
    let read = pieces_read (output_pieces w) count [] 1 rest refl refl refl (output_readable w sound is) (refl, (refl, (refl, (refl, (refl, (refl, (refl, (refl, (refl, (refl, (refl, (refl, tt)))))))))))) in
    subst (λ ws. read_all count [] (starts 1 (ws ++ rest)) ≡ read_all count (piece_items 1 (output_pieces w)) (starts (after_pieces 1 (output_pieces w)) rest)) (output_spelled w) read

-- ---- the pieces have no subject of a file
pub ids_none : (w : MergeWords) (at : ℕ) → flat_map (λ (i : Item). ids_of i.value) (piece_items at (output_pieces w)) ≡ []
ids_none w at = ids_part (output_pieces w) ([] ∷ [] ∷ [] ∷ [] ∷ [] ∷ [] ∷ [] ∷ [] ∷ [] ∷ [] ∷ [] ∷ [] ∷ []) at (
    refl &
    flag_ids (codes "--webm") w.webm &
    value_ids (codes "--title") (λ t. t) Text w.title (λ x. refl) &
    value_ids (codes "--chapters") (λ t. t) File w.chapters (λ x. refl) &
    value_ids (codes "--timestamp-scale") decimal Scale (unusual 1000000 w.scale) (λ x. refl) &
    length_ids (w.blocks == 65535) (w.span == 5000000000) w.blocks w.span &
    value_ids (codes "--split") split_word Split w.split (λ x. refl) &
    uuids_ids w.uuids &
    flag_ids (codes "--link") w.link &
    flag_ids (codes "--duration") w.duration &
    flag_ids (codes "--append-damaged") w.append_damaged &
    order_ids w.order &
    tt)
