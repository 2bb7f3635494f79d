-- Each word of a message has a page: computed.
use Rattle.std.proofs.Common.{◌≡◌, ℕ, true, false, Bool, not, ◌&&◌, List, [], ◌∷◌, ◌++◌, codes, map, drop, IfSome, IsSome, refl, sym, ap, ◌∙◌}
use Rattle.std.specs.Fmt.{decimal}
use Rattle.std.proofs.lemmas.List.{append_assoc}
use Rattle.mkv_io.specs.Kind.{kind_name}
use Rattle.mkv_io.specs.declared.damage.Kind.{Kind}
use Rattle.mkv_io.specs.declared.damage.Kind.TheVariants as kind
use Rattle.word_values.specs.Why.{why_name}
use Rattle.word_values.specs.declared.usage.Why.{Why}
use Rattle.word_values.specs.declared.usage.Why.TheVariants as why
use Rattle.edit_changes.specs.declared.refusal.EditRefusal.{EditRefusal}
use Rattle.edit_changes.specs.declared.refusal.EditRefusal.TheVariants as edit
use Rattle.edit_changes.specs.declared.refusal.Room.{Room}
use Rattle.edit_changes.specs.declared.refusal.Room.TheVariants as room
use Rattle.mkv_args.specs.Explain.{Topic, is_same_name, page_of, topics, word_topics, refusal_topics, edit_topics, damage_topics, warning_topics, result_topics, general_topics}
use Rattle.mkv_lines.specs.Line.{edit_refused_line, generated_line, reindexed_line, text_of}
use Rattle.mkv_lines.specs.Shown.{damaged_id, element_text, mark_text, shown_text}
use Rattle.mkv_lines.specs.declared.line.Line.{Line}
use Rattle.mkv_lines.specs.declared.line.Line.TheVariants as line
use Rattle.mkv_propedit.specs.Propedit.{room_name, why_name as edit_why_name}
use Rattle.std.specs.List.{AllByRecursion, IsDistinct}
use Rattle.explain_laws.specs.Messages.{Contains, IsExplained, NamesDiffer, WordsHavePages, word_of}

-- ---- names

kinds_have : (k : Kind) → IsSome (page_of (kind_name k))
unfolding kind_name word_topics refusal_topics edit_topics damage_topics warning_topics result_topics general_topics
kinds_have kind.NotEbml = refl
kinds_have kind.BadId = refl
kinds_have kind.BadSize = refl
kinds_have kind.TooLong = refl
kinds_have kind.Truncated = refl
kinds_have kind.DocType = refl
kinds_have kind.ReadVersion = refl
kinds_have kind.MaxLengths = refl
kinds_have kind.NoSegment = refl
kinds_have kind.NoTracks = refl
kinds_have kind.BadValue = refl
kinds_have kind.MissingChild = refl
kinds_have kind.RepeatedTrack = refl
kinds_have kind.Encoding = refl
kinds_have kind.TrackScale = refl
kinds_have kind.HeaderTooLarge = refl
kinds_have kind.ShortBlock = refl
kinds_have kind.BadLacing = refl
kinds_have kind.BlockTooLarge = refl
kinds_have kind.TimeTooLarge = refl
kinds_have kind.NoTimestamp = refl
kinds_have kind.TooMany = refl
kinds_have kind.UnknownSize = refl
kinds_have kind.BadFrame = refl

words_have : (w : Why) → IsSome (page_of (why_name w))
unfolding why_name word_topics refusal_topics edit_topics damage_topics warning_topics result_topics general_topics
words_have why.NoCommand = refl
words_have why.UnknownCommand = refl
words_have why.UnknownOption = refl
words_have why.MissingValue = refl
words_have why.BadValue = refl
words_have why.RepeatedOption = refl
words_have why.ExtraWord = refl
words_have why.NoOutput = refl
words_have why.NoInput = refl
words_have why.DanglingOption = refl
words_have why.AppendFirst = refl
words_have why.RepeatedOutput = refl
words_have why.TooManyInputs = refl
words_have why.NeedsUuids = refl
words_have why.NoSuchFile = refl

edits_have : (w : EditRefusal) → IsSome (page_of (edit_why_name w))
unfolding word_topics refusal_topics edit_topics damage_topics warning_topics result_topics general_topics
edits_have edit.NoInfo = refl
edits_have edit.NoSuchTrack = refl
edits_have edit.NoSuchProperty = refl
edits_have edit.BadPropertyValue = refl
edits_have edit.AlreadyThere = refl
edits_have edit.Mandatory = refl

rooms_have : (r : Room) → IsSome (page_of (room_name r))
unfolding word_topics refusal_topics edit_topics damage_topics warning_topics result_topics general_topics
rooms_have room.Tail = refl
rooms_have room.Twin = refl
rooms_have room.SeekHead = refl
rooms_have room.SegmentSize = refl

-- ---- lines

-- texts one after another, cut before the last
cut3 : (a b c rest : List ℕ) → a ++ (b ++ (c ++ rest)) ≡ (a ++ (b ++ c)) ++ rest
cut3 a b c rest = ap (λ more. a ++ more) (sym (append_assoc b c rest)) ∙ sym (append_assoc a (b ++ c) rest)

cut5 : (a b c d e rest : List ℕ) → a ++ (b ++ (c ++ (d ++ (e ++ rest)))) ≡ (a ++ (b ++ (c ++ (d ++ e)))) ++ rest
cut5 a b c d e rest = ap (λ more. a ++ (b ++ more)) (cut3 c d e rest) ∙ cut3 a b (c ++ (d ++ e)) rest

-- a word after `head`, a name and a colon
named : (head name word after : List ℕ) → Contains (head ++ (name ++ (codes ": " ++ (word ++ after)))) word
named head name word after = record { before = head ++ (name ++ codes ": "); after = after; is = cut3 head name (codes ": ") (word ++ after) }

-- a word after `head`, a name, a colon and a number
counted : (head name number word after : List ℕ) → Contains (head ++ (name ++ (codes ": " ++ (number ++ (codes " " ++ (word ++ after)))))) word
counted head name number word after =
    record { before = head ++ (name ++ (codes ": " ++ (number ++ codes " "))); after = after; is = cut5 head name (codes ": ") number (codes " ") (word ++ after) }

-- a word at the start
first : (word after : List ℕ) → Contains (word ++ after) word
first word after = record { before = []; after = after; is = refl }

lines_have : (l : Line) → IfSome (word_of l) (IsExplained (text_of l))
unfolding word_topics refusal_topics edit_topics damage_topics warning_topics result_topics general_topics
lines_have (line.Level0 header) = tt
lines_have (line.Level1 header) = tt
lines_have (line.Track track) = tt
lines_have (line.Refused name d) = record {
  has = named (codes "error: ") (shown_text name.now) (kind_name d.kind) (codes ", element " ++ (damaged_id d.id ++ (codes ", offset " ++ decimal d.offset)));
  page = kinds_have d.kind;
}
lines_have (line.Warned name d) = record {
  has = named (codes "warning: ") (shown_text name.now) (kind_name d.kind) (codes ", element " ++ (damaged_id d.id ++ (codes ", offset " ++ decimal d.offset)));
  page = kinds_have d.kind;
}
lines_have (line.MoreDamages name more) = record { has = counted (codes "warning: ") (shown_text name.now) (decimal more) (codes "more") (codes " damages"); page = refl }
lines_have (line.MoreBadFrames name more) = record { has = counted (codes "warning: ") (shown_text name.now) (decimal more) (codes "more") (codes " bad frames"); page = refl }
lines_have (line.NoTrack name number) = record { has = named (codes "warning: ") (shown_text name.now) (codes "no") (codes " track " ++ decimal number); page = refl }
lines_have (line.NoAttachment name number) = record { has = named (codes "warning: ") (shown_text name.now) (codes "no") (codes " attachment " ++ decimal number); page = refl }
lines_have (line.NoExtractor name number) = record { has = named (codes "error: ") (shown_text name.now) (codes "NoExtractor") (codes ", track " ++ decimal number); page = refl }
lines_have (line.BadConfig name number) = record { has = named (codes "error: ") (shown_text name.now) (codes "BadConfig") (codes ", track " ++ decimal number); page = refl }
lines_have (line.Missing name) = record { has = named (codes "error: ") (shown_text name.now) (codes "Missing") ([]); page = refl }
lines_have (line.BadText name n) = record { has = named (codes "error: ") (shown_text name.now) (codes "BadText") (codes ", line " ++ decimal n); page = refl }
lines_have (line.TextTooLarge name) = record { has = named (codes "error: ") (shown_text name.now) (codes "TextTooLarge") ([]); page = refl }
lines_have (line.FileTooLarge name) = record { has = named (codes "error: ") (shown_text name.now) (codes "FileTooLarge") ([]); page = refl }
lines_have (line.PendingEdit name) = record { has = named (codes "error: ") (shown_text name.now) (codes "PendingEdit") (codes ", run recover"); page = refl }
lines_have (line.OutputIsInput name) = record { has = named (codes "error: ") (shown_text name.now) (codes "OutputIsInput") ([]); page = refl }
lines_have (line.AppendDiffers name id) = record { has = named (codes "error: ") (shown_text name.now) (codes "AppendDiffers") (element_text id); page = refl }
lines_have line.NoLane = record { has = record { before = codes "error: "; after = []; is = refl }; page = refl }
lines_have line.TooManyLanes = record { has = record { before = codes "error: "; after = []; is = refl }; page = refl }
lines_have (line.NotWebm codec) = record { has = record { before = codes "error: "; after = codes ", " ++ shown_text codec.now; is = refl }; page = refl }
lines_have (line.TooLarge name id) = record { has = named (codes "error: ") (shown_text name.now) (codes "HeaderTooLarge") (element_text id); page = refl }
lines_have (line.Wrote name) = record { has = first (codes "wrote") (codes " " ++ shown_text name.now); page = refl }
lines_have (line.WroteBlocks name blocks) = record { has = first (codes "wrote") (codes " " ++ (shown_text name.now ++ (codes ": " ++ (decimal blocks ++ codes " blocks")))); page = refl }
lines_have (line.Generated n blocks clusters cues parts) = record { has = record { before = []; after = drop 9 (generated_line n blocks clusters cues parts); is = refl }; page = refl }
lines_have (line.UuidCount uuids outputs) = record { has = record { before = codes "warning: " ++ (decimal uuids ++ codes " "); after = codes " identifiers, " ++ (decimal outputs ++ codes " parts"); is = cut3 (codes "warning: ") (decimal uuids) (codes " ") (codes "segment identifiers, " ++ (decimal outputs ++ codes " parts")) }; page = refl }
lines_have (line.Edited name) = record { has = first (codes "edited") (codes " " ++ shown_text name.now); page = refl }
lines_have (line.Reindexed name cues) = record { has = record { before = []; after = drop 9 (reindexed_line name.now cues); is = refl }; page = refl }
lines_have (line.EditRefused name why edit) = record { has = record { before = []; after = drop 5 (edit_refused_line name.now why.now edit); is = refl }; page = refl }
lines_have (line.NoRoom name why need have) = record { has = named (codes "error: ") (shown_text name.now) (codes "NoRoom") (codes ", " ++ (why.now ++ (codes ", need " ++ (decimal need ++ (codes ", have " ++ decimal have))))); page = refl }
lines_have (line.EditTooLarge name length nodes) = record { has = named (codes "error: ") (shown_text name.now) (codes "EditTooLarge") (codes ", length " ++ (decimal length ++ (codes ", nodes " ++ decimal nodes))); page = refl }
lines_have (line.Recovered name) = record { has = first (codes "recovered") (codes " " ++ shown_text name.now); page = refl }
lines_have (line.NothingToRecover name) = record { has = first (codes "nothing") (codes " to recover in " ++ shown_text name.now); page = refl }
lines_have (line.BadSidecar name offset) = record { has = named (codes "error: ") (shown_text name.now) (codes "BadSidecar") (codes ", offset " ++ decimal offset); page = refl }
lines_have (line.Foreign name mark kept found) = record { has = named (codes "error: ") (shown_text name.now) (codes "Foreign") (codes ", " ++ (mark_text mark ++ (codes ", kept " ++ (decimal kept ++ (codes ", found " ++ decimal found))))); page = refl }
lines_have (line.Word word why) = record { has = record { before = codes "error: "; after = codes " " ++ (decimal word ++ (codes ": " ++ why.now)); is = refl }; page = refl }
lines_have line.FilesFault = record { has = record { before = codes "fault: "; after = []; is = refl }; page = refl }

pub words-have-pages : WordsHavePages
unfolding word_topics refusal_topics edit_topics damage_topics warning_topics result_topics general_topics
words-have-pages = record {
  kinds = kinds_have;
  words = words_have;
  edits = edits_have;
  rooms = rooms_have;
  lines = lines_have;
  disk = record { has = record { before = codes "fault: "; after = []; is = refl }; page = refl };
}

-- ---- names differ

lacks : List ℕ → List (List ℕ) → Bool
lacks name [] = true
lacks name (other ∷ others) = not (is_same_name name other) && lacks name others

are_distinct : List (List ℕ) → Bool
are_distinct [] = true
are_distinct (name ∷ names) = lacks name names && are_distinct names

both : (a b : Bool) → (a && b) ≡ true → (a ≡ true) × (b ≡ true)
both true b is = (refl, is)
both false b is = absurd (cc)

not-true : (b : Bool) → not b ≡ true → b ≡ false
not-true true is = absurd (cc)
not-true false is = refl

lacks-all : (name : List ℕ) (others : List (List ℕ)) → lacks name others ≡ true → AllByRecursion (λ other. is_same_name name other ≡ false) others
unfolding lacks
lacks-all name [] is = tt
lacks-all name (other ∷ others) is =
    let each = both (not (is_same_name name other)) (lacks name others) is in
    (not-true (is_same_name name other) each.0, lacks-all name others each.1)

distinct : (names : List (List ℕ)) → are_distinct names ≡ true → IsDistinct is_same_name names
unfolding are_distinct IsDistinct
distinct [] is = tt
distinct (name ∷ names) is =
    let each = both (lacks name names) (are_distinct names) is in
    (lacks-all name names each.0, distinct names each.1)

pub names-differ : NamesDiffer
unfolding lacks are_distinct word_topics refusal_topics edit_topics damage_topics warning_topics result_topics general_topics
names-differ = distinct (map (λ (t : Topic). t.name) topics) refl
