-- The words of messages that have a page in `explain`. They are this project's.
use Rattle.std.specs.Prelude.{◌≡◌, ℕ, List, ◌++◌, map, codes, Option, Some, None, IfSome, IsSome}
use Rattle.std.specs.List.{IsDistinct}
use Rattle.mkv_io.specs.Kind.{kind_name}
use Rattle.mkv_io.specs.declared.damage.Kind.{Kind}
use Rattle.word_values.specs.Why.{why_name}
use Rattle.word_values.specs.declared.usage.Why.{Why}
use Rattle.edit_changes.specs.declared.refusal.EditRefusal.{EditRefusal}
use Rattle.edit_changes.specs.declared.refusal.Room.{Room}
use Rattle.mkv_args.specs.Explain.{Topic, is_same_name, page_of, topics}
use Rattle.mkv_lines.specs.Line.{disk_fault_line, text_of}
use Rattle.mkv_lines.specs.declared.line.Line.{Line}
use Rattle.mkv_lines.specs.declared.line.Line.TheVariants as line
use Rattle.mkv_propedit.specs.Propedit.{room_name, why_name as edit_why_name}

-- The line `text` of a message contains `word`, with the bytes `before` before it and `after` after it. The law on pages of `explain` cites it.
pub record Contains (text word : List ℕ) : Type 0 where
  pub before : List ℕ
  pub after : List ℕ
  pub is : text ≡ before ++ (word ++ after)

-- The line `text` of a message contains `word`, and `explain` has a page for this word. The law on pages of `explain` cites it.
pub record IsExplained (text word : List ℕ) : Type 0 where
  pub has : Contains text word
  pub page : IsSome (page_of word)

-- the word of a message, a line that a command prints, that `explain` has a page for: the name of the error, or else the first word of the line.
-- Lines that list a file's Elements and tracks have none (None).
abbrev pub word_of : Line → Option (List ℕ)
word_of (line.Level0 header) = None
word_of (line.Level1 header) = None
word_of (line.Track track) = None
word_of (line.Refused name damage) = Some (kind_name damage.kind)
word_of (line.Warned name damage) = Some (kind_name damage.kind)
word_of (line.MoreDamages name more) = Some (codes "more")
word_of (line.MoreBadFrames name more) = Some (codes "more")
word_of (line.NoTrack name number) = Some (codes "no")
word_of (line.NoAttachment name number) = Some (codes "no")
word_of (line.NoExtractor name number) = Some (codes "NoExtractor")
word_of (line.BadConfig name number) = Some (codes "BadConfig")
word_of (line.Missing name) = Some (codes "Missing")
word_of (line.BadText name n) = Some (codes "BadText")
word_of (line.TextTooLarge name) = Some (codes "TextTooLarge")
word_of (line.FileTooLarge name) = Some (codes "FileTooLarge")
word_of (line.PendingEdit name) = Some (codes "PendingEdit")
word_of (line.OutputIsInput name) = Some (codes "OutputIsInput")
word_of (line.AppendDiffers name id) = Some (codes "AppendDiffers")
word_of line.NoLane = Some (codes "NoLane")
word_of line.TooManyLanes = Some (codes "TooManyLanes")
word_of (line.NotWebm codec) = Some (codes "NotWebm")
word_of (line.TooLarge name id) = Some (codes "HeaderTooLarge")
word_of (line.Wrote name) = Some (codes "wrote")
word_of (line.WroteBlocks name blocks) = Some (codes "wrote")
word_of (line.Generated n blocks clusters cues parts) = Some (codes "generated")
word_of (line.UuidCount uuids outputs) = Some (codes "segment")
word_of (line.Edited name) = Some (codes "edited")
word_of (line.Reindexed name cues) = Some (codes "reindexed")
word_of (line.EditRefused name why edit) = Some (codes "error")
word_of (line.NoRoom name why need have) = Some (codes "NoRoom")
word_of (line.EditTooLarge name length nodes) = Some (codes "EditTooLarge")
word_of (line.Recovered name) = Some (codes "recovered")
word_of (line.NothingToRecover name) = Some (codes "nothing")
word_of (line.BadSidecar name offset) = Some (codes "BadSidecar")
word_of (line.Foreign name mark kept found) = Some (codes "Foreign")
word_of (line.Word word why) = Some (codes "word")
word_of line.FilesFault = Some (codes "files")

-- Law on `explain`: each word of a message has a page. It is a kind of damage, an error in a command line, a reason to refuse an edit, or a kind of
-- missing room. So has a word of each line that a command prints.
pub record WordsHavePages : Type 0 where
  pub kinds : (kind : Kind) → IsSome (page_of (kind_name kind))
  pub words : (why : Why) → IsSome (page_of (why_name why))
  pub edits : (why : EditRefusal) → IsSome (page_of (edit_why_name why))
  pub rooms : (room : Room) → IsSome (page_of (room_name room))
  pub lines : (l : Line) → IfSome (word_of l) (IsExplained (text_of l))
  pub disk : IsExplained disk_fault_line (codes "disk")

-- Law on `explain`: no two pages have the same name, in upper or lower case.
abbrev pub NamesDiffer : Type 0
NamesDiffer = IsDistinct is_same_name (map (λ (t : Topic). t.name) topics)
