-- A merge without options is read, by either spelling of its output option.
use Rattle.std.proofs.Common.{◌∙◌, ℕ, List, [], ◌∷◌, None, inl, refl, arith}
use Rattle.std.proofs.lemmas.List.Elements.{All-cons, All-nil}
use Rattle.requests.specs.declared.merge.MergeWords.{MergeWords}
use Rattle.requests.specs.Plain.{plain_file, plain_words}
use Rattle.requests.specs.Sound.{IsSoundFile, IsSoundMerge}
use Rattle.merge_words.specs.Items.{item_at, option_at}
use Rattle.merge_words.specs.Merge.{items, merged}
use Rattle.merge_words.specs.Options.{meaning_of, table}
use Rattle.mkv_args.specs.Commands.{commands as verbs}
use Rattle.mkv_args.specs.Merge.{merge}
use Rattle.mkv_args.specs.Words.{command, command_named, first_command}
use Rattle.word_laws.specs.Laws.{PlainMergeIsRead, ShortOutputIsRead}
use Rattle.word_laws.specs.Names.{IsInputName}
use Rattle.word_laws.specs.SpellableMerge.{AreOfTracks, IsMergeFile, IsSpellableMerge}
use Rattle.word_laws.proofs.MergedLemmas.{merge_read}

pub short_read : ShortOutputIsRead
unfolding command first_command command_named verbs merge merged items item_at option_at meaning_of table
short_read output rest = refl

none-of : {X : Type 0} (Is : X → Type 0) → AreOfTracks Is []
none-of {X} Is = record { apart = refl; short = All-nil _; each = All-nil _ }

file-sound : (name : List ℕ) → IsSoundFile (plain_file name)
file-sound name = record { delays = All-nil _ }

file-spelled : (name : List ℕ) → IsInputName name → IsMergeFile (plain_file name)
file-spelled name input = record {
  name = input;
  video = tt;
  audio = tt;
  subtitles = tt;
  syncs = none-of _;
  names = none-of _;
  languages = none-of _;
  language_tags = none-of _;
  defaults = none-of _;
  forced = none-of _;
  enabled = none-of _;
  hearing_impaired = none-of _;
  visual_impaired = none-of _;
  text_descriptions = none-of _;
  original = none-of _;
  commentary = none-of _;
  cues = none-of _;
  times = none-of _;
  named = refl;
}

module _ (output name : List ℕ) where
  plain : MergeWords
  plain = plain_words output None (plain_file name ∷ [])

  plain-sound : IsSoundMerge plain
  unfolding plain
  plain-sound = record {
    scale = record { least = omega arith; most = omega arith };
    blocks = record { least = omega arith; most = omega arith };
    span = record { least = omega arith; most = omega arith };
    split = tt;
    uuids = record { few = omega arith; differ = refl };
    files = record { least = omega arith; most = omega arith };
    first = refl;
    each = All-cons IsSoundFile (plain_file name) [] (file-sound name) (All-nil IsSoundFile);
  }

  plain-spelled : IsInputName name → IsSpellableMerge plain
  unfolding plain
  plain-spelled input = record {
    title = tt;
    length = inl refl;
    milliseconds = refl;
    split = tt;
    uuids = All-nil _;
    link = tt;
    attached = All-nil _;
    few = omega arith;
    order = record { differ = refl; short = All-nil _; begin = refl };
    files = All-cons IsMergeFile (plain_file name) [] (file-spelled name input) (All-nil IsMergeFile);
  }

pub plain_read : PlainMergeIsRead
unfolding plain
plain_read output name input = short_read output (name ∷ []) ∙ merge_read (plain output name) (plain-sound output name) (plain-spelled output name input)
