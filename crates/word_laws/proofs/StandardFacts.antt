-- Commands with their canonical command lines, computed: a wrong definition doesn't check. The lines were written by hand.
use Rattle.std.proofs.Common.{◌≢◌, ◌<◌, ◌^◌, inl, arith, ◌≡◌, ℕ, ◌==◌, true, false, List, [], ◌∷◌, codes, Some, map, refl, pos, neg_ℤ}
use Rattle.std.specs.List.{slice_split}
use Rattle.std.specs.Fmt.{digits}
use Rattle.requests.specs.declared.edit.Change.TheVariants.{Set, Delete}
use Rattle.requests.specs.declared.edit.Selector.TheVariants.{Info, Typed}
use Rattle.requests.specs.declared.job.Form.TheVariants as form
use Rattle.requests.specs.declared.job.Job.TheVariants as jobs
use Rattle.requests.specs.declared.track.Select.TheVariants.{AllBut, Off}
use Rattle.requests.specs.declared.split.SplitWords.TheVariants as splits
use Rattle.requests.specs.declared.track.CueWord.TheVariants.{Never}
use Rattle.mkv_args.specs.declared.command.Command.TheVariants as commands
use Rattle.mkv_args.specs.declared.commands.Verb.TheVariants as verb
use Rattle.word_laws.specs.Values.{HasFewDigits, last_digits}
use Rattle.word_laws.specs.Spelled.{spelled}
use Rattle.std.proofs.lemmas.List.Elements.{All-nil, All-cons}
use Rattle.std.proofs.lemmas.Slice.Eq.{bytes_eq-Decides}
use Rattle.std.specs.Str.{bytes_eq}
use Rattle.requests.specs.Plain.{no_flags, plain_file, plain_words}
use Rattle.requests.specs.declared.merge.AttachedWords.{AttachedWords}
use Rattle.requests.specs.declared.merge.FileWords.{FileWords}
use Rattle.requests.specs.declared.merge.MergeWords.{MergeWords}
use Rattle.word_laws.specs.SpellableMerge.{AreOfTracks, IsDelay, IsText, IsLanguage, IsLanguageTag, IsMergeFile, IsAttachable, IsSpellableMerge}

-- the arguments of a line, separated by one space each
abbrev words : List ℕ → List (List ℕ)
words line = slice_split (λ b. b == 32) line

pub simple_commands : map spelled (
    commands.Help (Some verb.Merge) ∷
    commands.Info (codes "f.mkv") ∷
    commands.Identify (codes "f.mkv") ∷
    commands.Generate 500 (codes "g") ∷
    commands.Extract (codes "f.mkv") (jobs.Tracks form.Raw (record { id = 0; name = codes "a:b" } ∷ record { id = 12; name = codes "c" } ∷ [])) ∷
    commands.Propedit (codes "f.mkv") (record { place = Info; change = Set; name = codes "title"; value = codes "x=y" } ∷ record { place = Typed 17 2; change = Delete; name = codes "name"; value = [] } ∷ []) ∷ [])
    ≡ map words (
    codes "merge --help" ∷
    codes "info f.mkv" ∷
    codes "merge -J f.mkv" ∷
    codes "generate 500 g" ∷
    codes "extract f.mkv tracks --raw 0:a:b 12:c" ∷
    codes "propedit f.mkv --edit info --set title=x=y --edit track:s2 --delete name" ∷ [])
unfolding digits
simple_commands = refl

-- a file with options for it and for its tracks
abbrev first_file : FileWords
first_file = record (plain_file (codes "f.mkv")) {
  audio = Off;
  subtitles = AllBut (1 ∷ 3 ∷ []);
  chapters = false;
  keep_encodings = true;
  syncs = (0, neg_ℤ (pos 20000000)) ∷ [];
  languages = (0, codes "eng") ∷ [];
  language_tags = (0, codes "en-GB") ∷ [];
  forced = (2, true) ∷ [];
  flags = record no_flags { commentary = (2, false) ∷ [] };
  cues = (0, Never) ∷ [];
  named = 1 ∷ 3 ∷ 0 ∷ 2 ∷ [];
}

-- a file that is appended
abbrev second_file : FileWords
second_file = record (plain_file (codes "g.mkv")) { appended = true }

-- a file that is attached
abbrev font : AttachedWords
font = record { file = codes "f.ttf"; name = codes "F.ttf"; media_type = codes "font/ttf"; description = codes "d" }

abbrev merging : MergeWords
merging = record (plain_words (codes "o.mkv") (Some (splits.Duration 3723500000000)) (first_file ∷ second_file ∷ [])) {
  title = Some (codes "x");
  span = 250000000;
  uuids = 10 ∷ [];
  link = true;
  attached = font ∷ [];
  order = (0, 12) ∷ (0, 0) ∷ [];
}

abbrev merge_line : List ℕ
merge_line = codes "merge --output o.mkv --title x --cluster-length 250ms --split duration:1:02:03.500000000 --segment-uid 0000000000000000000000000000000a --link --track-order 0:12,0:0 --attachment-name F.ttf --attachment-mime-type font/ttf --attachment-description d --attach-file f.ttf --no-audio --subtitle-tracks !1,3 --no-chapters --keep-encodings --sync 0:-20 --language 0:eng --language-ietf 0:en-GB --forced-display-flag 2:1 --commentary-flag 2:0 --cues 0:none f.mkv + g.mkv"

pub a_merge : spelled (commands.Merge merging) ≡ words merge_line
unfolding digits last_digits
a_merge = refl

-- The command has a canonical command line.
none_said : {X : Type 0} (Is : X → Type 0) → AreOfTracks {X = X} Is []
none_said {X} Is = record { apart = refl; short = All-nil (λ (p : ℕ × X). HasFewDigits p.0); each = All-nil (λ (p : ℕ × X). Is p.1) }

one_said : {X : Type 0} (Is : X → Type 0) (id : ℕ) (x : X) → HasFewDigits id → Is x → AreOfTracks Is ((id, x) ∷ [])
one_said {X} Is id x short is = record {
  apart = refl;
  short = All-cons (λ (p : ℕ × X). HasFewDigits p.0) (id, x) [] short (All-nil (λ (p : ℕ × X). HasFewDigits p.0));
  each = All-cons (λ (p : ℕ × X). Is p.1) (id, x) [] is (All-nil (λ (p : ℕ × X). Is p.1));
}

no_plus : (name : List ℕ) → bytes_eq name (codes "+") ≡ false → name ≢ codes "+"
no_plus name other same = let e = (bytes_eq-Decides name (codes "+")).1 same in cc

first_spelled : IsMergeFile first_file
first_spelled = record {
  name = record { file = refl; joins = no_plus (codes "f.mkv") refl };
  video = tt;
  audio = tt;
  subtitles = record { some = omega arith; short = All-cons HasFewDigits 1 (3 ∷ []) (omega arith) (All-cons HasFewDigits 3 [] (omega arith) (All-nil HasFewDigits)) };
  syncs = one_said IsDelay 0 (neg_ℤ (pos 20000000)) (omega arith) refl;
  names = none_said IsText;
  languages = one_said IsLanguage 0 (codes "eng") (omega arith) refl;
  language_tags = one_said IsLanguageTag 0 (codes "en-GB") (omega arith) refl;
  defaults = none_said (λ flag. Unit {0});
  forced = one_said (λ flag. Unit {0}) 2 true (omega arith) tt;
  enabled = none_said (λ flag. Unit {0});
  hearing_impaired = none_said (λ flag. Unit {0});
  visual_impaired = none_said (λ flag. Unit {0});
  text_descriptions = none_said (λ flag. Unit {0});
  original = none_said (λ flag. Unit {0});
  commentary = one_said (λ flag. Unit {0}) 2 false (omega arith) tt;
  cues = one_said (λ cue. Unit {0}) 0 Never (omega arith) tt;
  times = none_said (λ name. Unit {0});
  named = refl;
}

second_spelled : IsMergeFile second_file
second_spelled = record {
  name = record { file = refl; joins = no_plus (codes "g.mkv") refl };
  video = tt;
  audio = tt;
  subtitles = tt;
  syncs = none_said IsDelay;
  names = none_said IsText;
  languages = none_said IsLanguage;
  language_tags = none_said IsLanguageTag;
  defaults = none_said (λ flag. Unit {0});
  forced = none_said (λ flag. Unit {0});
  enabled = none_said (λ flag. Unit {0});
  hearing_impaired = none_said (λ flag. Unit {0});
  visual_impaired = none_said (λ flag. Unit {0});
  text_descriptions = none_said (λ flag. Unit {0});
  original = none_said (λ flag. Unit {0});
  commentary = none_said (λ flag. Unit {0});
  cues = none_said (λ cue. Unit {0});
  times = none_said (λ name. Unit {0});
  named = refl;
}

font_spelled : IsAttachable font
font_spelled = record { some = omega arith; name = refl; media_type = refl; description = refl }

abbrev IsShort : ℕ × ℕ → Type 0
IsShort track = HasFewDigits track.0 × HasFewDigits track.1

pub a_merge_is_spelled : IsSpellableMerge merging
a_merge_is_spelled = record {
  title = refl;
  length = inl refl;
  milliseconds = refl;
  split = tt;
  uuids = All-cons (λ u. u < 2 ^ 128) 10 [] (omega arith) (All-nil (λ u. u < 2 ^ 128));
  link = omega arith;
  attached = All-cons IsAttachable font [] font_spelled (All-nil IsAttachable);
  few = omega arith;
  order = record {
    differ = refl;
    short = All-cons IsShort (0, 12) ((0, 0) ∷ []) (omega arith, omega arith) (All-cons IsShort (0, 0) [] (omega arith, omega arith) (All-nil IsShort));
    begin = refl;
  };
  files = All-cons IsMergeFile first_file (second_file ∷ []) first_spelled (All-cons IsMergeFile second_file [] second_spelled (All-nil IsMergeFile));
}
