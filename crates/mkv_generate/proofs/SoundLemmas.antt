-- The command lines of both merges keep their limits.
use Rattle.std.proofs.Common.{◌≡◌, ◌≢◌, ℕ, List, [], ◌∷◌, get_or, refl, sym, ap, subst, arith}
use Rattle.std.proofs.lemmas.List.Elements.{All-cons, All-nil}
use Rattle.requests.specs.Sound.{IsSoundFile, IsSoundMerge}
use Rattle.requests.specs.declared.merge.MergeWords.{MergeWords}
use Rattle.mkv_generate.specs.declared.names.Names as own
use Rattle.mkv_generate.specs.Generate.{both_words, names_of, parts_words}
use Rattle.requests.specs.Plain.{plain_file}

-- An input without options keeps its limits.
file-sound : (name : List ℕ) → IsSoundFile (plain_file name)
file-sound name = record { delays = λ k d below. absurd (omega arith) }

pub both-sound : (names : own.Names) → IsSoundMerge (both_words names)
both-sound names = record {
  scale = record { least = omega arith; most = omega arith };
  blocks = record { least = omega arith; most = omega arith };
  span = record { least = omega arith; most = omega arith };
  split = tt;
  uuids = record { few = omega arith; differ = refl };
  files = record { least = omega arith; most = omega arith };
  first = refl;
  each = All-cons IsSoundFile (plain_file names.pictures) (plain_file names.sounds ∷ []) (file-sound names.pictures) (All-cons IsSoundFile (plain_file names.sounds) [] (file-sound names.sounds) (All-nil IsSoundFile));
}

pub parts-sound : (names : own.Names) → IsSoundMerge (parts_words names)
parts-sound names = record {
  scale = record { least = omega arith; most = omega arith };
  blocks = record { least = omega arith; most = omega arith };
  span = record { least = omega arith; most = omega arith };
  split = record { least = omega arith; most = omega arith };
  uuids = record { few = omega arith; differ = refl };
  files = record { least = omega arith; most = omega arith };
  first = refl;
  each = All-cons IsSoundFile (plain_file names.both) [] (file-sound names.both) (All-nil IsSoundFile);
}

-- A command line that equals a valid one is valid.
pub sound-as : (words these : MergeWords) → words ≡ these → IsSoundMerge these → IsSoundMerge words
sound-as words these same sound = subst IsSoundMerge (sym same) sound

-- Different ends after one prefix make different names.
pub names-apart : (prefix : List ℕ) → (names_of prefix).pictures ≢ (names_of prefix).sounds
names-apart [] same = let second : 97 ≡ 98 = ap (λ (name : List ℕ). get_or name 1 0) same in absurd (omega (arith, second))
names-apart (x ∷ prefix) same = names-apart prefix (let behind : (names_of prefix).pictures ≡ (names_of prefix).sounds = cc in behind)
