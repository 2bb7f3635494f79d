-- Texts in the options of a merge.
use Rattle.std.specs.Prelude.{ℕ, List, All, IfSome}
use Rattle.std.specs.Str.{IsUtf8}
use Rattle.requests.specs.declared.merge.FileWords.{FileWords}
use Rattle.requests.specs.declared.merge.MergeWords.{MergeWords}

-- The names, languages and language tags that options set for tracks of the input `file` are UTF-8. Used by `AreTexts`.
pub record HasTexts (file : FileWords) : Type 0 where
  pub names : All (λ (given : ℕ × List ℕ). IsUtf8 given.1) file.names
  pub languages : All (λ (given : ℕ × List ℕ). IsUtf8 given.1) file.languages
  pub language_tags : All (λ (given : ℕ × List ℕ). IsUtf8 given.1) file.language_tags

-- The title in the options `words` of a merge, if one is set, and the texts of each input are UTF-8. A condition of the laws on what a merge writes.
pub record AreTexts (words : MergeWords) : Type 0 where
  pub title : IfSome words.title IsUtf8
  pub files : All HasTexts words.files
