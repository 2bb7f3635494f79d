-- Files of several names that are only read.
use Rattle.std.proofs.Common.{◌≡◌, ◌≢◌, ℕ, ◌<◌, List, [], ◌∷◌, ◌++◌, length, get_or, map, sym, ◌∙◌, ap, subst}
use Rattle.mkv_io.specs.Names.{AreOthers}
use Rattle.mkv_io.specs.declared.reads.Reads.{Ghosts}
use Rattle.mkv_io.specs.declared.files.Files as writing
use Rattle.mkv_io.proofs.NamesLemmas.{others-behind, others-front}
use Rattle.sidecar_edit.specs.Name.{sidecar_of}
use Rattle.sidecar_edit.specs.Pending.{LooksOnly}
use Rattle.sidecar_edit.proofs.LooksLemmas.{LooksOnly-more, LooksOnly-then}
use Rattle.requests.specs.declared.merge.FileWords.{FileWords}
use Rattle.input_files.specs.Inputs.{file_names}
use Rattle.input_files.specs.TimesFile.{times_names}
use Rattle.input_files.specs.declared.times_file.TimesName.{TimesName}
use Rattle.input_files.proofs.NamesLemmas.{others-sidecar}

-- Files of some names were read, then files of others.
pub LooksOnly-both : {S : Type 0} (r : Ghosts S) (f : writing.Ghosts S) (first next : List (List ℕ)) (a b c : S) → LooksOnly r f first a b → LooksOnly r f next b c → LooksOnly r f (first ++ next) a c
LooksOnly-both r f first next a b c looked looks =
    LooksOnly-then r f (first ++ next) a b c
    (LooksOnly-more r f first (first ++ next) a b (λ name others. others-front name first next others) looked)
    (LooksOnly-more r f next (first ++ next) b c (λ name others. others-behind name first next others) looks)

-- One name differs from another.
other-alone : (name at other : List ℕ) → at ≡ name → name ≢ other → AreOthers other (at ∷ [])
other-alone name at other is differs = (λ same. differs (sym is ∙ same), tt)

-- The journal of one more input was read.
pub LooksOnly-sidecar : {S : Type 0} (r : Ghosts S) (f : writing.Ghosts S) (words : List FileWords) (k : ℕ) (w : FileWords) (name : List ℕ) (a b c : S) → k < length words → w ≡ get_or words k w → name ≡ w.name
    → LooksOnly r f (map sidecar_of (file_names words)) a b → LooksOnly r f (sidecar_of name ∷ []) b c → LooksOnly r f (map sidecar_of (file_names words)) a c
LooksOnly-sidecar r f words k w name a b c below is named looked looks =
    let all : List (List ℕ) = map sidecar_of (file_names words) in
    LooksOnly-then r f all a b c looked
    (LooksOnly-more r f (sidecar_of name ∷ []) all b c (λ other others. other-alone (sidecar_of w.name) (sidecar_of name) other (ap sidecar_of named) (others-sidecar other words k w below is others)) looks)

-- Names outside all timestamp files are outside the ones that are left.
abbrev pub AreAmong : List TimesName → List TimesName → Type 0
AreAmong left all = (name : List ℕ) → AreOthers name (times_names all) → AreOthers name (times_names left)

-- The first one is read, and the others are left.
pub among-rest : (all left rest : List TimesName) (n : TimesName) → left ≡ n ∷ rest → AreAmong left all → AreAmong (n ∷ rest) all
among-rest all left rest n is among = subst (λ (each : List TimesName). AreAmong each all) is among

-- One more timestamp file was read.
pub LooksOnly-times : {S : Type 0} (r : Ghosts S) (f : writing.Ghosts S) (all left rest : List TimesName) (n : TimesName) (name : List ℕ) (a b c : S) → left ≡ n ∷ rest → name ≡ n.name → AreAmong left all
    → LooksOnly r f (times_names all) a b → LooksOnly r f (name ∷ []) b c → LooksOnly r f (times_names all) a c
LooksOnly-times r f all left rest n name a b c is named among looked looks =
    LooksOnly-then r f (times_names all) a b c looked
    (LooksOnly-more r f (name ∷ []) (times_names all) b c (λ other others. other-alone n.name name other named (among-rest all left rest n is among other others).0) looks)
