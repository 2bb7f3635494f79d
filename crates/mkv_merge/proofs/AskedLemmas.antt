-- The calls for files that a merge makes, in sequence.
use Rattle.std.proofs.Common.{◌≡◌, ℕ, Bool, false, if◌then◌else◌, List, [], ◌∷◌, ◌++◌, map, Option, Some, None, ◌∙◌, ap₂, subst}
use Rattle.std.specs.Prelude.{is_some}
use Rattle.mkv_io.specs.Asked.{AsksOnly, IsNotAmong}
use Rattle.mkv_io.specs.Names.{AreOthers}
use Rattle.mkv_io.specs.declared.asked.Asked.{Asked}
use Rattle.mkv_io.specs.declared.asked.Asked.TheVariants.{Made, Opened}
use Rattle.mkv_io.specs.declared.files.Files as writing
use Rattle.mkv_io.specs.declared.reads.Reads.{Ghosts}
use Rattle.mkv_io.proofs.AskedLemmas.{asks-both, asks-fewer, asks-none}
use Rattle.mkv_io.proofs.NamesLemmas.{others-behind, others-front}
use Rattle.sidecar_edit.specs.Name.{sidecar_of}
use Rattle.sidecar_edit.specs.Pending.{LooksOnly}
use Rattle.sidecar_edit.proofs.LooksLemmas.{LooksOnly-more}
use Rattle.requests.specs.declared.split.SplitWords.{SplitWords}
use Rattle.remux_plan.specs.Parts.{may_be_written}
use Rattle.remux_plan.specs.Parts.{is_split as planned_split}
use Rattle.remux_plan.specs.declared.plan.MergePlan.{MergePlan}
use Rattle.remuxer.specs.Output.{IsNotMade, KeepsUnwritten}
use Rattle.remuxer.proofs.OutputsLemmas.{unwritten-asks}
use Rattle.requests.specs.declared.merge.FileWords.{FileWords}
use Rattle.requests.specs.declared.merge.MergeWords.{MergeWords}
use Rattle.input_files.specs.Inputs.{file_names}
use Rattle.input_files.specs.TextFiles.{text_names}
use Rattle.merge_inputs.specs.declared.input.Input.{Input}
use Rattle.merge_plan.specs.Planned.{IsPlanOf}
use Rattle.mkv_merge.specs.Asked.{AsksToMerge, IsBesidesMerge, opened_by, sidecars_of}
use Rattle.mkv_merge.specs.Opened.{opened_names}
use Rattle.mkv_merge.specs.Read.{is_split}
use Rattle.mkv_merge.proofs.WritingLemmas.{plan-split}

-- ---- calls in sequence

-- Nothing is called.
pub merge-asks-none : (opened : List (List ℕ)) (words : MergeWords) (old new : List Asked) → new ≡ old → AsksToMerge opened words old new
merge-asks-none opened words old new same = asks-none (IsBesidesMerge opened words) old new same

-- Two calls in sequence ask for what a merge may.
pub merge-asks-both : (opened : List (List ℕ)) (words : MergeWords) (a b c : List Asked) → AsksToMerge opened words a b → AsksToMerge opened words b c → AsksToMerge opened words a c
merge-asks-both opened words a b c first next = asks-both (IsBesidesMerge opened words) a b c first next

-- Only the files `names` are opened, and none is made.
pub merge-asks-opened : (names opened : List (List ℕ)) (words : MergeWords) (old new : List Asked) → ((name : List ℕ) → AreOthers name opened → AreOthers name names) → AsksOnly names [] old new → AsksToMerge opened words old new
merge-asks-opened names opened words old new among asks = asks-fewer (IsNotAmong names []) (IsBesidesMerge opened words) old new each asks
  where
    each : (name : Asked) → IsBesidesMerge opened words name → IsNotAmong names [] name
    each (Opened name) others = among name others
    each (Made name) isnt = tt

-- A merge that opens only the names `opened` opens only `more`, if these include them.
pub merge-asks-more : (opened more : List (List ℕ)) (words : MergeWords) (old new : List Asked) → ((name : List ℕ) → AreOthers name more → AreOthers name opened) → AsksToMerge opened words old new → AsksToMerge more words old new
merge-asks-more opened more words old new among asks = asks-fewer (IsBesidesMerge opened words) (IsBesidesMerge more words) old new each asks
  where
    each : (name : Asked) → IsBesidesMerge more words name → IsBesidesMerge opened words name
    each (Opened name) others = among name others
    each (Made name) isnt = isnt

-- The outputs of a plan are made.
pub merge-asks-made : {S : Type 0} (r : Ghosts S) (f : writing.Ghosts S) (words : MergeWords) (inputs : List Input) (p : MergePlan) (old new : S) → IsPlanOf words inputs p → KeepsUnwritten r f (planned_split p) p.output old new → AsksToMerge [] words (f.asked old) (f.asked new)
merge-asks-made r f words inputs p old new plan kept =
    asks-fewer (IsNotMade (planned_split p) p.output) (IsBesidesMerge [] words) (f.asked old) (f.asked new) each (unwritten-asks r f (planned_split p) p.output old new kept)
  where
    each : (name : Asked) → IsBesidesMerge [] words name → IsNotMade (planned_split p) p.output name
    each (Opened name) others = tt
    each (Made name) isnt = ap₂ (λ (split : Bool) (output : List ℕ). may_be_written split output name) (plan-split words inputs p plan) plan.output ∙ isnt

-- ---- journals

-- the names of the journals after the inputs' journals
abbrev output_sidecars : MergeWords → List (List ℕ)
output_sidecars words = if is_split words then [] else sidecar_of words.output ∷ []

-- The journals of the inputs are looked at.
pub looks-inputs : {S : Type 0} (r : Ghosts S) (f : writing.Ghosts S) (words : MergeWords) (files : List FileWords) (old new : S) → files ≡ words.files → LooksOnly r f (map sidecar_of (file_names files)) old new → LooksOnly r f (sidecars_of words) old new
looks-inputs r f words files old new same looks =
    let names : List (List ℕ) = map sidecar_of (file_names words.files) in
    LooksOnly-more r f names (sidecars_of words) old new (λ name others. others-front name names (output_sidecars words) others)
    (subst (λ (each : List FileWords). LooksOnly r f (map sidecar_of (file_names each)) old new) same looks)

-- An output that isn't split has one journal.
others-output : (split : Option SplitWords) (output name : List ℕ) → is_some split ≡ false → AreOthers name (if is_some split then [] else sidecar_of output ∷ []) → AreOthers name (sidecar_of output ∷ [])
others-output None output name whole others = others
others-output (Some split) output name whole others = absurd (cc)

-- The journal of the output is looked at.
pub looks-output : {S : Type 0} (r : Ghosts S) (f : writing.Ghosts S) (words : MergeWords) (output : List ℕ) (old new : S) → is_split words ≡ false → output ≡ words.output → LooksOnly r f (sidecar_of output ∷ []) old new → LooksOnly r f (sidecars_of words) old new
looks-output r f words output old new whole same looks =
    LooksOnly-more r f (sidecar_of words.output ∷ []) (sidecars_of words) old new
    (λ name others. others-output words.split words.output name whole (others-behind name (map sidecar_of (file_names words.files)) (output_sidecars words) others))
    (subst (λ (each : List ℕ). LooksOnly r f (sidecar_of each ∷ []) old new) same looks)

-- ---- inputs and text files

-- The inputs and the attached files are opened.
pub merge-asks-inputs : (words : MergeWords) (old new : List Asked) → AsksOnly (opened_names words) [] old new → AsksToMerge (opened_names words) words old new
merge-asks-inputs words old new asks = merge-asks-opened (opened_names words) (opened_names words) words old new (λ name others. others) asks

-- A name that a merge doesn't open is neither a text file, nor an input or an attached file, nor a journal.
others-opened : (words : MergeWords) (name : List ℕ) → AreOthers name (opened_by words) → AreOthers name (text_names words.chapters words.files) × AreOthers name (opened_names words) × AreOthers name (sidecars_of words)
others-opened words name others =
    let behind = others-behind name (text_names words.chapters words.files) (opened_names words ++ sidecars_of words) others in
    (others-front name (text_names words.chapters words.files) (opened_names words ++ sidecars_of words) others, others-front name (opened_names words) (sidecars_of words) behind, others-behind name (opened_names words) (sidecars_of words) behind)

-- Calls that open only these files, or only journals, open only files that a merge opens.
pub merge-asks-files : (words : MergeWords) (old new : List Asked) → AsksToMerge (opened_names words) words old new → AsksToMerge (opened_by words) words old new
merge-asks-files words old new asks = merge-asks-more (opened_names words) (opened_by words) words old new (λ name others. (others-opened words name others).1) asks

pub merge-asks-sidecars : (words : MergeWords) (old new : List Asked) → AsksToMerge (sidecars_of words) words old new → AsksToMerge (opened_by words) words old new
merge-asks-sidecars words old new asks = merge-asks-more (sidecars_of words) (opened_by words) words old new (λ name others. (others-opened words name others).2) asks

-- The journals are looked at.
pub merge-asks-looks : (words : MergeWords) (old new : List Asked) → AsksOnly (sidecars_of words) [] old new → AsksToMerge (sidecars_of words) words old new
merge-asks-looks words old new asks = merge-asks-opened (sidecars_of words) (sidecars_of words) words old new (λ name others. others) asks

-- The text files are opened.
pub merge-asks-texts : (words : MergeWords) (files : List FileWords) (old new : List Asked) → files ≡ words.files → AsksOnly (text_names words.chapters files) [] old new → AsksToMerge (opened_by words) words old new
merge-asks-texts words files old new same asks =
    merge-asks-opened (text_names words.chapters words.files) (opened_by words) words old new (λ name others. (others-opened words name others).0)
    (subst (λ (each : List FileWords). AsksOnly (text_names words.chapters each) [] old new) same asks)
