-- A file that is created, written and closed.
use Rattle.std.proofs.Common.{◌≡◌, ◌<◌, ℕ, List, [], ◌∷◌, true, Result, Ok, Err, ◌⊎◌, sym, ◌∙◌, ap, subst, arith}
use Rattle.mkv_io.specs.declared.outside.FileId.{FileId}
use Rattle.mkv_io.specs.declared.outside.MakeFault.{MakeFault}
use Rattle.mkv_io.specs.Contents.{with_appended}
use Rattle.mkv_io.specs.Faults.{HasCause, is_make_failure}
use Rattle.mkv_io.specs.Names.{Names, with_change, with_content}
use Rattle.mkv_io.specs.Sources.{live_files}
use Rattle.mkv_io.specs.Writing.{KeepsOthers}
use Rattle.mkv_io.specs.declared.reads.Reads.{Ghosts}
use Rattle.mkv_io.specs.declared.files.Files as writing
use Rattle.mkv_io.specs.RemuxEnd.{end_of_make}
use Rattle.mkv_io.specs.declared.remux_end.RemuxEnd.{RemuxEnd}
use Rattle.mkv_io.proofs.EndsLemmas.{HasRemuxCause-then}
use Rattle.mkv_outputs.specs.Sinks.{EndsOnly}
use Rattle.mkv_outputs.specs.Starts.{ArePrefixes}
use Rattle.cues_seekhead.specs.Appending.{AppendsOnly, IsAppended}
use Rattle.cues_seekhead.specs.Made.{MakesFile}
use Rattle.cues_seekhead.proofs.AppendingLemmas.{cause-make}
use Rattle.cues_seekhead.proofs.BeginLemmas.{begun-none, begun-part}
use Rattle.cues_seekhead.proofs.DraftLemmas.{appended-to}
use Rattle.cues_seekhead.proofs.FinishLemmas.{cause-closed}
use Rattle.cues_seekhead.proofs.MadeLemmas.{MakesFile-ended, MakesFile-kept}
use Rattle.extractors.specs.Whole.{AreWritten, WritesFile, output}

-- The bytes that were appended are all of the content.
written : {T E : Type 0} (result : Result T E) (before made now : Names) (holder name octets : List ℕ) → made ≡ with_content before name [] → holder ≡ name → IsAppended made now holder octets result → AreWritten before now (output name octets ∷ []) result
written (Ok done) before made now holder name octets is same all = appended-to before made now name [] octets is (all ∙ ap (λ (h : List ℕ). with_change made h (with_appended octets)) same)
written (Err end) before made now holder name octets is same some = begun-part before made now holder name octets is same some

written-closed : {T E : Type 0} (result : Result T E) (before now later : Names) (name octets : List ℕ) → later ≡ now → AreWritten before now (output name octets ∷ []) result → AreWritten before later (output name octets ∷ []) result
written-closed (Ok done) before now later name octets same all = same ∙ all
written-closed (Err end) before now later name octets same some = subst (λ (names : Names). ArePrefixes before names (output name octets ∷ [])) (sym same) some

-- The file was created, written and closed.
pub WritesFile-closed : {S T : Type 0} (r : Ghosts S) (f : writing.Ghosts S) (file : FileId) (name octets : List ℕ) (most : ℕ) (old made wrote new : S) (result : Result T RemuxEnd) → ((other : ℕ) → (live_files r old).live other ≡ true → other < f.given old) → MakesFile r f name file old made → f.names made ≡ with_content (f.names old) name [] → r.reading_faults made ≡ r.reading_faults old → f.writing_faults made ≡ f.writing_faults old → r.octets_read made ≡ r.octets_read old
    → AppendsOnly r f file octets most made wrote result → EndsOnly r f wrote new (file ∷ []) → WritesFile r f name octets most old new result
WritesFile-closed r f file name octets most old made wrote new result numbered makes names reading writing read appends ends = record {
  writes = written-closed result (f.names old) (f.names wrote) (f.names new) name octets ends.names
      (written result (f.names old) (f.names made) (f.names wrote) (f.holder made file.n) name octets names makes.holder appends.appended);
  kept = MakesFile-ended r f name file old wrote new numbered
      (MakesFile-kept r f name file old made wrote numbered makes (let P : List ℕ → Type 0 = λ n. KeepsOthers r f (n ∷ []) made wrote in subst P makes.holder appends.kept)) ends;
  cause = cause-closed r f old wrote new result ends.reading ends.writing (HasRemuxCause-then r f old made wrote result reading writing appends.cause);
  reads = omega (arith, ends.octets, appends.reads, read);
}

-- The file wasn't created.
pub WritesFile-unmade : {S T : Type 0} (U : Type 0) (r : Ghosts S) (f : writing.Ghosts S) (name octets : List ℕ) (most : ℕ) (old new : S) (fault : MakeFault) → (f.names new ≡ f.names old) ⊎ (f.names new ≡ with_content (f.names old) name []) → KeepsOthers r f (name ∷ []) old new → r.reading_faults new ≡ r.reading_faults old → r.octets_read new ≡ r.octets_read old
    → HasCause {T = U} is_make_failure (f.writing_faults old) (f.writing_faults new) (Err fault) → WritesFile {T = T} r f name octets most old new (Err (end_of_make fault))
WritesFile-unmade U r f name octets most old new fault names kept reading read cause = record {
  writes = begun-none (f.names old) (f.names new) name octets names;
  kept = kept;
  cause = cause-make U r f old new fault reading cause;
  reads = omega (arith, read);
}
