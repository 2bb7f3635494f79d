-- Edits and a new index keep the rest of a file.
use Rattle.std.proofs.Common.{◌≡◌, ℕ, List, Result, Ok, Err, refl, sym, subst, ap}
use Rattle.mkv_io.specs.declared.damage.Damage.{Damage}
use Rattle.mkv_disk.specs.Calls.{OfReads}
use Rattle.mkv_disk.specs.Pair.{Pair}
use Rattle.mkv_disk.specs.declared.disk.Disk.{Ghosts}
use Rattle.sidecar_edit.specs.Writes.{Write, applied}
use Rattle.requests.specs.declared.edit.Edit.{Edit}
use Rattle.edit_changes.specs.declared.refusal.Refusal.{Refusal}
use Rattle.edit_changes.specs.declared.trees.Trees.{Trees}
use Rattle.edit_changes.specs.Change.{edited_trees}
use Rattle.mkv_io.specs.Results.{and_then}
use Rattle.edit_changes.specs.Plan.{edited, if_editable, plan_of}
use Rattle.edit_changes.specs.Records.{EditableFile, editable}
use Rattle.edit_laws.specs.Laws.{EditsChangeNothingElse}
use Rattle.reindex.specs.Index.{indexable}
use Rattle.reindex.specs.Plan.{Index, index_of, index_with}
use Rattle.reindex.specs.Points.{index_points}
use Rattle.edit_laws.specs.IndexLaws.{HoldsIndex, NewIndexIsWhole}
use Rattle.mkv_lines.specs.declared.status.Status.TheVariants.{Done}
use Rattle.mkv_propedit.specs.Left.{IsEdit, writes_of_edits}
use Rattle.mkv_propedit.specs.Reindex.{writes_of_index}
use Rattle.suite.specs.Kept.{HasNewIndex, KeepsRest}

-- A content that was edited could be edited, and so could its trees.
record IsChanged (edits : List Edit) (bytes : List ℕ) : Type 0 where
  file : EditableFile
  trees : Trees
  editable : editable bytes ≡ Ok file
  changed : edited_trees edits file.trees ≡ Ok trees

module _ (edits : List Edit) (bytes new : List ℕ) (writes : EditableFile → Trees → Result (List Write) Refusal) where
  with-trees : (f : EditableFile) (r : Result Trees Refusal) → editable bytes ≡ Ok f → edited_trees edits f.trees ≡ r → and_then (and_then r (writes f)) (λ ws. Ok (applied bytes ws)) ≡ Ok new → IsChanged edits bytes
  with-trees f (Ok t) found is made = record { file = f; trees = t; editable = found; changed = is }
  with-trees f (Err why) found is made = absurd (cc)

  with-file : (r : Result EditableFile Damage) → editable bytes ≡ r → and_then (and_then (if_editable r) (λ f. and_then (edited_trees edits f.trees) (writes f))) (λ ws. Ok (applied bytes ws)) ≡ Ok new → IsChanged edits bytes
  with-file (Ok f) found made = with-trees f (edited_trees edits f.trees) found refl made
  with-file (Err why) found made = absurd (cc)

changed : (edits : List Edit) (bytes new : List ℕ) → edited bytes edits ≡ Ok new → IsChanged edits bytes
unfolding plan_of
changed edits bytes new made = with-file edits bytes new _ (editable bytes) refl made

rest-kept : EditsChangeNothingElse → (edits : List Edit) (bytes new : List ℕ) → edited bytes edits ≡ Ok new → KeepsRest edits bytes new
rest-kept law edits bytes new made =
    let c = changed edits bytes new made in
    record {
      file = c.file;
      trees = c.trees;
      editable = c.editable;
      changed = c.changed;
      holds = λ octets short outside. law bytes new edits c.file c.trees octets short outside c.editable c.changed made;
    }

-- A successful `propedit` keeps the rest of its file.
pub edit-keeps : {D : Type 0} (d : Ghosts D) (edits : List Edit) (old new : D) → EditsChangeNothingElse → IsEdit d (writes_of_edits edits) old new Done → OfReads d old (λ M S. KeepsRest edits M (d.pair new).media.reads)
edit-keeps d edits old new law is = λ told.
    let made = is.pair told in
    let bytes = (d.pair old).media.reads in
    let whole = ap (λ (r : Result (List Write) Refusal). and_then r (λ ws. Ok (applied bytes ws))) made.made in
    subst (KeepsRest edits bytes) (sym (ap (λ (p : Pair). p.media.reads) made.pair)) (rest-kept law edits bytes (applied bytes made.writes) whole)

-- ---- a new index

-- A content that has a new index could be indexed.
could-be : (bytes : List ℕ) (x : Index) (r : Result EditableFile Damage) → indexable bytes ≡ r → and_then (if_editable r) (λ (f : EditableFile). index_with bytes f.outline (index_points bytes f.outline.segment f.trees.tracks)) ≡ Ok x → (f : EditableFile) × (indexable bytes ≡ Ok f)
could-be bytes x (Ok f) found made = (f, found)
could-be bytes x (Err why) found made = absurd (cc)

indexed-kept : NewIndexIsWhole → (bytes : List ℕ) (ws : List Write) (r : Result Index Refusal) → index_of bytes ≡ r → and_then r (λ x. Ok x.writes) ≡ Ok ws → HasNewIndex bytes (applied bytes ws)
indexed-kept law bytes ws (Ok x) found made =
    let could = could-be bytes x (indexable bytes) refl found in
    let same : x.writes ≡ ws = cc in
    record {
      file = could.0;
      index = x;
      indexable = could.1;
      made = found;
      holds = λ octets short outside. subst (λ (w : List Write). HoldsIndex bytes (applied bytes w) could.0 x.points) same (law bytes could.0 x octets short outside could.1 found);
    }
indexed-kept law bytes ws (Err why) found made = absurd (cc)

-- A successful `reindex` keeps the rest of its file, and its index is complete.
pub index-keeps : {D : Type 0} (d : Ghosts D) (old new : D) → NewIndexIsWhole → IsEdit d writes_of_index old new Done → OfReads d old (λ M S. HasNewIndex M (d.pair new).media.reads)
index-keeps d old new law is = λ told.
    let made = is.pair told in
    let bytes = (d.pair old).media.reads in
    subst (HasNewIndex bytes) (sym (ap (λ (p : Pair). p.media.reads) made.pair)) (indexed-kept law bytes made.writes (index_of bytes) refl made.made)
