-- The plan of a new index is the record of its writes, with its message.
use Rattle.std.proofs.Common.{◌≡◌, ℕ, Bool, true, false, if◌then◌else◌, IsTrue, List, [], ◌∷◌, Some, None, Result, Ok, Err, refl, ap, subst}
use Rattle.std.specs.Prelude.{option_map}
use Rattle.mkv_io.specs.Told.{IfVisible}
use Rattle.mkv_disk.specs.Calls.{OfReads}
use Rattle.mkv_disk.specs.declared.disk.Disk.{Ghosts}
use Rattle.mkv_lines.specs.Line.{reindexed_line}
use Rattle.mkv_lines.specs.Verdict.{Verdict, done, nothing}
use Rattle.sidecar_edit.specs.Gate.{state}
use Rattle.sidecar_edit.specs.Writes.{Write}
use Rattle.mkv_io.specs.Results.{and_then}
use Rattle.edit_changes.specs.Plan.{recorded}
use Rattle.edit_changes.specs.declared.refusal.Refusal.{Refusal}
use Rattle.reindex.specs.Plan.{Index, index_of, indexed, indexed_of}
use Rattle.reindex.specs.declared.indexed.Indexed.{Indexed}
use Rattle.mkv_propedit.specs.Recover.{DiskWorld, disk_world}
use Rattle.mkv_propedit.specs.Reindex.{indexed_told, reindex_on, reindex_verdict, writes_of_index}
use Rattle.mkv_propedit.proofs.PropeditLemmas.{begun-outputs}

abbrev record_behind : List ℕ → Result Index Refusal → Result Indexed Refusal
record_behind M x = and_then x (λ (y : Index). Ok (indexed M y))

abbrev writes_behind : Result Index Refusal → Result (List Write) Refusal
writes_behind x = and_then x (λ (y : Index). Ok y.writes)

-- The record has the writes of the index.
pub index-record : (M : List ℕ) (i : Indexed) → indexed_of M ≡ Ok i → and_then (writes_of_index M) (λ ws. Ok (recorded M ws)) ≡ Ok i.plan
index-record M i is = of (index_of M) is
  where
    of : (x : Result Index Refusal) → record_behind M x ≡ Ok i → and_then (writes_behind x) (λ ws. Ok (recorded M ws)) ≡ Ok i.plan
    of (Ok y) is =
        let same : indexed M y ≡ i = cc in
        ap (λ (j : Indexed). Ok j.plan) same
    of (Err r) is = absurd (cc)

-- The message has the number of points.
pub index-told : (M name : List ℕ) (i : Indexed) → indexed_of M ≡ Ok i → indexed_told name (index_of M) ≡ done (reindexed_line name i.cues ∷ [])
index-told M name i is = of (index_of M) is
  where
    of : (x : Result Index Refusal) → record_behind M x ≡ Ok i → indexed_told name x ≡ done (reindexed_line name i.cues ∷ [])
    of (Ok y) is =
        let same : indexed M y ≡ i = cc in
        ap (λ (j : Indexed). done (reindexed_line name j.cues ∷ [])) same
    of (Err r) is = absurd (cc)

-- ---- over a disk that is visible to the proof

told-outputs : (name : List ℕ) (x : Result Index Refusal) → (indexed_told name x).outputs ≡ nothing
told-outputs name (Ok x) = refl
told-outputs name (Err why) = refl

-- An index writes no output.
pub reindex-outputs : (is_there : Bool) (name M S : List ℕ) → (reindex_verdict is_there name M S).outputs ≡ nothing
reindex-outputs true name M S = begun-outputs name (state S) (indexed_told name (index_of M)) (told-outputs name (index_of M))
reindex-outputs false name M S = refl

-- A property of the result for the content of the files is a property of the visible result.
pub index-told_on : {D : Type 0} (d : Ghosts D) (disk : D) (name : List ℕ) (Q : Verdict → Type 0) → OfReads d disk (λ M S. Q (reindex_verdict (d.is_there disk name) name M S)) → IfVisible (option_map (λ world. reindex_on world name) (disk_world d disk)) Q
index-told_on d disk name Q so = by_told d.told so
  where
    world : DiskWorld
    world = record { is_there = d.is_there disk; media = (d.pair disk).media.reads; sidecar = (d.pair disk).sidecar.reads }

    by_told : (b : Bool) → (IsTrue b → Q (reindex_on world name)) → IfVisible (option_map (λ w. reindex_on w name) (if b then Some world else None)) Q
    by_told true so = λ v is.
        let same : reindex_on world name ≡ v = cc in
        subst Q same (so refl)
    by_told false so = λ v is. absurd (cc)
