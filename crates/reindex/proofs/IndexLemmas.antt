-- A new index, step by step.
use Rattle.std.proofs.Common.{◌≡◌, ℕ, ◌==◌, true, false, List, [], ◌∷◌, length, take, Option, Some, None, Result, Ok, Err, refl, sym, ◌∙◌, ap, ap₂}
use Rattle.std.specs.List.{All}
use Rattle.std.proofs.lemmas.List.Elements.{All-cons, All-nil}
use Rattle.std.proofs.lemmas.List.Sums.{AllPass-from_list_all}
use Rattle.mkv_io.specs.declared.damage.Damage.{Damage}
use Rattle.ebml_numbers.specs.Number.{is_id}
use Rattle.mkv_schema.specs.declared.ids.TheConstants.{ATTACHMENTS, CHAPTERS, CLUSTER, CUES, INFO, TAGS, TRACKS}
use Rattle.mkv_io.specs.Results.{and_then, unless, and_then as edits_then, unless as unless_refused}
use Rattle.mkv_schema.specs.Value.{first_of}
use Rattle.element_reader.specs.Outline.{FileOutline, outline_in}
use Rattle.element_reader.specs.declared.outline_end.OutlineEnd.{OutlineEnd}
use Rattle.element_reader.specs.declared.outline_end.OutlineEnd.TheVariants as outline_end
use Rattle.output_model.specs.declared.places.CuePoint.{CuePoint}
use Rattle.sidecar_edit.specs.Fields.{Planned}
use Rattle.sidecar_edit.specs.Writes.{Write}
use Rattle.sidecar_edit.specs.declared.place.TheConstants.{KEPT}
use Rattle.edit_changes.specs.Plan.{if_editable, recorded, twin_of, writes_of_parts}
use Rattle.edit_changes.specs.Records.{EditableFile, trees_of}
use Rattle.edit_changes.specs.declared.refusal.Refusal.{Refusal}
use Rattle.edit_changes.specs.declared.trees.Trees.{Trees}
use Rattle.edit_plan.specs.Answer.{Answers, Gives}
use Rattle.edit_plan.specs.Record.{record_over}
use Rattle.edit_plan.specs.Sought.{AreSought}
use Rattle.edit_plan.specs.declared.plan_end.PlanEnd.{PlanEnd}
use Rattle.edit_plan.specs.declared.plan_end.PlanEnd.TheVariants as end
use Rattle.reindex.specs.Found.{IsFound, Pointed, ends_as, pointed}
use Rattle.reindex.specs.Index.{file_damage, points_of}
use Rattle.reindex.specs.Plan.{Index, cues_parts, index_ids, index_of, index_with, index_writes, indexed, indexed_of, new_cues}
use Rattle.reindex.specs.Points.{index_points}
use Rattle.reindex.specs.declared.indexed.Indexed.{Indexed}

-- ---- reading the file

abbrev behind_points : FileOutline → List CuePoint → Result Pointed Damage
behind_points o points = Ok (record { outline = o; points = points })

abbrev behind_trees : List ℕ → FileOutline → Trees → Result Pointed Damage
behind_trees bytes o t = and_then (points_of bytes o.segment t.tracks) (behind_points o)

abbrev behind_outline : List ℕ → FileOutline → Result Pointed Damage
behind_outline bytes o = and_then (trees_of bytes o.segment) (behind_trees bytes o)

found-points : (bytes : List ℕ) (o : FileOutline) (t : Trees) → outline_in 0 bytes ≡ Ok o → trees_of bytes o.segment ≡ Ok t → pointed bytes ≡ behind_trees bytes o t
found-points bytes o t is read = ap (λ x. and_then x (behind_outline bytes)) is ∙ ap (λ x. and_then x (behind_trees bytes o)) read

pub found-whole : (bytes : List ℕ) (o : FileOutline) (t : Trees) (points : List CuePoint) → outline_in 0 bytes ≡ Ok o → trees_of bytes o.segment ≡ Ok t → points_of bytes o.segment t.tracks ≡ Ok points → pointed bytes ≡ behind_points o points
found-whole bytes o t points is read has = found-points bytes o t is read ∙ ap (λ x. and_then x (behind_points o)) has

-- The outline that was read is the file's.
pub pointed-outline : (bytes : List ℕ) (p : Pointed) → pointed bytes ≡ Ok p → outline_in 0 bytes ≡ Ok p.outline
pointed-outline bytes p is = outline (outline_in 0 bytes) is
  where
    points : (o : FileOutline) (found : Result (List CuePoint) Damage) → and_then found (behind_points o) ≡ Ok p → o ≡ p.outline
    points o (Ok ps) is =
        let same : record { outline = o; points = ps } ≡ p = cc in
        ap (λ (q : Pointed). q.outline) same
    points o (Err d) is = absurd (cc)

    trees : (o : FileOutline) (found : Result Trees Damage) → and_then found (behind_trees bytes o) ≡ Ok p → o ≡ p.outline
    trees o (Ok t) is = points o (points_of bytes o.segment t.tracks) is
    trees o (Err d) is = absurd (cc)

    outline : (found : Result FileOutline Damage) → and_then found (behind_outline bytes) ≡ Ok p → found ≡ Ok p.outline
    outline (Ok o) is = ap (λ (v : FileOutline). Ok v) (trees o (trees_of bytes o.segment) is)
    outline (Err d) is = absurd (cc)

-- ---- the index of the file

-- the index of the file that was read
abbrev index_found : List ℕ → Pointed → Result Index Refusal
index_found bytes p = index_with bytes p.outline p.points

abbrev index_in : List ℕ → EditableFile → Result Index Refusal
index_in bytes f = index_with bytes f.outline (index_points bytes f.outline.segment f.trees.tracks)

index-pointed : (bytes : List ℕ) → index_of bytes ≡ edits_then (if_editable (pointed bytes)) (index_found bytes)
index-pointed bytes = outline (outline_in 0 bytes)
  where
    damaged : (o : FileOutline) (t : Trees) (damage : Option Damage)
        → edits_then (if_editable (unless damage (record { outline = o; trees = t }))) (index_in bytes)
        ≡ edits_then (if_editable (and_then (unless damage (index_points bytes o.segment t.tracks)) (behind_points o))) (index_found bytes)
    damaged o t None = refl
    damaged o t (Some d) = refl

    trees : (o : FileOutline) (read : Result Trees Damage)
        → edits_then (if_editable (and_then read (λ (t : Trees). unless (file_damage bytes o.segment) (record { outline = o; trees = t })))) (index_in bytes)
        ≡ edits_then (if_editable (and_then read (behind_trees bytes o))) (index_found bytes)
    trees o (Ok t) = damaged o t (file_damage bytes o.segment)
    trees o (Err d) = refl

    outline : (found : Result FileOutline Damage)
        → edits_then (if_editable (and_then found (λ (o : FileOutline). and_then (trees_of bytes o.segment) (λ (t : Trees). unless (file_damage bytes o.segment) (record { outline = o; trees = t }))))) (index_in bytes)
        ≡ edits_then (if_editable (and_then found (behind_outline bytes))) (index_found bytes)
    outline (Ok o) = trees o (trees_of bytes o.segment)
    outline (Err d) = refl

-- ---- the writes

abbrev writes_behind : List ℕ → FileOutline → List CuePoint → Option Refusal → Result (List Write) Refusal
writes_behind bytes o points refusal = edits_then (unless_refused refusal (cues_parts o.others (first_of CUES o.others) (new_cues points))) (writes_of_parts index_ids true bytes o)

pub writes-parts : (bytes : List ℕ) (o : FileOutline) (points : List CuePoint) → None ≡ twin_of o.others CUES → index_writes bytes o points ≡ writes_of_parts index_ids true bytes o (cues_parts o.others (first_of CUES o.others) (new_cues points))
writes-parts bytes o points is = ap (writes_behind bytes o points) (sym is)

-- ---- results

abbrev record_behind : List ℕ → Result Index Refusal → Result Indexed Refusal
record_behind bytes x = edits_then x (λ (y : Index). Ok (indexed bytes y))

-- The file can't be indexed.
pub indexed-unread : (bytes : List ℕ) (e : OutlineEnd) → IsFound bytes (Err e) → Gives (indexed_of bytes) (Err (ends_as e))
indexed-unread bytes (outline_end.Refused d) is =
    ap (record_behind bytes) (index-pointed bytes ∙ ap (λ (x : Result Pointed Damage). edits_then (if_editable x) (index_found bytes)) is)
indexed-unread bytes outline_end.ReadFault is = tt
indexed-unread bytes outline_end.Memory is = tt

indexed-found : (bytes : List ℕ) (p : Pointed) → pointed bytes ≡ Ok p → indexed_of bytes ≡ record_behind bytes (index_found bytes p)
indexed-found bytes p is = ap (record_behind bytes) (index-pointed bytes ∙ ap (λ (x : Result Pointed Damage). edits_then (if_editable x) (index_found bytes)) is)

-- The writes are refused.
pub indexed-refused : (bytes : List ℕ) (p : Pointed) (e : PlanEnd) → pointed bytes ≡ Ok p → Answers (index_writes bytes p.outline p.points) (Err e) → Gives (indexed_of bytes) (Err e)
indexed-refused bytes p (end.Refused r) is refused =
    indexed-found bytes p is ∙ ap (λ (x : Result (List Write) Refusal). record_behind bytes (edits_then x (λ ws. Ok (record { writes = ws; points = p.points })))) refused
indexed-refused bytes p end.ReadFault is refused = tt
indexed-refused bytes p end.Memory is refused = tt

-- The result is the record of the writes.
pub indexed-is : (bytes : List ℕ) (p : Pointed) (ws : List Write) (plan : Planned) (cues : ℕ) → pointed bytes ≡ Ok p → index_writes bytes p.outline p.points ≡ Ok ws → plan ≡ recorded bytes ws → cues ≡ length p.points
    → indexed_of bytes ≡ Ok (record { plan = plan; cues = cues })
indexed-is bytes p ws plan cues is found made count =
    indexed-found bytes p is ∙ ap (λ (x : Result (List Write) Refusal). record_behind bytes (edits_then x (λ vs. Ok (record { writes = vs; points = p.points })))) found
    ∙ ap₂ (λ (q : Planned) (n : ℕ). Ok (record { plan = q; cues = n })) (sym made) (sym count)

-- The record made of the parts is the record of the writes.
pub recorded-is : (bytes : List ℕ) (ws : List Write) (len : ℕ) (first : List ℕ) (p : Planned) → len ≡ length bytes → first ≡ take KEPT bytes → p ≡ record_over len first ws → Gives (Ok (recorded bytes ws)) (Ok p)
recorded-is bytes ws len first p size begins is =
    ap (λ (q : Planned). Ok q) (sym (is ∙ ap₂ (λ (n : ℕ) (xs : List ℕ). record_over n xs ws) size begins))

pub recorded-was : (bytes : List ℕ) (ws : List Write) (p : Planned) → Gives (Ok (recorded bytes ws)) (Ok p) → p ≡ recorded bytes ws
recorded-was bytes ws p is = cc

-- ---- the IDs with Seeks

abbrev IsOther : ℕ → Type 0
IsOther id = (id == CLUSTER) ≡ false

pub index-sought : AreSought index_ids
unfolding is_id
index-sought = record {
  valid = AllPass-from_list_all is_id index_ids refl;
  others = other INFO (TRACKS ∷ ATTACHMENTS ∷ CUES ∷ CHAPTERS ∷ TAGS ∷ []) refl (other TRACKS (ATTACHMENTS ∷ CUES ∷ CHAPTERS ∷ TAGS ∷ []) refl
      (other ATTACHMENTS (CUES ∷ CHAPTERS ∷ TAGS ∷ []) refl (other CUES (CHAPTERS ∷ TAGS ∷ []) refl (other CHAPTERS (TAGS ∷ []) refl (other TAGS [] refl (All-nil IsOther))))));
}
  where
    other : (id : ℕ) (ids : List ℕ) → IsOther id → All IsOther ids → All IsOther (id ∷ ids)
    other id ids is rest = All-cons IsOther id ids is rest
