-- The file holds the edited trees, with any writes of the edits.
use Rattle.std.proofs.Common.{◌≡◌, ◌≤◌, ℕ, Bool, true, false, if◌then◌else◌, List, [], ◌∷◌, length, flat_map, All, None, Result, Ok, Err, refl, sym, ◌∙◌, ap, subst, arith}
use Rattle.std.specs.List.{list_any}
use Rattle.ebml_numbers.specs.Number.{AreOctets}
use Rattle.mkv_io.specs.declared.damage.Damage.{Damage}
use Rattle.mkv_io.specs.declared.outside.TheConstants.{LONGEST_FILE}
use Rattle.requests.specs.declared.edit.Edit.{Edit}
use Rattle.mkv_schema.specs.declared.element.Header.{Header}
use Rattle.mkv_schema.specs.Outline.{segment_run}
use Rattle.mkv_io.specs.Results.{unless as unless_damaged, and_then}
use Rattle.mkv_schema.proofs.OutlineLemmas.{and_then-ok, unless-ok}
use Rattle.element_reader.specs.Outline.{FileOutline, outline_in}
use Rattle.element_reader.specs.Collected.{others_of}
use Rattle.output_model.specs.Element.{Element, octets_of}
use Rattle.sidecar_edit.specs.Writes.{Write, applied}
use Rattle.edit_changes.specs.declared.refusal.Refusal.{Refusal}
use Rattle.edit_changes.specs.declared.trees.Trees.{Trees}
use Rattle.edit_changes.specs.Change.{edited_trees}
use Rattle.edit_changes.specs.Records.{EditableFile, editable, trees_of}
use Rattle.edit_changes.specs.SeekHead.{seek_head_of}
use Rattle.edit_changes.specs.Plan.{Part, appended, ascending, edit_ids, elements_moving, if_editable, length_in_place, moves, part_writes, parts, plan_of, too_large, writes_in_place, writes_moving, writes_of_parts}
use Rattle.edit_plan.proofs.PlanLemmas.{appended-some, editable-outline, plan_of-planned, unless-none}
use Rattle.edit_laws.proofs.SameLemmas.{InOrder}
use Rattle.edit_laws.specs.Laws.{EditsChangeNothingElse, HoldsEdited, IsOutside}
use Rattle.edit_laws.proofs.OpenedLemmas.{IsOpened, opened}
use Rattle.edit_laws.proofs.SectionLemmas.{AreFirst, trees-first}
use Rattle.edit_laws.proofs.PlannedLemmas.{in-order, writes-planned}
use Rattle.edit_laws.proofs.OutcomeLemmas.{moved-away, stayed}

-- The trees of a file that can be edited.
editable-trees : (bytes : List ℕ) (f : EditableFile) → editable bytes ≡ Ok f → (f.outline.damage ≡ None) × (trees_of bytes f.outline.segment ≡ Ok f.trees)
editable-trees bytes f is =
    let first = and_then-ok (outline_in 0 bytes) _ f is in
    let second = and_then-ok (unless_damaged first.0.damage first.0) _ f first.1.1 in
    let third = and_then-ok (trees_of bytes second.0.segment) _ f second.1.1 in
    let whole = unless-ok first.0.damage first.0 second.0 second.1.0 in
    let made : record { outline = second.0; trees = third.0 } ≡ f = cc (third.1.1) in
    let P : EditableFile → Type 0 = λ g. (g.outline.damage ≡ None) × (trees_of bytes g.outline.segment ≡ Ok g.trees) in
    subst P made (ap (λ (o : FileOutline). o.damage) (sym whole.1) ∙ whole.0, third.1.0)

module _ (bytes : List ℕ) (are_octets : AreOctets bytes) (short : length bytes ≤ LONGEST_FILE) (edits : List Edit) (f : EditableFile) (t : Trees) (ws : List Write)
    (op : IsOpened bytes f.outline) (undamaged : f.outline.damage ≡ None) (first : AreFirst bytes f.outline.segment f.trees) (made_trees : edited_trees edits f.trees ≡ Ok t)
    (order : InOrder (length bytes) 0 ws) (outside_all : All IsOutside (segment_run bytes f.outline.segment).list) where
  abbrev others : List Header
  others = others_of (segment_run bytes f.outline.segment).list

  abbrev ps : List Part
  ps = parts others edits t

  stays : list_any moves ps ≡ false → writes_in_place ps ≡ Ok ws → HoldsEdited bytes (applied bytes ws) f t
  stays still is =
      let split = unless-none (too_large (length_in_place ps) ps) (ascending (part_writes ps)) ws is in
      stayed bytes are_octets short edits f t ws op undamaged first made_trees order outside_all still split.0 split.1

  moves-away : list_any moves ps ≡ true → writes_moving edit_ids f.outline ps (seek_head_of bytes f.outline) ≡ Ok ws → HoldsEdited bytes (applied bytes ws) f t
  moves-away any made = of (elements_moving ps) refl
    where
      of : (es : List Element) → elements_moving ps ≡ es → HoldsEdited bytes (applied bytes ws) f t
      of [] none =
          let some = appended-some ps any in
          let nothing : length (appended ps) ≡ 0 = ap (λ (l : List Element). length (flat_map octets_of l)) none in
          absurd (omega arith)
      of (d ∷ ds) are =
          let plan = writes-planned bytes f.outline edit_ids ps ws op made in
          moved-away bytes are_octets short edits f t ws op undamaged first made_trees order outside_all plan.0 plan.2 any d ds are

  pub written : writes_of_parts edit_ids false bytes f.outline ps ≡ Ok ws → HoldsEdited bytes (applied bytes ws) f t
  written is = of (list_any moves ps) refl is
    where
      of : (any : Bool) → list_any moves ps ≡ any → (if any then writes_moving edit_ids f.outline ps (seek_head_of bytes f.outline) else writes_in_place ps) ≡ Ok ws → HoldsEdited bytes (applied bytes ws) f t
      of true any is = moves-away any is
      of false still is = stays still is

-- The writes of edits.
planned-writes : (bytes : List ℕ) (edits : List Edit) (f : EditableFile) (t : Trees) (ws : List Write) → editable bytes ≡ Ok f → edited_trees edits f.trees ≡ Ok t → plan_of bytes edits ≡ Ok ws → writes_of_parts edit_ids false bytes f.outline (parts f.outline.others edits t) ≡ Ok ws
unfolding plan_of
planned-writes bytes edits f t ws found made is =
    sym (ap (λ (x : Result EditableFile Damage). and_then (if_editable x) (λ f. and_then (edited_trees edits f.trees) (λ t. writes_of_parts edit_ids false bytes f.outline (parts f.outline.others edits t)))) found
    ∙ ap (λ (x : Result Trees Refusal). and_then x (λ t. writes_of_parts edit_ids false bytes f.outline (parts f.outline.others edits t))) made) ∙ is

-- An edited file holds the content of the old file, except for what the edits change.
pub nothing-else : EditsChangeNothingElse
nothing-else old new edits f t are_octets short outside_all found made is = of (plan_of old edits) refl is
  where
    with-writes : (ws : List Write) → plan_of old edits ≡ Ok ws → HoldsEdited old (applied old ws) f t
    with-writes ws planned =
        let op = opened old f.outline (editable-outline old f found) in
        let trees = editable-trees old f found in
        let record_is = plan_of-planned old edits ws short planned in
        written old are_octets short edits f t ws op trees.0 (trees-first old f.outline.segment f.trees trees.1) made (in-order (length old) 0 ws record_is.sound.order) outside_all
        (ap (λ (l : List Header). writes_of_parts edit_ids false old f.outline (parts l edits t)) (sym op.others) ∙ planned-writes old edits f t ws found made planned)

    of : (plan : Result (List Write) Refusal) → plan_of old edits ≡ plan → and_then plan (λ ws. Ok (applied old ws)) ≡ Ok new → HoldsEdited old new f t
    of (Ok ws) planned is = let same : applied old ws ≡ new = cc in subst (λ n. HoldsEdited old n f t) same (with-writes ws planned)
    of (Err r) planned is = absurd (cc)
