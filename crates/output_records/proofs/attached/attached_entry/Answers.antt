-- The children of the AttachedFile are appended in sequence.
use Rattle.std.proofs.Common.{ℕ, List, ◌∷◌, ◌++◌, [], sym, ap, subst, ◌∙◌}
use Rattle.mkv_schema.specs.declared.ids.TheConstants.{ATTACHED_FILE, FILE_DATA, FILE_DESCRIPTION, FILE_MEDIA_TYPE, FILE_NAME, FILE_UID}
use Rattle.ebml_numbers.specs.Number.{uint_octets}
use Rattle.tree_format.specs.Node.{Node, leaf, IsMaster}
use Rattle.tree_format.specs.Standing.{StandsIn}
use Rattle.ebml_tree.specs.Building.{IsBuilt}
use Rattle.ebml_tree.proofs.BuildLemmas.{built-leaf, built-master, put-is}
use Rattle.output_records.specs.Attached.{description_elements}
use Rattle.output_records.proofs.AttachedLemmas.{attached-master, data-stands, data-valid, description-in, description-left, description-written, entry-is, entry-sound, entry_children, name-in, type-in, uid-in}
use Rattle.output_records.proofs.attached.attached_entry.Goals as goal
use Rattle.output_records.proofs.attached.attached_entry.Goals.{then-not-is_empty+in_ok-text_leaf+in_ok-push, else-not-is_empty}

pub empty-requires : goal.empty-requires
empty-requires c = attached-master

pub text_leaf-requires : goal.text_leaf-requires
text_leaf-requires c = description-in.valid

pub text_leaf-requires-2 : goal.text_leaf-requires-2
text_leaf-requires-2 c = name-in.valid

pub text_leaf-requires-3 : goal.text_leaf-requires-3
text_leaf-requires-3 c = type-in.valid

pub leaf-requires : goal.leaf-requires
leaf-requires c = data-valid

pub uint_leaf-requires : goal.uint_leaf-requires
uint_leaf-requires c = uid-in.valid

pub push-requires-clause-master : goal.push-requires-clause-master
push-requires-clause-master c = built-master ATTACHED_FILE 0 0 [] c.in_ok-entry.entry (c.in_ok-entry.ensures 0)

pub push-requires-2-clause-master : goal.push-requires-2-clause-master
push-requires-2-clause-master c =
    elim c.if-not-is_empty.branch [
      | then-not-is_empty+in_ok-text_leaf+in_ok-push w ↦ subst IsMaster (sym w.entry-is) w.in_ok-push.ensures.master
      | else-not-is_empty w ↦ subst IsMaster (sym w.entry-is) (built-master ATTACHED_FILE 0 0 [] c.in_ok-entry.entry (c.in_ok-entry.ensures 0))
    ]

-- The entry is valid after each child.
with-description : (c : goal.In_ok-push-5) → IsBuilt ATTACHED_FILE 0 0 (description_elements c.args.description.now) c.if-not-is_empty.entry
with-description c =
    let text : List ℕ = c.args.description.now in
    let P : List Node → Node → Type 0 = λ ns t. IsBuilt ATTACHED_FILE 0 0 ns t in
    elim c.if-not-is_empty.branch [
      | then-not-is_empty+in_ok-text_leaf+in_ok-push w ↦
          subst (λ ns. P ns c.if-not-is_empty.entry) (sym (description-written text (sym c.is_empty.ensures ∙ w.if-not-is_empty.true)))
          (subst (P (leaf FILE_DESCRIPTION 0 text ∷ [])) (sym w.entry-is)
          (built-leaf ATTACHED_FILE 0 0 FILE_DESCRIPTION [] text c.in_ok-entry.entry w.in_ok-text_leaf.field-0 _ (c.in_ok-entry.ensures 0)
          (put-is _ _ _ _ w.in_ok-push.ensures.ok w.in_ok-push.ensures.full) w.in_ok-text_leaf.ensures.exact (w.in_ok-text_leaf.ensures.stands ATTACHED_FILE description-in)))
      | else-not-is_empty w ↦
          subst (λ ns. P ns c.if-not-is_empty.entry) (sym (description-left text (sym c.is_empty.ensures ∙ w.if-not-is_empty.false)))
          (subst (P []) (sym w.entry-is) (c.in_ok-entry.ensures 0))
    ]

whole : (c : goal.In_ok-push-5) → IsBuilt ATTACHED_FILE 0 0 (entry_children c.args.name.now c.args.media_type.now c.args.description.now) c.push-5.new.self
whole c =
    built-leaf ATTACHED_FILE 0 0 FILE_UID _ (uint_octets 0) c.push-4.new.self c.in_ok-uint_leaf.field-0 c.push-5.new.self
    (built-leaf ATTACHED_FILE 0 0 FILE_DATA _ [] c.push-3.new.self c.in_ok-leaf.field-0 c.push-4.new.self
    (built-leaf ATTACHED_FILE 0 0 FILE_MEDIA_TYPE _ c.args.media_type.now c.push-2.new.self c.in_ok-text_leaf-3.field-0 c.push-3.new.self
    (built-leaf ATTACHED_FILE 0 0 FILE_NAME _ c.args.name.now c.if-not-is_empty.entry c.in_ok-text_leaf-2.field-0 c.push-2.new.self (with-description c)
    (put-is _ _ _ _ c.in_ok-push-2.ensures.ok c.in_ok-push-2.ensures.full) c.in_ok-text_leaf-2.ensures.exact (c.in_ok-text_leaf-2.ensures.stands ATTACHED_FILE name-in))
    (put-is _ _ _ _ c.in_ok-push-3.ensures.ok c.in_ok-push-3.ensures.full) c.in_ok-text_leaf-3.ensures.exact (c.in_ok-text_leaf-3.ensures.stands ATTACHED_FILE type-in))
    (put-is _ _ _ _ c.in_ok-push-4.ensures.ok c.in_ok-push-4.ensures.full) c.in_ok-leaf.ensures.exact (subst (StandsIn ATTACHED_FILE) (sym c.in_ok-leaf.ensures.exact) data-stands))
    (put-is _ _ _ _ c.in_ok-push-5.ensures.ok c.in_ok-push-5.ensures.full) c.in_ok-uint_leaf.ensures.exact (c.in_ok-uint_leaf.ensures.stands ATTACHED_FILE uid-in)

pub returns-clause-exact : goal.returns-clause-exact
returns-clause-exact c = entry-is c.args.name.now c.args.media_type.now c.args.description.now c.push-5.new.self (whole c)

pub returns-clause-sound : goal.returns-clause-sound
returns-clause-sound c = entry-sound c.args.name.now c.args.media_type.now c.args.description.now c.push-5.new.self (whole c)
