-- The children of the Info are appended in sequence.
use Rattle.std.proofs.Common.{ℕ, List, ◌∷◌, ◌++◌, [], sym, ap, subst, ◌∙◌, arith}
use Rattle.mkv_schema.specs.declared.ids.TheConstants.{INFO, TIMESTAMP_SCALE, TITLE, MUXING_APP, WRITING_APP}
use Rattle.tree_format.specs.Node.{Node, leaf}
use Rattle.file_format.specs.Info.{scale_of}
use Rattle.tree_format.specs.Children.{uint_leaf}
use Rattle.ebml_tree.specs.Building.{IsBuilt}
use Rattle.ebml_tree.proofs.BuildLemmas.{built-leaf, built-master, put-is}
use Rattle.output_records.specs.Info.{application, title_elements}
use Rattle.output_records.proofs.OutputLemmas.{info-master, scale-in, title-in, muxing-in, writing-in, title-written, title-left, info-is, info-scale, built-record}
use Rattle.output_records.proofs.info.info_of.Goals as goal
use Rattle.output_records.proofs.info.info_of.Goals.{then-not-is_empty+in_ok-text_leaf+in_ok-push-2, else-not-is_empty}

pub empty-requires : goal.empty-requires
empty-requires c = info-master

pub uint_leaf-requires : goal.uint_leaf-requires
uint_leaf-requires c = scale-in.valid

pub text_leaf-requires : goal.text_leaf-requires
text_leaf-requires c = title-in.valid

pub text_leaf-requires-2 : goal.text_leaf-requires-2
text_leaf-requires-2 c = muxing-in.valid

pub text_leaf-requires-3 : goal.text_leaf-requires-3
text_leaf-requires-3 c = writing-in.valid

pub push-requires-clause-master : goal.push-requires-clause-master
push-requires-clause-master c = built-master INFO 0 0 [] c.in_ok-info.info (c.in_ok-info.ensures 0)

-- The Info is valid after each child.
with-scale : (c : goal.In_ok-push-4) → IsBuilt INFO 0 0 (uint_leaf TIMESTAMP_SCALE c.args.scale ∷ []) c.push.new.self
with-scale c =
    built-leaf INFO 0 0 TIMESTAMP_SCALE [] _ c.in_ok-info.info c.in_ok-uint_leaf.field-0 c.push.new.self (c.in_ok-info.ensures 0)
    (put-is _ _ _ _ c.in_ok-push.ensures.ok c.in_ok-push.ensures.full) c.in_ok-uint_leaf.ensures.exact (c.in_ok-uint_leaf.ensures.stands INFO scale-in)

with-title : (c : goal.In_ok-push-4) → IsBuilt INFO 0 0 (uint_leaf TIMESTAMP_SCALE c.args.scale ∷ title_elements c.args.title.now) c.if-not-is_empty.info
with-title c =
    let title : List ℕ = c.args.title.now in
    let P : List Node → Node → Type 0 = λ ns t. IsBuilt INFO 0 0 (uint_leaf TIMESTAMP_SCALE c.args.scale ∷ ns) t in
    elim c.if-not-is_empty.branch [
      | then-not-is_empty+in_ok-text_leaf+in_ok-push-2 w ↦
          subst (λ ns. P ns c.if-not-is_empty.info) (sym (title-written title (sym c.is_empty.ensures ∙ w.if-not-is_empty.true)))
          (subst (P (leaf TITLE 0 title ∷ [])) (sym w.info-is)
          (built-leaf INFO 0 0 TITLE _ title c.push.new.self w.in_ok-text_leaf.field-0 _ (with-scale c)
          (put-is _ _ _ _ w.in_ok-push-2.ensures.ok w.in_ok-push-2.ensures.full) w.in_ok-text_leaf.ensures.exact (w.in_ok-text_leaf.ensures.stands INFO title-in)))
      | else-not-is_empty w ↦
          subst (λ ns. P ns c.if-not-is_empty.info) (sym (title-left title (sym c.is_empty.ensures ∙ w.if-not-is_empty.false)))
          (subst (P []) (sym w.info-is) (with-scale c))
    ]

whole : (c : goal.In_ok-push-4)
    → IsBuilt INFO 0 0 ((uint_leaf TIMESTAMP_SCALE c.args.scale ∷ title_elements c.args.title.now) ++ leaf MUXING_APP 0 application ∷ [] ++ leaf WRITING_APP 0 application ∷ []) c.push-3.new.self
whole c =
    built-leaf INFO 0 0 WRITING_APP _ application c.push-2.new.self c.in_ok-text_leaf-3.field-0 c.push-3.new.self
    (built-leaf INFO 0 0 MUXING_APP _ application c.if-not-is_empty.info c.in_ok-text_leaf-2.field-0 c.push-2.new.self (with-title c)
    (put-is _ _ _ _ c.in_ok-push-3.ensures.ok c.in_ok-push-3.ensures.full) c.in_ok-text_leaf-2.ensures.exact (c.in_ok-text_leaf-2.ensures.stands INFO muxing-in))
    (put-is _ _ _ _ c.in_ok-push-4.ensures.ok c.in_ok-push-4.ensures.full) c.in_ok-text_leaf-3.ensures.exact (c.in_ok-text_leaf-3.ensures.stands INFO writing-in)

pub returns-clause-exact : goal.returns-clause-exact
returns-clause-exact c = info-is c.args.scale c.args.title.now c.push-3.new.self (whole c)

pub returns-clause-sound : goal.returns-clause-sound
returns-clause-sound c = built-record INFO 0 _ c.push-3.new.self (whole c) (omega arith)

pub returns-clause-scale : goal.returns-clause-scale
returns-clause-scale c = ap scale_of (info-is c.args.scale c.args.title.now c.push-3.new.self (whole c)) ∙ info-scale c.args.scale c.args.title.now c.ranges.scale.fits
