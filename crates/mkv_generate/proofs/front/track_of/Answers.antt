-- The entry has each child after the others.
use Rattle.std.proofs.Common.{ℕ, List, ◌∷◌, [], ◌∙◌, ap₂}
use Rattle.mkv_schema.specs.declared.ids.TheConstants.{TRACK_ENTRY, TRACK_NUMBER, TRACK_UID, TRACK_TYPE, CODEC_ID}
use Rattle.ebml_numbers.specs.Number.{uint_octets}
use Rattle.tree_format.specs.Node.{leaf, master, nodes_of}
use Rattle.tree_format.specs.Children.{uint_leaf}
use Rattle.ebml_tree.specs.Building.{IsBuilt}
use Rattle.ebml_tree.proofs.BuildLemmas.{built-leaf, built-master, put-is}
use Rattle.input_files.proofs.TrackLemmas.{codec-in, entry-master, number-in, type-in, uid-in, whole-built}
use Rattle.mkv_generate.proofs.front.track_of.Goals as goal

pub empty-requires : goal.empty-requires
empty-requires c = entry-master

pub uint_leaf-requires : goal.uint_leaf-requires
uint_leaf-requires c = number-in.valid

pub uint_leaf-requires-2 : goal.uint_leaf-requires-2
uint_leaf-requires-2 c = uid-in.valid

pub uint_leaf-requires-3 : goal.uint_leaf-requires-3
uint_leaf-requires-3 c = type-in.valid

pub text_leaf-requires : goal.text_leaf-requires
text_leaf-requires c = codec-in.valid

pub push-requires-clause-master : goal.push-requires-clause-master
push-requires-clause-master c = built-master TRACK_ENTRY 0 0 [] c.in_ok-entry.entry (c.in_ok-entry.ensures 0)

whole : (c : goal.In_ok-push-4)
    → IsBuilt TRACK_ENTRY 0 0 (uint_leaf TRACK_NUMBER 1 ∷ uint_leaf TRACK_UID 1 ∷ uint_leaf TRACK_TYPE c.type_of.result ∷ leaf CODEC_ID 0 c.codec_of.result.now ∷ []) c.push-4.new.self
whole c =
    built-leaf TRACK_ENTRY 0 0 CODEC_ID _ c.codec_of.result.now c.push-3.new.self c.in_ok-text_leaf.field-0 c.push-4.new.self
    (built-leaf TRACK_ENTRY 0 0 TRACK_TYPE _ (uint_octets c.type_of.result) c.push-2.new.self c.in_ok-uint_leaf-3.field-0 c.push-3.new.self
    (built-leaf TRACK_ENTRY 0 0 TRACK_UID _ (uint_octets 1) c.push.new.self c.in_ok-uint_leaf-2.field-0 c.push-2.new.self
    (built-leaf TRACK_ENTRY 0 0 TRACK_NUMBER [] (uint_octets 1) c.in_ok-entry.entry c.in_ok-uint_leaf.field-0 c.push.new.self (c.in_ok-entry.ensures 0)
    (put-is _ _ _ _ c.in_ok-push.ensures.ok c.in_ok-push.ensures.full) c.in_ok-uint_leaf.ensures.exact (c.in_ok-uint_leaf.ensures.stands TRACK_ENTRY number-in))
    (put-is _ _ _ _ c.in_ok-push-2.ensures.ok c.in_ok-push-2.ensures.full) c.in_ok-uint_leaf-2.ensures.exact (c.in_ok-uint_leaf-2.ensures.stands TRACK_ENTRY uid-in))
    (put-is _ _ _ _ c.in_ok-push-3.ensures.ok c.in_ok-push-3.ensures.full) c.in_ok-uint_leaf-3.ensures.exact (c.in_ok-uint_leaf-3.ensures.stands TRACK_ENTRY type-in))
    (put-is _ _ _ _ c.in_ok-push-4.ensures.ok c.in_ok-push-4.ensures.full) c.in_ok-text_leaf.ensures.exact (c.in_ok-text_leaf.ensures.stands TRACK_ENTRY codec-in)

pub returns-clause-exact : goal.returns-clause-exact
returns-clause-exact c =
    (whole c).is
    ∙ ap₂ (λ (kind : ℕ) (codec : List ℕ). master TRACK_ENTRY 0 (nodes_of (uint_leaf TRACK_NUMBER 1 ∷ uint_leaf TRACK_UID 1 ∷ uint_leaf TRACK_TYPE kind ∷ leaf CODEC_ID 0 codec ∷ []))) c.type_of.ensures c.codec_of.ensures

pub returns-clause-whole : goal.returns-clause-whole
returns-clause-whole c = whole-built _ c.push-4.new.self (whole c)
