-- The children of the entry are appended in sequence.
use Rattle.std.proofs.Common.{◌∷◌, [], codes}
use Rattle.mkv_schema.specs.declared.ids.TheConstants.{TRACK_ENTRY, TRACK_NUMBER, TRACK_UID, TRACK_TYPE, FLAG_LACING, LANGUAGE, CODEC_ID}
use Rattle.ebml_numbers.specs.Number.{uint_octets}
use Rattle.tree_format.specs.Node.{leaf}
use Rattle.tree_format.specs.Children.{uint_leaf}
use Rattle.ebml_tree.specs.Building.{IsBuilt}
use Rattle.ebml_tree.proofs.BuildLemmas.{built-leaf, built-master, put-is}
use Rattle.input_files.proofs.TrackLemmas.{codec-in, entry-master, lacing-in, language-in, number-in, type-in, uid-in, whole-built}
use Rattle.input_files.proofs.track.text_entry.Goals as goal

pub empty-requires : goal.empty-requires
empty-requires c = entry-master

pub uint_leaf-requires : goal.uint_leaf-requires
uint_leaf-requires c = number-in.valid

pub uint_leaf-requires-2 : goal.uint_leaf-requires-2
uint_leaf-requires-2 c = uid-in.valid

pub uint_leaf-requires-3 : goal.uint_leaf-requires-3
uint_leaf-requires-3 c = type-in.valid

pub uint_leaf-requires-4 : goal.uint_leaf-requires-4
uint_leaf-requires-4 c = lacing-in.valid

pub text_leaf-requires : goal.text_leaf-requires
text_leaf-requires c = language-in.valid

pub text_leaf-requires-2 : goal.text_leaf-requires-2
text_leaf-requires-2 c = codec-in.valid

pub push-requires-clause-master : goal.push-requires-clause-master
push-requires-clause-master c = built-master TRACK_ENTRY 0 0 [] c.in_ok-entry.entry (c.in_ok-entry.ensures 0)

whole : (c : goal.In_ok-push-6)
    → IsBuilt TRACK_ENTRY 0 0 (uint_leaf TRACK_NUMBER 1 ∷ uint_leaf TRACK_UID 0 ∷ uint_leaf TRACK_TYPE 17 ∷ uint_leaf FLAG_LACING 0 ∷ leaf LANGUAGE 0 (codes "und") ∷ leaf CODEC_ID 0 (codes "S_TEXT/UTF8") ∷ []) c.push-6.new.self
whole c =
    built-leaf TRACK_ENTRY 0 0 CODEC_ID _ (codes "S_TEXT/UTF8") c.push-5.new.self c.in_ok-text_leaf-2.field-0 c.push-6.new.self
    (built-leaf TRACK_ENTRY 0 0 LANGUAGE _ (codes "und") c.push-4.new.self c.in_ok-text_leaf.field-0 c.push-5.new.self
    (built-leaf TRACK_ENTRY 0 0 FLAG_LACING _ (uint_octets 0) c.push-3.new.self c.in_ok-uint_leaf-4.field-0 c.push-4.new.self
    (built-leaf TRACK_ENTRY 0 0 TRACK_TYPE _ (uint_octets 17) c.push-2.new.self c.in_ok-uint_leaf-3.field-0 c.push-3.new.self
    (built-leaf TRACK_ENTRY 0 0 TRACK_UID _ (uint_octets 0) c.push.new.self c.in_ok-uint_leaf-2.field-0 c.push-2.new.self
    (built-leaf TRACK_ENTRY 0 0 TRACK_NUMBER [] (uint_octets 1) c.in_ok-entry.entry c.in_ok-uint_leaf.field-0 c.push.new.self (c.in_ok-entry.ensures 0)
    (put-is _ _ _ _ c.in_ok-push.ensures.ok c.in_ok-push.ensures.full) c.in_ok-uint_leaf.ensures.exact (c.in_ok-uint_leaf.ensures.stands TRACK_ENTRY number-in))
    (put-is _ _ _ _ c.in_ok-push-2.ensures.ok c.in_ok-push-2.ensures.full) c.in_ok-uint_leaf-2.ensures.exact (c.in_ok-uint_leaf-2.ensures.stands TRACK_ENTRY uid-in))
    (put-is _ _ _ _ c.in_ok-push-3.ensures.ok c.in_ok-push-3.ensures.full) c.in_ok-uint_leaf-3.ensures.exact (c.in_ok-uint_leaf-3.ensures.stands TRACK_ENTRY type-in))
    (put-is _ _ _ _ c.in_ok-push-4.ensures.ok c.in_ok-push-4.ensures.full) c.in_ok-uint_leaf-4.ensures.exact (c.in_ok-uint_leaf-4.ensures.stands TRACK_ENTRY lacing-in))
    (put-is _ _ _ _ c.in_ok-push-5.ensures.ok c.in_ok-push-5.ensures.full) c.in_ok-text_leaf.ensures.exact (c.in_ok-text_leaf.ensures.stands TRACK_ENTRY language-in))
    (put-is _ _ _ _ c.in_ok-push-6.ensures.ok c.in_ok-push-6.ensures.full) c.in_ok-text_leaf-2.ensures.exact (c.in_ok-text_leaf-2.ensures.stands TRACK_ENTRY codec-in)

pub returns-clause-exact : goal.returns-clause-exact
returns-clause-exact c = (whole c).is

pub returns-clause-whole : goal.returns-clause-whole
returns-clause-whole c = whole-built _ c.push-6.new.self (whole c)
