-- The leaf is the definition's.
use Rattle.std.proofs.Common.{[], sym, ◌∙◌, ap}
use Rattle.mkv_schema.specs.declared.ids.TheConstants.{ATTACHED_FILE, FILE_DATA}
use Rattle.mkv_schema.specs.Value.{is_known_value}
use Rattle.meta_records.proofs.LeafLemmas.{leaf_in-data}
use Rattle.meta_records.proofs.PartsLemmas.{leaf-stands}
use Rattle.meta_records.proofs.TableFacts.{file_data-valid, file_data-value}
use Rattle.meta_records.proofs.part.leaf_of.Goals as goal

pub leaf-requires : goal.leaf-requires
leaf-requires g c = file_data-valid

pub leaf-requires-2 : goal.leaf-requires-2
leaf-requires-2 g c = c.requires.child.valid

-- FileData stays unread.
pub returns-then-part-eq-FILE_DATA-clause-exact : goal.returns-then-part-eq-FILE_DATA-clause-exact
returns-then-part-eq-FILE_DATA-clause-exact g c = λ bytes told. leaf_in-data bytes c.args.part.now c.in_ok-leaf.field-0 c.if-part-eq-FILE_DATA.true c.in_ok-leaf.ensures.exact

pub returns-then-part-eq-FILE_DATA-clause-leaf : goal.returns-then-part-eq-FILE_DATA-clause-leaf
returns-then-part-eq-FILE_DATA-clause-leaf g c = leaf-stands FILE_DATA [] c.in_ok-leaf.field-0 file_data-valid (file_data-value []) c.in_ok-leaf.ensures.exact

-- Another child has its body.
pub returns-clause-leaf : goal.returns-clause-leaf
returns-clause-leaf g c = leaf-stands c.args.part.now.id c.as_slice-2.result.now c.in_ok-leaf-2.field-0 c.requires.child.valid (ap (is_known_value ATTACHED_FILE c.args.part.now.id) (c.as_slice-2.ensures ∙ sym c.as_slice.ensures) ∙ sym c.is_known_value.ensures ∙ c.if-not-is_known_value.false) c.in_ok-leaf-2.ensures.exact
