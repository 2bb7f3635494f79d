use Rattle.std.proofs.Common.{ℕ, [], ◌∙◌, ap, length, sym, subst}
use Rattle.mkv_schema.specs.declared.ids.TheConstants.{INFO}
use Rattle.ebml_tree.specs.Building.{IsBuilt}
use Rattle.ebml_tree.proofs.BuildLemmas.{built-master}
use Rattle.remuxer.proofs.InfoLemmas.{empty-info, info-master, whole-info}
use Rattle.remuxer.proofs.info.info_with.Goals as goal

pub empty-requires : goal.empty-requires
empty-requires c = info-master

-- The Info has no children.
pub returns-in_default : goal.returns-in_default
returns-in_default c =
    empty-info c.args.info.now c.in_ok-made.made c.args.uuids c.requires.master c.requires.id (subst (λ (at : ℕ). IsBuilt INFO at 0 [] c.in_ok-made.made) c.offset.ensures (c.in_ok-made.ensures 0))
    (ap length (sym c.children.ensures.exact) ∙ rw c.in_default.is at c.split_first.ensures.cases)

pub push-requires-clause-master : goal.push-requires-clause-master
push-requires-clause-master c = built-master INFO c.offset.result 0 [] c.in_ok-made.made (c.in_ok-made.ensures 0)

pub returns : goal.returns
returns c =
    whole-info c.args.info.now c.in_ok-made.made c.push.new.self c.add_uuids.new.info c.add_copies.new.info c.in-Some.first.now c.in_ok-copy.field-0 c.in-Some.others.now c.args.uuids c.requires.master c.requires.id
    (subst (λ (at : ℕ). IsBuilt INFO at 0 [] c.in_ok-made.made) c.offset.ensures (c.in_ok-made.ensures 0))
    (sym c.children.ensures.exact ∙ c.in-Some.ensures.cases.0) c.in_ok-copy.ensures c.in_ok-push.ensures.ok c.in_ok-add_uuids.ensures.added c.in_ok-add_copies.ensures
