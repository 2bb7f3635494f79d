-- The count of a Tag is added for each track that it names.
use Rattle.std.proofs.Common.{◌≡◌, length, ◌∙◌, arith}
use Rattle.mkv_schema.specs.declared.ids.TheConstants.{SIMPLE_TAG}
use Rattle.tree_format.specs.Node.{children}
use Rattle.tree_format.specs.Changes.{part}
use Rattle.mkv_info.proofs.TagCountLemmas.{tag-counted}
use Rattle.mkv_info.proofs.tag_counts.count_tag.Goals as goal

pub returns : goal.returns
returns c =
    let many : c.in_ok-count.count ≡ length (part SIMPLE_TAG (children c.args.tag.now)) = omega (arith, c.in_ok-count.ensures) in
    tag-counted c.add_all.result c.args.counts.now c.add_all.new.counts c.as_slice.result.now c.in_ok-count.count c.args.tag.now c.add_all.ensures (c.as_slice.ensures.keys ∙ c.in_ok-uids.ensures) many
