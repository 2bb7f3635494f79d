use Rattle.std.proofs.Common.{ap, length, subst, sym, ◌∙◌, arith, length-append}
use Rattle.std.specs.List.{All}
use Rattle.std.proofs.lemmas.List.Elements.{All-push}
use Rattle.mkv_io.specs.Sources.{live_files}
use Rattle.merge_model.specs.FileLinks.{IsOpenLink, IsSmallLink}
use Rattle.merge_model.specs.declared.link.Link.{Link}
use Rattle.writing_tests.proofs.links.lane_of.Goals as goal

pub loop-taken-preserved : goal.loop-taken-preserved
loop-taken-preserved g c =
    let f = live_files g.R.Reads c.link_of.new.src in
    let before : All (IsOpenLink f) c.loop-taken.links = subst (λ s. All (IsOpenLink (g.R.Reads.files s)) c.loop-taken.links) (sym c.in_ok-link_of.ensures.standing) c.loop-taken.invariant.opened in
    record {
      standing = c.in_ok-link_of.ensures.standing ∙ c.loop-taken.invariant.standing;
      opened = subst (All (IsOpenLink f)) (sym c.in_ok-push.ensures.ok) (All-push (IsOpenLink f) c.loop-taken.links c.in_ok-link_of.field-0 before c.in_ok-link_of.ensures.opened);
      small = subst (All IsSmallLink) (sym c.in_ok-push.ensures.ok) (All-push IsSmallLink c.loop-taken.links c.in_ok-link_of.field-0 c.loop-taken.invariant.small c.in_ok-link_of.ensures.small);
      count = ap length c.in_ok-push.ensures.ok ∙ omega (arith, length-append {A = Link}, c.loop-taken.invariant.count);
    }

pub returns-clause-ready : goal.returns-clause-ready
returns-clause-ready g c = (c.in_ok-start.ensures.starts (live_files g.R.Reads c.loop-taken.src)).ready c.loop-taken.invariant.opened
