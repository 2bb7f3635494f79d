-- The children are scanned in sequence.
use Rattle.std.proofs.Common.{◌≡◌, ◌+◌, ◌-◌, ◌<◌, ◌≤◌, ℕ, List, Ok, Err, refl, sym, ap, subst, ◌∙◌, arith}
use Rattle.std.specs.Prelude.{All}
use Rattle.std.proofs.lemmas.List.Elements.{All-nil}
use Rattle.std.proofs.lemmas.Result.{err_from_is_err_and}
use Rattle.mkv_schema.specs.Element.{stated_end}
use Rattle.output_model.specs.declared.attachment.Attachment.{Attachment}
use Rattle.meta_records.specs.Attachments.{at_child, met_in}
use Rattle.meta_records.specs.Walk.{IsAttachedIn, Meets}
use Rattle.meta_records.specs.declared.attachments.AttachmentScan.{AttachmentScan}
use Rattle.meta_records.proofs.FilesLemmas.{AreFound, AreFound-all, AreFound-more, AreFound-none, walk-good, walk-refused}
use Rattle.meta_records.proofs.MetLemmas.{IsMet-all, IsMet-more, IsMet-none, IsMet-stops, run_at}
use Rattle.meta_records.proofs.PaidLemmas.{IsPaid-longer, IsPaid-none, IsPaid-on, IsSpent-on, few-paid, few-spent, way-paid}
use Rattle.meta_records.proofs.attachments.read_children.Goals as goal

pub loop-at-init : goal.loop-at-init
loop-at-init g c =
    let h = c.args.header.now in
    let end = h.body + c.known.result in
    let P : List Attachment → Type 0 = All (IsAttachedIn c.args.file end) in
    record {
      begin = omega arith;
      place = omega arith;
      standing = refl;
      faults = refl;
      sound = subst P (sym c.new.ensures) (All-nil (IsAttachedIn c.args.file end));
      none = c.new-counts.ensures.octets;
      one = c.new-counts.ensures.nodes;
      met = λ bytes told. IsMet-none (at_child bytes) bytes h.body end c.new-counts.result;
      are = λ bytes told. AreFound-none bytes c.args.file h.body end _ c.new.ensures refl;
      pays = IsPaid-longer 0 (h.body - h.body) c.new-counts.result c.new-counts.result _ _ (omega arith) (IsPaid-none c.new-counts.result _);
    }

pub loop-at-preserved : goal.loop-at-preserved
loop-at-preserved g c =
    let h = c.args.header.now in
    let inv = c.loop-at.invariant in
    let end = h.body + c.known.result in
    let at = c.loop-at.at in
    let next = c.in_ok-at.at in
    let one = c.in_ok-at.ensures in
    let further = one.next.0 in
    let within = one.next.1 in
    let inside : at < end = omega arith in
    record {
      begin = omega arith;
      place = within;
      standing = one.standing ∙ inv.standing;
      faults = one.cause ∙ inv.faults;
      sound = one.sound inv.sound;
      none = inv.none;
      one = inv.one;
      met = λ bytes told.
          let now = ap (λ s. (g.R.Reads.files s).content c.args.file.n) inv.standing ∙ told in
          let reads = one.adds bytes now in
          IsMet-more {T = ℕ} (at_child bytes) bytes h.body at end next c.new-counts.result c.loop-at.counts c.read_child.new.counts reads.child next (inv.met bytes told) inside reads.found reads.behind (one.meets bytes now);
      are = λ bytes told.
          let now = ap (λ s. (g.R.Reads.files s).content c.args.file.n) inv.standing ∙ told in
          AreFound-more bytes c.args.file h.body at end next c.loop-at.found c.read_child.new.found (inv.are bytes told) inside (one.adds bytes now);
      pays = IsPaid-on h.body at next c.new-counts.result c.loop-at.counts c.read_child.new.counts _ _ _ inv.begin (omega arith) inv.pays one.pays;
    }

-- A child is damaged, or couldn't be read.
pub returns-in_err-at-clause-exact : goal.returns-in_err-at-clause-exact
returns-in_err-at-clause-exact g c = λ bytes told.
    let h = c.args.header.now in
    let inv = c.loop-at.invariant in
    let e = c.in_err-at.field-0.0 in
    let now = ap (λ s. (g.R.Reads.files s).content c.args.file.n) inv.standing ∙ told in
    let inside : c.loop-at.at < h.body + c.known.result = omega arith in
    let end : h.body + c.known.result ≡ stated_end h = ap (λ n. h.body + n) c.known.ensures in
    let p = err_from_is_err_and c.from_residual.result c.from_residual.ensures.1 in
    let stops = IsMet-stops ℕ AttachmentScan (at_child bytes) bytes h.body c.loop-at.at (h.body + c.known.result) c.new-counts.result c.loop-at.counts c.read_child.new.counts c.read_child.new.counts e (inv.met bytes told) inside (c.in_err-at.ensures.meets bytes now) in
    rw (p.1, p.2) (walk-refused bytes h c.new-counts.result c.new-counts.ensures.octets c.new-counts.ensures.nodes AttachmentScan c.args.file c.read_child.new.counts e
    (subst (λ (q : ℕ). Meets {T = AttachmentScan} (met_in (at_child bytes) (run_at bytes h.body q)) c.new-counts.result c.read_child.new.counts (Err e)) end stops))

pub returns-in_err-at-clause-octets : goal.returns-in_err-at-clause-octets
returns-in_err-at-clause-octets g c =
    let h = c.args.header.now in
    let inv = c.loop-at.invariant in
    let inside : c.loop-at.at < h.body + c.known.result = omega arith in
    let spent = IsSpent-on h.body c.loop-at.at (h.body + c.known.result) c.new-counts.result c.loop-at.counts c.read_child.new.counts _ _ _ inv.begin (omega arith) inv.pays c.in_err-at.ensures.pays in
    omega (arith, spent.way, c.known.ensures)

pub returns-in_err-at-clause-few : goal.returns-in_err-at-clause-few
returns-in_err-at-clause-few g c =
    let h = c.args.header.now in
    let inv = c.loop-at.invariant in
    let inside : c.loop-at.at < h.body + c.known.result = omega arith in
    let spent = IsSpent-on h.body c.loop-at.at (h.body + c.known.result) c.new-counts.result c.loop-at.counts c.read_child.new.counts _ _ _ inv.begin (omega arith) inv.pays c.in_err-at.ensures.pays in
    few-spent _ c.new-counts.result c.read_child.new.counts _ _ c.new-counts.ensures.nodes c.new-counts.ensures.octets c.read_child.new.counts.few_octets c.read_child.new.counts.few_nodes spent

-- All children were scanned.
pub returns-clause-exact : goal.returns-clause-exact
returns-clause-exact g c = λ bytes told.
    let h = c.args.header.now in
    let inv = c.loop-at.invariant in
    let past : h.body + c.known.result ≤ c.loop-at.at = omega arith in
    let end : h.body + c.known.result ≡ stated_end h = ap (λ n. h.body + n) c.known.ensures in
    let all = IsMet-all (at_child bytes) bytes h.body c.loop-at.at (h.body + c.known.result) c.new-counts.result c.loop-at.counts c.loop-at.found (inv.met bytes told) past in
    let meets = subst (λ (q : ℕ). Meets {T = AttachmentScan} (met_in (at_child bytes) (run_at bytes h.body q)) c.new-counts.result c.loop-at.counts (Ok c.loop-at.found)) end all in
    let good = walk-good bytes h c.new-counts.result c.new-counts.ensures.octets c.new-counts.ensures.nodes c.loop-at.counts c.loop-at.found meets in
    AreFound-all bytes c.args.file h c.loop-at.at c.loop-at.found (subst (λ (q : ℕ). AreFound bytes c.args.file h.body c.loop-at.at q c.loop-at.found) end (inv.are bytes told)) (omega (arith, end)) good

pub returns-clause-sound : goal.returns-clause-sound
returns-clause-sound g c =
    let h = c.args.header.now in
    let end : h.body + c.known.result ≡ stated_end h = ap (λ n. h.body + n) c.known.ensures in
    subst (λ (q : ℕ). All (IsAttachedIn c.args.file q) c.loop-at.found.attachments) end c.loop-at.invariant.sound

pub returns-clause-octets : goal.returns-clause-octets
returns-clause-octets g c =
    let inv = c.loop-at.invariant in
    let paid = way-paid (c.loop-at.at - c.args.header.now.body) c.new-counts.result c.loop-at.counts _ _ inv.pays in
    omega (arith, paid, inv.place, c.known.ensures)

pub returns-clause-few : goal.returns-clause-few
returns-clause-few g c =
    let inv = c.loop-at.invariant in
    few-paid _ c.new-counts.result c.loop-at.counts _ _ c.new-counts.ensures.nodes c.new-counts.ensures.octets c.loop-at.counts.few_octets c.loop-at.counts.few_nodes inv.pays
