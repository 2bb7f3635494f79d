-- The children are read in sequence.
use Rattle.std.proofs.Common.{◌≡◌, ◌+◌, ◌-◌, ◌≤◌, [], ◌∷◌, ◌++◌, ◌<◌, ℕ, List, None, IfSome, Ok, Err, refl, sym, ap, subst, ◌∙◌, arith}
use Rattle.std.proofs.lemmas.Result.{err_from_is_err_and}
use Rattle.mkv_schema.specs.declared.ids.TheConstants.{ATTACHED_FILE}
use Rattle.tree_format.specs.Node.{Node, children}
use Rattle.ebml_tree.proofs.BuildLemmas.{built-master, put-is}
use Rattle.mkv_schema.specs.declared.element.Header.{Header}
use Rattle.mkv_schema.specs.Element.{known, stated_end}
use Rattle.meta_records.specs.Attachments.{at_part, met_in}
use Rattle.meta_records.specs.Walk.{Meets}
use Rattle.meta_records.specs.declared.part.Part.{Part}
use Rattle.meta_records.specs.declared.attached.Parts.{Parts}
use Rattle.meta_records.proofs.MetLemmas.{IsMet-all, IsMet-more, IsMet-none, IsMet-stops, run_at}
use Rattle.meta_records.proofs.PaidLemmas.{IsPaid-longer, IsPaid-none, IsPaid-on, IsSpent-longer, IsSpent-on}
use Rattle.meta_records.proofs.PartsLemmas.{AreRead, AreRead-first, AreRead-leaves, AreRead-more, AreRead-none, built-attachment, built-children, built-own, built-part, built-data, entry-is, first-inside}
use Rattle.meta_records.proofs.TableFacts.{attached-master, file_data-valid}
use Rattle.meta_records.proofs.attached.read_parts.Goals as goal

pub empty-requires : goal.empty-requires
empty-requires g c = attached-master

pub loop-at-init : goal.loop-at-init
loop-at-init g c =
    let h = c.args.attached.now in
    let built = c.in_ok-entry.ensures 0 in
    let none = built-children ATTACHED_FILE h.offset 0 [] c.in_ok-entry.entry built in
    record {
      begin = omega arith;
      place = omega arith;
      standing = refl;
      faults = refl;
      built = built-own ATTACHED_FILE h.offset 0 [] c.in_ok-entry.entry built;
      inside = tt;
      met = λ bytes told. IsMet-none (at_part bytes) bytes h.body (h.body + c.known.result) c.args.counts.now;
      read = λ bytes told. subst (λ (ns : List Node). AreRead bytes h.body h.body (h.body + c.known.result) ns None) (sym none) (AreRead-none bytes h.body (h.body + c.known.result));
      pays = IsPaid-longer 0 (h.body - h.body) c.args.counts.now c.args.counts.now _ _ (omega arith) (IsPaid-none c.args.counts.now _);
    }

pub push-requires-clause-master : goal.push-requires-clause-master
push-requires-clause-master g c = built-master ATTACHED_FILE c.args.attached.now.offset 0 _ c.loop-at.entry c.loop-at.invariant.built

pub push-requires-clause-room : goal.push-requires-clause-room
push-requires-clause-room g c = omega (arith, c.in_ok-header.ensures.leaf.flat)

pub loop-at-preserved : goal.loop-at-preserved
loop-at-preserved g c =
    let h = c.args.attached.now in
    let inv = c.loop-at.invariant in
    let end = h.body + c.known.result in
    let at = c.loop-at.at in
    let head = c.in_ok-header.field-0.header in
    let child = c.in_ok-header.ensures.child in
    let placed = child.placed in
    let within = child.inside in
    let size : c.known-in-loop-at.result ≡ known head.size = c.known-in-loop-at.ensures in
    let inside : at < end = omega arith in
    let behind : head.body + c.known-in-loop-at.result ≡ stated_end head = ap (λ n. head.body + n) size in
    let built = built-part h.offset c.loop-at.entry c.in_ok-header.field-0.leaf c.push.new.self inv.built (put-is _ _ _ _ c.in_ok-push.ensures.ok c.in_ok-push.ensures.full) c.in_ok-header.ensures.leaf in
    let kids = built-children ATTACHED_FILE h.offset 0 (children c.loop-at.entry ++ c.in_ok-header.field-0.leaf ∷ []) c.push.new.self built in
    record {
      begin = omega arith;
      place = omega arith;
      standing = c.in_ok-header.ensures.standing ∙ inv.standing;
      faults = c.in_ok-header.ensures.cause ∙ inv.faults;
      built = built-own ATTACHED_FILE h.offset 0 _ c.push.new.self built;
      inside = first-inside c.loop-at.first c.first_data-first.result head end inv.inside within c.first_data-first.ensures;
      met = λ bytes told.
          let now = ap (λ s. (g.R.Reads.files s).content c.args.file.n) inv.standing ∙ told in
          IsMet-more (at_part bytes) bytes h.body at end (head.body + c.known-in-loop-at.result) c.args.counts.now c.loop-at.counts c.read_part.new.counts head c.in_ok-header.field-0 (inv.met bytes told) inside (c.in_ok-header.ensures.exact bytes now).found behind (c.in_ok-header.ensures.meets bytes now);
      read = λ bytes told.
          let now = ap (λ s. (g.R.Reads.files s).content c.args.file.n) inv.standing ∙ told in
          AreRead-more bytes h.body at end (head.body + c.known-in-loop-at.result) (children c.loop-at.entry) (children c.push.new.self) c.loop-at.first c.first_data-first.result c.in_ok-header.field-0 (inv.read bytes told) inside (c.in_ok-header.ensures.exact bytes now) behind kids c.first_data-first.ensures;
      pays = IsPaid-on h.body at (head.body + c.known-in-loop-at.result) c.args.counts.now c.loop-at.counts c.read_part.new.counts _ _ _ inv.begin (omega arith) inv.pays
          (IsPaid-longer _ _ _ _ _ _ (omega arith) c.in_ok-header.ensures.pays);
    }

-- There is damage instead of a child.
pub returns-in_err-header-clause-meets : goal.returns-in_err-header-clause-meets
returns-in_err-header-clause-meets g c = λ bytes told.
    let h = c.args.attached.now in
    let inv = c.loop-at.invariant in
    let now = ap (λ s. (g.R.Reads.files s).content c.args.file.n) inv.standing ∙ told in
    let inside : c.loop-at.at < h.body + c.known.result = omega arith in
    let end : h.body + c.known.result ≡ stated_end h = ap (λ n. h.body + n) c.known.ensures in
    let p = err_from_is_err_and c.from_residual-in_err-header.result c.from_residual-in_err-header.ensures.1 in
    rw (p.1, p.2) (subst (λ (e : ℕ). Meets {T = Parts} (met_in (at_part bytes) (run_at bytes h.body e)) c.args.counts.now c.read_part.new.counts (Err c.in_err-header.field-0.0)) end
    (IsMet-stops Part Parts (at_part bytes) bytes h.body c.loop-at.at (h.body + c.known.result) c.args.counts.now c.loop-at.counts c.read_part.new.counts c.read_part.new.counts c.in_err-header.field-0.0 (inv.met bytes told) inside (c.in_err-header.ensures.meets bytes now)))

pub returns-in_err-header-clause-pays : goal.returns-in_err-header-clause-pays
returns-in_err-header-clause-pays g c =
    let h = c.args.attached.now in
    let inv = c.loop-at.invariant in
    let inside : c.loop-at.at < h.body + c.known.result = omega arith in
    let p = err_from_is_err_and c.from_residual-in_err-header.result c.from_residual-in_err-header.ensures.1 in
    rw p.1 (IsSpent-longer (h.body + c.known.result - h.body) _ _ _ _ _ (omega arith)
    (IsSpent-on h.body c.loop-at.at (h.body + c.known.result) c.args.counts.now c.loop-at.counts c.read_part.new.counts _ _ _ inv.begin (omega arith) inv.pays c.in_err-header.ensures.pays))

-- All children are read.

pub set-requires-clause-master : goal.set-requires-clause-master
set-requires-clause-master g c = built-master ATTACHED_FILE c.args.attached.now.offset 0 _ c.loop-at.entry c.loop-at.invariant.built

pub leaf-requires : goal.leaf-requires
leaf-requires g c = file_data-valid

pub returns-clause-meets : goal.returns-clause-meets
returns-clause-meets g c = λ bytes told.
    let h = c.args.attached.now in
    let inv = c.loop-at.invariant in
    let past : h.body + c.known.result ≤ c.loop-at.at = omega arith in
    let end : h.body + c.known.result ≡ stated_end h = ap (λ n. h.body + n) c.known.ensures in
    let parts : Parts = record { entry = c.set.new.self; first = c.loop-at.first } in
    subst (λ (e : ℕ). Meets {T = Parts} (met_in (at_part bytes) (run_at bytes h.body e)) c.args.counts.now c.loop-at.counts (Ok parts)) end
    (IsMet-all (at_part bytes) bytes h.body c.loop-at.at (h.body + c.known.result) c.args.counts.now c.loop-at.counts parts (inv.met bytes told) past)

pub returns-clause-exact : goal.returns-clause-exact
returns-clause-exact g c = λ bytes told.
    let h = c.args.attached.now in
    let inv = c.loop-at.invariant in
    let past : h.body + c.known.result ≤ c.loop-at.at = omega arith in
    let end : h.body + c.known.result ≡ stated_end h = ap (λ n. h.body + n) c.known.ensures in
    let read = subst (λ (e : ℕ). AreRead bytes h.body c.loop-at.at e (children c.loop-at.entry) c.loop-at.first) end (inv.read bytes told) in
    let behind : stated_end h ≤ c.loop-at.at = omega (arith, end) in
    let built = built-data h.offset c.loop-at.entry c.in_ok-leaf.field-0 c.set.new.self inv.built c.in_ok-leaf.ensures.exact c.in_ok-set.ensures.ok c.in_ok-set.ensures.full c.in_ok-set.ensures.sound in
    record {
      entry = entry-is bytes h (children c.loop-at.entry) c.set.new.self built (AreRead-leaves bytes h.body c.loop-at.at (stated_end h) (children c.loop-at.entry) c.loop-at.first read behind);
      first = AreRead-first bytes h.body c.loop-at.at (stated_end h) (children c.loop-at.entry) c.loop-at.first read behind;
    }

pub returns-clause-sound : goal.returns-clause-sound
returns-clause-sound g c =
    let h = c.args.attached.now in
    let inv = c.loop-at.invariant in
    let end : h.body + c.known.result ≡ stated_end h = ap (λ n. h.body + n) c.known.ensures in
    let built = built-data h.offset c.loop-at.entry c.in_ok-leaf.field-0 c.set.new.self inv.built c.in_ok-leaf.ensures.exact c.in_ok-set.ensures.ok c.in_ok-set.ensures.full c.in_ok-set.ensures.sound in
    record {
      entry = built-attachment h.offset (children c.loop-at.entry) c.set.new.self built;
      inside = subst (λ (e : ℕ). IfSome c.loop-at.first (λ (d : Header). stated_end d ≤ e)) end inv.inside;
    }

pub returns-clause-pays : goal.returns-clause-pays
returns-clause-pays g c =
    let h = c.args.attached.now in
    let inv = c.loop-at.invariant in
    let within : c.loop-at.at ≤ h.body + c.known.result = inv.place in
    IsPaid-longer (c.loop-at.at - h.body) _ _ _ _ _ (omega arith) inv.pays
