use Rattle.std.proofs.Common.{◌≡◌, ◌∙◌, ap, sym, subst, drop, ◌∷◌, List, ℕ, length}
use Rattle.mkv_disk.specs.Pair.{Pair, both}
use Rattle.sidecar_edit.specs.declared.place.TheConstants.{OPEN}
use Rattle.sidecar_edit.specs.Fields.{writes_of}
use Rattle.sidecar_edit.specs.Writes.{Fits, Write, applied}
use Rattle.sidecar_edit.proofs.EditLemmas.{closed, fits-of_plan, opened, recorded, written}
use Rattle.sidecar_edit.proofs.edit.commit.Goals as goal

pub returns-in_err-write_record-clause-any_moment : goal.returns-in_err-write_record-clause-any_moment
returns-in_err-write_record-clause-any_moment g c = λ told.
    recorded _ _ g.D.Disk.pair c.args.plan.now _ c.write_record.ensures.sound c.requires.some (c.requires.made told) _ (c.write_record.ensures.any_moment told)

pub returns-in_err-set_gate-clause-any_moment : goal.returns-in_err-set_gate-clause-any_moment
returns-in_err-set_gate-clause-any_moment g c = λ told.
    let sound = c.write_record.ensures.sound in let some = c.requires.some in let made = c.requires.made told in
    opened _ _ g.D.Disk.pair c.args.plan.now _ sound some made _ _ (c.in_ok-write_record.ensures.ok told)
    (recorded _ _ g.D.Disk.pair c.args.plan.now _ sound some made _ (c.write_record.ensures.any_moment told)) (c.set_gate.ensures.any_moment told)

-- the pair once the gate is open
gate_is_open : (p q : Pair) (M body : List ℕ) → p ≡ both M (0 ∷ body) → q ≡ both p.media.reads (OPEN ∷ drop 1 p.sidecar.reads) → q ≡ both M (OPEN ∷ body)
gate_is_open p q M body before after = after ∙ ap (λ (r : Pair). both r.media.reads (OPEN ∷ drop 1 r.sidecar.reads)) before

writes_are_made : (p q : Pair) (M body : List ℕ) (ws : List Write) → p ≡ both M (OPEN ∷ body) → q ≡ both (applied p.media.reads ws) p.sidecar.reads → q ≡ both (applied M ws) (OPEN ∷ body)
writes_are_made p q M body ws before after = after ∙ ap (λ (r : Pair). both (applied r.media.reads ws) r.sidecar.reads) before

pub write_media-requires-clause-fits : goal.write_media-requires-clause-fits
write_media-requires-clause-fits g c = λ told.
    let gate_open = gate_is_open _ _ _ _ (c.in_ok-write_record.ensures.ok told) (c.in_ok-set_gate.ensures.ok told) in
    subst (λ (q : Pair). Fits (length q.media.reads) (writes_of c.args.plan.now)) (sym gate_open) (fits-of_plan c.args.plan.now _ c.write_record.ensures.sound c.requires.some (c.requires.made told))

pub returns-in_err-write_media-clause-any_moment : goal.returns-in_err-write_media-clause-any_moment
returns-in_err-write_media-clause-any_moment g c = λ told.
    let sound = c.write_record.ensures.sound in let some = c.requires.some in let made = c.requires.made told in
    written _ _ g.D.Disk.pair c.args.plan.now _ sound some made _ _ (gate_is_open _ _ _ _ (c.in_ok-write_record.ensures.ok told) (c.in_ok-set_gate.ensures.ok told))
    (opened _ _ g.D.Disk.pair c.args.plan.now _ sound some made _ _ (c.in_ok-write_record.ensures.ok told)
    (recorded _ _ g.D.Disk.pair c.args.plan.now _ sound some made _ (c.write_record.ensures.any_moment told)) (c.set_gate.ensures.any_moment told))
    (c.write_media.ensures.any_moment told)

pub returns-in_err-close-clause-any_moment : goal.returns-in_err-close-clause-any_moment
returns-in_err-close-clause-any_moment g c = λ told.
    let sound = c.write_record.ensures.sound in let some = c.requires.some in let made = c.requires.made told in
    let gate_open = gate_is_open _ _ _ _ (c.in_ok-write_record.ensures.ok told) (c.in_ok-set_gate.ensures.ok told) in
    closed _ _ g.D.Disk.pair c.args.plan.now _ sound some made _ _ (writes_are_made _ _ _ _ (writes_of c.args.plan.now) gate_open (c.in_ok-write_media.ensures.ok told))
    (written _ _ g.D.Disk.pair c.args.plan.now _ sound some made _ _ gate_open
    (opened _ _ g.D.Disk.pair c.args.plan.now _ sound some made _ _ (c.in_ok-write_record.ensures.ok told)
    (recorded _ _ g.D.Disk.pair c.args.plan.now _ sound some made _ (c.write_record.ensures.any_moment told)) (c.set_gate.ensures.any_moment told))
    (c.write_media.ensures.any_moment told))
    (c.close.ensures.any_moment told)

pub returns-clause-any_moment : goal.returns-clause-any_moment
returns-clause-any_moment g c = λ told.
    let sound = c.write_record.ensures.sound in let some = c.requires.some in let made = c.requires.made told in
    let gate_open = gate_is_open _ _ _ _ (c.in_ok-write_record.ensures.ok told) (c.in_ok-set_gate.ensures.ok told) in
    closed _ _ g.D.Disk.pair c.args.plan.now _ sound some made _ _ (writes_are_made _ _ _ _ (writes_of c.args.plan.now) gate_open (c.in_ok-write_media.ensures.ok told))
    (written _ _ g.D.Disk.pair c.args.plan.now _ sound some made _ _ gate_open
    (opened _ _ g.D.Disk.pair c.args.plan.now _ sound some made _ _ (c.in_ok-write_record.ensures.ok told)
    (recorded _ _ g.D.Disk.pair c.args.plan.now _ sound some made _ (c.write_record.ensures.any_moment told)) (c.set_gate.ensures.any_moment told))
    (c.write_media.ensures.any_moment told))
    (c.close.ensures.any_moment told)
