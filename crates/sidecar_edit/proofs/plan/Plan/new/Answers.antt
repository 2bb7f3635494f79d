use Rattle.std.proofs.Common.{◌≡◌, ◌++◌, ◌+◌, ◌-◌, ◌∙◌, List, ℕ, drop, ap, sym, subst, length, arith}
use Rattle.std.proofs.lemmas.Grind.{common_steps}
use Rattle.sidecar_edit.specs.declared.place.TheConstants.{HEAD, MAX_WRITES}
use Rattle.sidecar_edit.specs.Fields.{body_of, front_octets, mark_octets, slots}
use Rattle.sidecar_edit.specs.Plan.{IsRecorded, planned}
use Rattle.sidecar_edit.proofs.PlanLemmas.{recorded}
use Rattle.sidecar_edit.proofs.plan.Plan.new.Goals as goal

octets_are : (c : goal.After-from_vec) → c.append.new.self ≡ body_of (planned c.args.old_len c.args.new_len c.args.first.now c.args.places.items c.args.payload.now)
octets_are c =
    let front = front_octets (HEAD + length c.args.payload.now) c.args.new_len (length c.args.places.items) in
    let eight = slots MAX_WRITES c.args.places.items in
    let marks = mark_octets c.args.old_len c.args.first.now in
    let one : c.append_front.new.octets ≡ front = grind (arith, common_steps) in
    let two : c.append_places.new.octets ≡ c.append_front.new.octets ++ eight = grind (arith, common_steps) in
    let three : c.append_marks.new.octets ≡ c.append_places.new.octets ++ marks = c.in_ok-append_marks.ensures in
    let four : c.append.new.self ≡ c.append_marks.new.octets ++ c.args.payload.now = c.in_ok-append.ensures.ok in
    four ∙ ap (λ octets. octets ++ c.args.payload.now) (three ∙ ap (λ octets. octets ++ marks) (two ∙ ap (λ octets. octets ++ eight) one))
    ∙ ap (λ n. front_octets (HEAD + n) c.args.new_len (length c.args.places.items) ++ (eight ++ marks) ++ c.args.payload.now) c.requires.full

-- The stored first bytes are the given ones.
first_is : (c : goal.After-from_vec) → c.from_vec.result ≡ c.args.first.now
first_is c = grind (arith, common_steps)

payload_is : (c : goal.After-from_vec) → drop (HEAD - 1) c.append.new.self ≡ c.args.payload.now
payload_is c = recorded (planned c.args.old_len c.args.new_len c.args.first.now c.args.places.items c.args.payload.now) c.append.new.self c.requires (octets_are c)

pub invariant_of-result : goal.invariant_of-result
invariant_of-result c =
    subst (λ (first : List ℕ). IsRecorded (planned c.args.old_len c.args.new_len first c.args.places.items (drop (HEAD - 1) c.append.new.self)) c.append.new.self) (sym (first_is c))
    (subst (λ (payload : List ℕ). IsRecorded (planned c.args.old_len c.args.new_len c.args.first.now c.args.places.items payload) c.append.new.self) (sym (payload_is c))
    (record { plan = c.requires; is = octets_are c }))

pub returns : goal.returns
returns c = λ i. planned c.args.old_len c.args.new_len (first_is c i) c.args.places.items (payload_is c i)
