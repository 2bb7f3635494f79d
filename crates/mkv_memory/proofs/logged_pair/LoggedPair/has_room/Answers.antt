use Rattle.std.proofs.Common.{◌≡◌, ◌+◌, ◌-◌, ◌<◌, ◌&&◌, ◌∙◌, nat_le, nat_lt, ap, sym, arith, length}
use Rattle.std.proofs.lemmas.Bool.{and_left, le-ltb, lt-ltb}
use Rattle.mkv_memory.specs.Logged.{has_room}
use Rattle.mkv_memory.proofs.LogLemmas.{has_room-kept, le-left}
use Rattle.mkv_memory.proofs.logged_pair.LoggedPair.has_room.Goals as goal

pub returns-then-len-self : goal.returns-then-len-self
returns-then-len-self c =
    let p = c.self.inside in let n = c.args.octets in
    let calls = c.len.ensures in let fits = c.if-len-self.true in let octets = c.len-then-len-self.ensures in let within = c.self.invariant.within in
    let same : c.len-then-len-self.result ≡ length p.octets.items = omega arith in
    let few : length p.calls.items < p.room.calls = omega arith in
    ap (λ k. nat_le n (p.room.octets - k)) same ∙ le-left n p.room.octets (length p.octets.items) within
    ∙ ap (λ b. b && nat_le (length p.octets.items + n) p.room.octets) (sym (lt-ltb (length p.calls.items) p.room.calls few))
    ∙ sym (has_room-kept p.first_media.items p.first_sidecar.items p.room p.calls.items p.octets.items c.self.invariant.count n) ∙ ap (λ l. has_room l n) c.self.view_is

pub returns-else-len-self : goal.returns-else-len-self
returns-else-len-self c =
    let p = c.self.inside in let n = c.args.octets in
    let calls = c.len.ensures in let full = c.if-len-self.false in
    le-ltb c.len.result p.room.calls full
    ∙ sym (and_left (nat_lt (length p.calls.items) p.room.calls) (nat_le (length p.octets.items + n) p.room.octets) (le-ltb (length p.calls.items) p.room.calls (omega arith)))
    ∙ sym (has_room-kept p.first_media.items p.first_sidecar.items p.room p.calls.items p.octets.items c.self.invariant.count n) ∙ ap (λ l. has_room l n) c.self.view_is
