use Rattle.std.proofs.Common.{◌≡◌, ◌≤◌, ◌++◌, ◌∷◌, [], ◌∙◌, ap, subst, sym, arith, length}
use Rattle.std.proofs.lemmas.Grind.{common_steps}
use Rattle.std.specs.Vec.{vec_capacity}
use Rattle.mkv_disk.specs.Pair.{file_of}
use Rattle.mkv_memory.specs.Changes.{CanChange, pair_of, reads_by}
use Rattle.mkv_memory.specs.Logged.{Logged, and_then}
use Rattle.mkv_memory.specs.LogIn.{change_of}
use Rattle.mkv_memory.proofs.LogLemmas.{logged-more, media-more, room-left, sidecar-more}
use Rattle.mkv_memory.proofs.logged_pair.LoggedPair.make.Goals as goal

-- There is room in each of the lists.

pub unwrap-requires : goal.unwrap-requires
unwrap-requires c =
    let p = c.self.inside in
    let left = room-left p.first_media.items p.first_sidecar.items p.room p.calls.items p.octets.items c.self.invariant.count c.args.self.now (length c.args.bytes.now) c.self.view_is c.requires.room in
    let room = c.self.invariant.octets_room in
    c.extend_from_slice.ensures.succeeds (omega (arith, left.1, room))

pub unwrap-requires-2 : goal.unwrap-requires-2
unwrap-requires-2 c =
    let p = c.self.inside in
    let left = room-left p.first_media.items p.first_sidecar.items p.room p.calls.items p.octets.items c.self.invariant.count c.args.self.now (length c.args.bytes.now) c.self.view_is c.requires.room in
    let room = c.self.invariant.calls_room in
    c.push.ensures.succeeds (omega (arith, left.0, room))

pub unwrap-requires-then-eq : goal.unwrap-requires-then-eq
unwrap-requires-then-eq c =
    let p = c.self.inside in
    let left = room-left p.first_media.items p.first_sidecar.items p.room p.calls.items p.octets.items c.self.invariant.count c.args.self.now (length c.args.bytes.now) c.self.view_is c.requires.room in
    let room = c.self.invariant.media_room in
    c.apply.ensures.room (omega (arith, left.1, room))

pub unwrap-requires-else-eq : goal.unwrap-requires-else-eq
unwrap-requires-else-eq c =
    let p = c.self.inside in
    let left = room-left p.first_media.items p.first_sidecar.items p.room p.calls.items p.octets.items c.self.invariant.count c.args.self.now (length c.args.bytes.now) c.self.view_is c.requires.room in
    let room = c.self.invariant.sidecar_room in
    c.apply-else-eq.ensures.room (omega (arith, left.1, room))

-- One more call is logged, and it changes the content.

pub invariant_of-self : goal.invariant_of-self
invariant_of-self c =
    let p = c.self.inside in
    let octets : c.extend_from_slice.new.self.items ≡ p.octets.items ++ c.args.bytes.now = grind (arith, common_steps) in
    let calls : c.push.new.self.items ≡ p.calls.items ++ record { file = c.args.file; done = c.args.done } ∷ [] = grind (arith, common_steps) in
    let left = room-left p.first_media.items p.first_sidecar.items p.room p.calls.items p.octets.items c.self.invariant.count c.args.self.now (length c.args.bytes.now) c.self.view_is c.requires.room in
    let octets_grow : vec_capacity p.octets ≤ vec_capacity c.extend_from_slice.new.self = c.extend_from_slice.ensures.capacity in
    let calls_grow : vec_capacity p.calls ≤ vec_capacity c.push.new.self = c.push.ensures.capacity in
    let is : c.args.file.n ≡ 0 = grind (arith, common_steps) in
    let pair = subst (λ (l : Logged). CanChange (change_of c.args.done c.args.bytes.now) (file_of c.args.file.n (pair_of l.history)).reads) (sym c.self.view_is) c.requires.inside in
    let reads : c.apply.new.reads.items ≡ reads_by (change_of c.args.done c.args.bytes.now) p.media.items = grind (arith, common_steps) in
    media-more p.first_media.items p.first_sidecar.items p.room p.media p.sidecar p.octets c.extend_from_slice.new.self p.calls c.push.new.self c.self.invariant (record { file = c.args.file; done = c.args.done }) c.args.bytes.now c.requires.count left.1 octets calls octets_grow calls_grow pair c.apply.new.reads is reads c.apply.ensures.capacity

pub invariant_of-self-else-eq : goal.invariant_of-self-else-eq
invariant_of-self-else-eq c =
    let p = c.self.inside in
    let octets : c.extend_from_slice.new.self.items ≡ p.octets.items ++ c.args.bytes.now = grind (arith, common_steps) in
    let calls : c.push.new.self.items ≡ p.calls.items ++ record { file = c.args.file; done = c.args.done } ∷ [] = grind (arith, common_steps) in
    let left = room-left p.first_media.items p.first_sidecar.items p.room p.calls.items p.octets.items c.self.invariant.count c.args.self.now (length c.args.bytes.now) c.self.view_is c.requires.room in
    let octets_grow : vec_capacity p.octets ≤ vec_capacity c.extend_from_slice.new.self = c.extend_from_slice.ensures.capacity in
    let calls_grow : vec_capacity p.calls ≤ vec_capacity c.push.new.self = c.push.ensures.capacity in
    let is : c.args.file.n ≡ 0 → ⊥ = grind (arith, common_steps) in
    let pair = subst (λ (l : Logged). CanChange (change_of c.args.done c.args.bytes.now) (file_of c.args.file.n (pair_of l.history)).reads) (sym c.self.view_is) c.requires.inside in
    let reads : c.apply-else-eq.new.reads.items ≡ reads_by (change_of c.args.done c.args.bytes.now) p.sidecar.items = grind (arith, common_steps) in
    sidecar-more p.first_media.items p.first_sidecar.items p.room p.media p.sidecar p.octets c.extend_from_slice.new.self p.calls c.push.new.self c.self.invariant (record { file = c.args.file; done = c.args.done }) c.args.bytes.now c.requires.count left.1 octets calls octets_grow calls_grow pair c.apply-else-eq.new.reads is reads c.apply-else-eq.ensures.capacity

pub returns-then-eq : goal.returns-then-eq
returns-then-eq c =
    let p = c.self.inside in
    let octets : c.extend_from_slice.new.self.items ≡ p.octets.items ++ c.args.bytes.now = grind (arith, common_steps) in
    let calls : c.push.new.self.items ≡ p.calls.items ++ record { file = c.args.file; done = c.args.done } ∷ [] = grind (arith, common_steps) in
    let left = room-left p.first_media.items p.first_sidecar.items p.room p.calls.items p.octets.items c.self.invariant.count c.args.self.now (length c.args.bytes.now) c.self.view_is c.requires.room in
    let octets_grow : vec_capacity p.octets ≤ vec_capacity c.extend_from_slice.new.self = c.extend_from_slice.ensures.capacity in
    let calls_grow : vec_capacity p.calls ≤ vec_capacity c.push.new.self = c.push.ensures.capacity in
    let pair = subst (λ (l : Logged). CanChange (change_of c.args.done c.args.bytes.now) (file_of c.args.file.n (pair_of l.history)).reads) (sym c.self.view_is) c.requires.inside in
    logged-more p.first_media.items p.first_sidecar.items p.room p.media p.sidecar p.octets c.extend_from_slice.new.self p.calls c.push.new.self c.self.invariant (record { file = c.args.file; done = c.args.done }) c.args.bytes.now c.requires.count left.1 octets calls octets_grow calls_grow pair
    ∙ ap (λ (l : Logged). and_then l c.args.file.n (change_of c.args.done c.args.bytes.now)) c.self.view_is

pub returns-else-eq : goal.returns-else-eq
returns-else-eq c =
    let p = c.self.inside in
    let octets : c.extend_from_slice.new.self.items ≡ p.octets.items ++ c.args.bytes.now = grind (arith, common_steps) in
    let calls : c.push.new.self.items ≡ p.calls.items ++ record { file = c.args.file; done = c.args.done } ∷ [] = grind (arith, common_steps) in
    let left = room-left p.first_media.items p.first_sidecar.items p.room p.calls.items p.octets.items c.self.invariant.count c.args.self.now (length c.args.bytes.now) c.self.view_is c.requires.room in
    let octets_grow : vec_capacity p.octets ≤ vec_capacity c.extend_from_slice.new.self = c.extend_from_slice.ensures.capacity in
    let calls_grow : vec_capacity p.calls ≤ vec_capacity c.push.new.self = c.push.ensures.capacity in
    let pair = subst (λ (l : Logged). CanChange (change_of c.args.done c.args.bytes.now) (file_of c.args.file.n (pair_of l.history)).reads) (sym c.self.view_is) c.requires.inside in
    logged-more p.first_media.items p.first_sidecar.items p.room p.media p.sidecar p.octets c.extend_from_slice.new.self p.calls c.push.new.self c.self.invariant (record { file = c.args.file; done = c.args.done }) c.args.bytes.now c.requires.count left.1 octets calls octets_grow calls_grow pair
    ∙ ap (λ (l : Logged). and_then l c.args.file.n (change_of c.args.done c.args.bytes.now)) c.self.view_is
