use Rattle.std.proofs.Common.{true, Ok, ◌≡◌, ◌+◌, ◌<◌, ◌≤◌, ◌++◌, ◌-◌, ◌^◌, List, ℕ, length, min, sym, subst, arith}
use Rattle.elementary.specs.Aac.{adts_header}
use Rattle.mkv_outputs.specs.Outputs.{with_more}
use Rattle.mkv_outputs.specs.Sinks.{Gives}
use Rattle.mkv_outputs.proofs.FilesLemmas.{WritesOutputs-then}
use Rattle.extractors.proofs.CodecLemmas.{adts-bad, adts-good, adts-none, adts-some}
use Rattle.extractors.proofs.FramesLemmas.{Gives-err, Gives-then, HasGiven, HasGiven-none, HasPart, HasPart-first}
use Rattle.extractors.proofs.frames.give_headed.Goals as goal

-- A length that isn't too long isn't a saturated sum.
summed : (n a b : ℕ) → n ≡ min (a + b) (2 ^ 64 - 1) → n ≤ 8184 → n ≡ a + b
summed n a b is few = omega (arith, is, few)

longer : (n a b : ℕ) → n ≡ min (a + b) (2 ^ 64 - 1) → 8184 < n → 8184 < a + b
longer n a b is many = omega (arith, is, many)

-- A frame that is too long writes nothing.
pub returns-then-len-gt-LONGEST_FRAME-clause-gives : goal.returns-then-len-gt-LONGEST_FRAME-clause-gives
returns-then-len-gt-LONGEST_FRAME-clause-gives g c =
    let prefix = c.args.prefix.now in
    let octets = c.args.octets.now in
    let n = c.saturating_add-len.result in
    let many : 8184 < n = omega (arith, c.if-len-gt-LONGEST_FRAME.true) in
    HasGiven-none g.F.Files c.args.files.now c.args.outputs.now c.args.k _
    (adts-bad c.args.aac.now prefix octets (longer n (length prefix) (length octets) c.saturating_add-len.ensures many))

-- The header was written in part.
pub returns-in_err-write-clause-gives : goal.returns-in_err-write-clause-gives
returns-in_err-write-clause-gives g c =
    let prefix = c.args.prefix.now in
    let octets = c.args.octets.now in
    let n = c.saturating_add-len.result in
    let few : n ≤ 8184 = omega (arith, c.if-len-gt-LONGEST_FRAME.false) in
    let good = adts-good c.args.aac.now prefix octets n (summed n (length prefix) (length octets) c.saturating_add-len.ensures few) few in
    subst (λ (all : List ℕ). Gives g.F.Files c.args.files.now c.write.new.files c.args.outputs.now c.write.new.self (with_more c.args.k all) c.from_residual.result) (sym good)
    (Gives-err g.F.Files c.args.files.now c.write.new.files c.args.outputs.now c.write.new.self c.args.k _ c.from_residual.result c.from_residual.ensures.0
    (HasPart-first g.F.Files c.args.files.now c.write.new.files c.args.outputs.now c.args.k (adts_header c.args.aac.now (7 + n)) (prefix ++ octets)
    (subst (λ (header : List ℕ). HasPart g.F.Files c.args.files.now c.write.new.files c.args.outputs.now c.args.k header) c.adts_header.ensures c.in_err-write.ensures.gives)))

-- The frame was written in part.
pub returns-in_err-give_behind-clause-gives : goal.returns-in_err-give_behind-clause-gives
returns-in_err-give_behind-clause-gives g c =
    let prefix = c.args.prefix.now in
    let octets = c.args.octets.now in
    let n = c.saturating_add-len.result in
    let few : n ≤ 8184 = omega (arith, c.if-len-gt-LONGEST_FRAME.false) in
    let good = adts-good c.args.aac.now prefix octets n (summed n (length prefix) (length octets) c.saturating_add-len.ensures few) few in
    subst (λ (all : List ℕ). Gives g.F.Files c.args.files.now c.give_behind.new.files c.args.outputs.now c.give_behind.new.outputs (with_more c.args.k all) c.from_residual-in_err-give_behind.result) (sym good)
    (Gives-then g.F.Files c.args.files.now c.write.new.files c.give_behind.new.files c.args.outputs.now c.write.new.self c.give_behind.new.outputs c.args.k (adts_header c.args.aac.now (7 + n)) (prefix ++ octets) c.from_residual-in_err-give_behind.result
    (subst (λ (header : List ℕ). HasGiven g.F.Files c.args.files.now c.write.new.files c.args.outputs.now c.write.new.self c.args.k header) c.adts_header.ensures c.in_ok-write.ensures.gives)
    (Gives-err g.F.Files c.write.new.files c.give_behind.new.files c.write.new.self c.give_behind.new.outputs c.args.k (prefix ++ octets) c.from_residual-in_err-give_behind.result c.from_residual-in_err-give_behind.ensures.0 c.in_err-give_behind.ensures.gives))

pub returns-in_err-give_behind-clause-only : goal.returns-in_err-give_behind-clause-only
returns-in_err-give_behind-clause-only g c =
    WritesOutputs-then g.F.Reads g.F.Files c.args.files.now c.write.new.files c.give_behind.new.files c.args.outputs.now c.write.new.self c.give_behind.new.outputs c.requires.open c.write.ensures.only c.give_behind.ensures.only

-- The frame follows its header.
pub returns-clause-gives : goal.returns-clause-gives
returns-clause-gives g c =
    let prefix = c.args.prefix.now in
    let octets = c.args.octets.now in
    let n = c.saturating_add-len.result in
    let few : n ≤ 8184 = omega (arith, c.if-len-gt-LONGEST_FRAME.false) in
    let good = adts-good c.args.aac.now prefix octets n (summed n (length prefix) (length octets) c.saturating_add-len.ensures few) few in
    subst (λ (all : List ℕ). HasGiven g.F.Files c.args.files.now c.give_behind.new.files c.args.outputs.now c.give_behind.new.outputs c.args.k all) (sym good)
    (Gives-then {E = Unit {0}} g.F.Files c.args.files.now c.write.new.files c.give_behind.new.files c.args.outputs.now c.write.new.self c.give_behind.new.outputs c.args.k (adts_header c.args.aac.now (7 + n)) (prefix ++ octets) (Ok true)
    (subst (λ (header : List ℕ). HasGiven g.F.Files c.args.files.now c.write.new.files c.args.outputs.now c.write.new.self c.args.k header) c.adts_header.ensures c.in_ok-write.ensures.gives)
    c.in_ok-give_behind.ensures.gives)

-- All bytes were written.
pub returns-clause-only : goal.returns-clause-only
returns-clause-only g c =
    WritesOutputs-then g.F.Reads g.F.Files c.args.files.now c.write.new.files c.give_behind.new.files c.args.outputs.now c.write.new.self c.give_behind.new.outputs c.requires.open c.write.ensures.only c.give_behind.ensures.only

-- A frame that is too long has no written form, and another one has.
pub returns-then-len-gt-LONGEST_FRAME-clause-good : goal.returns-then-len-gt-LONGEST_FRAME-clause-good
returns-then-len-gt-LONGEST_FRAME-clause-good g c =
    let many : 8184 < c.saturating_add-len.result = omega (arith, c.if-len-gt-LONGEST_FRAME.true) in
    sym (adts-none c.args.aac.now c.args.prefix.now c.args.octets.now
    (longer c.saturating_add-len.result (length c.args.prefix.now) (length c.args.octets.now) c.saturating_add-len.ensures many))

pub returns-clause-good : goal.returns-clause-good
returns-clause-good g c =
    let few : c.saturating_add-len.result ≤ 8184 = omega (arith, c.if-len-gt-LONGEST_FRAME.false) in
    sym (adts-some c.args.aac.now c.args.prefix.now c.args.octets.now c.saturating_add-len.result
    (summed c.saturating_add-len.result (length c.args.prefix.now) (length c.args.octets.now) c.saturating_add-len.ensures few) few)
