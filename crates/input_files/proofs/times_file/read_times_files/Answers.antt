use Rattle.std.proofs.Common.{◌≡◌, ◌+◌, ◌-◌, ℕ, List, [], ◌++◌, sym, ◌∙◌, ap, append-nil, arith, rules, subst}
use Rattle.std.proofs.lemmas.Grind.{common_steps}
use Rattle.std.proofs.lemmas.List.{nil_from_length}
use Rattle.sidecar_edit.specs.Pending.{LooksOnly}
use Rattle.input_files.specs.TimesFile.{given_with, octets_with, size_with, times_from, times_names, times_octets}
use Rattle.input_files.specs.declared.limits.TheConstants.{MAX_ALL_TIMES_LEN}
use Rattle.input_files.specs.declared.times_file.TimesGiven.{TimesGiven}
use Rattle.input_files.specs.declared.times_file.TimesName.{TimesName}
use Rattle.input_files.proofs.LooksLemmas.{LooksOnly-times, among-rest}
use Rattle.input_files.proofs.TimesLemmas.{given-more, octets-more, octets_of}
use Rattle.input_files.proofs.times_file.read_times_files.Goals as goal

-- One more timestamp file is read.
pub loop-named-preserved : goal.loop-named-preserved
loop-named-preserved g c =
    let inv = c.loop-named.invariant in
    let n : TimesName = c.in-Some.named in
    let left : List TimesName = c.loop-named.named-iterator.rest.items in
    let rest : List TimesName = c.next.new.self.rest.items in
    let found = c.in_ok-found.found in
    let all : List TimesName = c.into_iter-named-iterator.result.rest.items in
    record {
      exact = λ world told.
          let at = inv.looks.names ∙ told in
          let less : c.saturating_sub-room.result ≡ c.loop-named.room - found.size = first_of (search rules, omega arith, grind (arith, common_steps)) in
          given-more world c.loop-named.room c.saturating_sub-room.result n left rest (record { named = n; given = found.given }) c.loop-named.list c.push.new.self
          (times_from world MAX_ALL_TIMES_LEN c.into_iter-named-iterator.result.rest.items) c.in-Some.ensures.steps.0 (inv.exact world told) (ap (λ (x : TimesGiven). record { named = n; given = x })
          (c.in_ok-found.ensures.exact world at ∙ ap (λ (name : List ℕ). given_with c.loop-named.room (world name)) c.as_str.ensures.same)) c.in_ok-push.ensures.ok
          (less ∙ ap (λ (s : ℕ). c.loop-named.room - s) (c.in_ok-found.ensures.size world at ∙ ap (λ (name : List ℕ). size_with (world name)) c.as_str.ensures.same));
      looks = LooksOnly-times g.F.Reads g.F.Files all left rest n c.as_str.result.now c.args.files.now c.loop-named.files c.read_named.new.files
          c.in-Some.ensures.steps.0 c.as_str.ensures.same inv.among inv.looks c.read_named.ensures.looks;
      among = λ name others. (among-rest all left rest n c.in-Some.ensures.steps.0 inv.among name others).1;
      reading = c.in_ok-found.ensures.cause ∙ inv.reading;
      octets = λ world told.
          let at = inv.looks.names ∙ told in
          let more : octets_of world left ≡ octets_with (world n.name) + octets_of world rest = ap (octets_of world) c.in-Some.ensures.steps.0 ∙ octets-more world n rest in
          let few : octets_with (world c.as_str.result.now) ≡ octets_with (world n.name) = ap (λ (name : List ℕ). octets_with (world name)) c.as_str.ensures.same in
          omega (arith, inv.octets world told, c.read_named.ensures.octets world at, more, few);
    }

-- All timestamp files were read.
pub returns-clause-exact : goal.returns-clause-exact
returns-clause-exact g c = λ world told.
    let left : List TimesName = c.loop-named.named-iterator.rest.items in
    let none : left ≡ [] = nil_from_length left (omega (arith, c.loop-named.named-iterator.rest.ok, c.in-None.ensures.steps.0)) in
    let all : c.into_iter-named-iterator.result.rest.items ≡ c.in_ok-named.named = c.into_iter-named-iterator.ensures.into_iter_gives.0 ∙ c.into_vec-named-items.ensures in
    sym (append-nil c.loop-named.list)
    ∙ ap (λ (ns : List TimesName). c.loop-named.list ++ times_from world c.loop-named.room ns) (sym none)
    ∙ c.loop-named.invariant.exact world told
    ∙ ap (times_from world MAX_ALL_TIMES_LEN) (all ∙ c.in_ok-named.ensures)

pub returns-clause-octets : goal.returns-clause-octets
returns-clause-octets g c = λ world told.
    let all : c.into_iter-named-iterator.result.rest.items ≡ c.in_ok-named.named = c.into_iter-named-iterator.ensures.into_iter_gives.0 ∙ c.into_vec-named-items.ensures in
    let same : octets_of world c.into_iter-named-iterator.result.rest.items ≡ times_octets world c.args.words.now = ap (octets_of world) (all ∙ c.in_ok-named.ensures) in
    omega (arith, c.loop-named.invariant.octets world told, same)

-- ---- one couldn't be read, or there was no memory for its result

pub returns-in_err-found-clause-looks : goal.returns-in_err-found-clause-looks
returns-in_err-found-clause-looks g c =
    let all : List TimesName = c.into_iter-named-iterator.result.rest.items in
    let is : all ≡ c.in_ok-named.named = c.into_iter-named-iterator.ensures.into_iter_gives.0 ∙ c.into_vec-named-items.ensures in
    subst (λ (named : List TimesName). LooksOnly g.F.Reads g.F.Files (times_names named) c.args.files.now c.read_named.new.files) (is ∙ c.in_ok-named.ensures)
    (LooksOnly-times g.F.Reads g.F.Files all c.loop-named.named-iterator.rest.items c.next.new.self.rest.items c.in-Some.named c.as_str.result.now c.args.files.now c.loop-named.files c.read_named.new.files
    c.in-Some.ensures.steps.0 c.as_str.ensures.same c.loop-named.invariant.among c.loop-named.invariant.looks c.read_named.ensures.looks)

pub returns-in_err-push-clause-looks : goal.returns-in_err-push-clause-looks
returns-in_err-push-clause-looks g c =
    let all : List TimesName = c.into_iter-named-iterator.result.rest.items in
    let is : all ≡ c.in_ok-named.named = c.into_iter-named-iterator.ensures.into_iter_gives.0 ∙ c.into_vec-named-items.ensures in
    subst (λ (named : List TimesName). LooksOnly g.F.Reads g.F.Files (times_names named) c.args.files.now c.read_named.new.files) (is ∙ c.in_ok-named.ensures)
    (LooksOnly-times g.F.Reads g.F.Files all c.loop-named.named-iterator.rest.items c.next.new.self.rest.items c.in-Some.named c.as_str.result.now c.args.files.now c.loop-named.files c.read_named.new.files
    c.in-Some.ensures.steps.0 c.as_str.ensures.same c.loop-named.invariant.among c.loop-named.invariant.looks c.read_named.ensures.looks)

pub returns-in_err-push-clause-octets : goal.returns-in_err-push-clause-octets
returns-in_err-push-clause-octets g c = λ world told.
    let inv = c.loop-named.invariant in
    let n : TimesName = c.in-Some.named in
    let rest : List TimesName = c.next.new.self.rest.items in
    let all : c.into_iter-named-iterator.result.rest.items ≡ c.in_ok-named.named = c.into_iter-named-iterator.ensures.into_iter_gives.0 ∙ c.into_vec-named-items.ensures in
    let same : octets_of world c.into_iter-named-iterator.result.rest.items ≡ times_octets world c.args.words.now = ap (octets_of world) (all ∙ c.in_ok-named.ensures) in
    let more : octets_of world c.loop-named.named-iterator.rest.items ≡ octets_with (world n.name) + octets_of world rest = ap (octets_of world) c.in-Some.ensures.steps.0 ∙ octets-more world n rest in
    let few : octets_with (world c.as_str.result.now) ≡ octets_with (world n.name) = ap (λ (name : List ℕ). octets_with (world name)) c.as_str.ensures.same in
    omega (arith, inv.octets world told, c.read_named.ensures.octets world (inv.looks.names ∙ told), more, few, same)
