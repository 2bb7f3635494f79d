use Rattle.std.proofs.Common.{◌≡◌, ◌≤◌, ◌+◌, ◌∙◌, ap, drop, get_or, length, subst, sym, take, ℕ, List}
use Rattle.mkv_disk.specs.Image.{DiskFile}
use Rattle.mkv_disk.specs.Pair.{file_of}
use Rattle.mkv_memory.specs.Changes.{CanChange, CanReplay, Change, changed_by, replay, step}
use Rattle.mkv_memory.specs.LogIn.{change_of, made_by, made_in, octets_done}
use Rattle.mkv_memory.specs.Shows.{Shows}
use Rattle.mkv_memory.specs.declared.done.Call.{Call}
use Rattle.mkv_memory.specs.declared.done.Done.{Done}
use Rattle.mkv_memory.specs.declared.done.Done.TheVariants.{Wrote}
use Rattle.mkv_memory.proofs.LogLemmas.{change_of-take, file_of-other, file_of-same, same-file, turn-can, turn-count, turn-fits, turn-left, turn-rest}
use Rattle.mkv_memory.proofs.logged_pair.replayed.Goals as goal
use Rattle.mkv_memory.proofs.logged_pair.replayed.Goals.{then-is_same+in_ok-make, else-is_same}

abbrev no_call : Call
no_call = record { file = record { n = 0 }; done = Wrote 0 0 }

-- The bytes that are passed on are the call's.
front-is : (done : Done) (n : ℕ) (front rest : List ℕ) → n ≡ octets_done done → octets_done done ≤ length rest → front ≡ take n rest → change_of done front ≡ change_of done rest
front-is done n front rest is fits front_is = ap (change_of done) (front_is ∙ ap (λ k. take k rest) is) ∙ change_of-take done rest fits

pub make-requires-clause-inside : goal.make-requires-clause-inside
make-requires-clause-inside c =
    let calls = c.args.calls.now in let i = c.loop-call.call-index in let call = get_or calls i no_call in let rest = c.loop-call.rest.now in
    let was = c.loop-call.invariant in let p = was.now in
    let fits = turn-fits calls i no_call c.loop-call-test.true rest was.count in
    let same = sym c.is_same.ensures ∙ c.if-is_same.true in
    let change = front-is call.done c.octets_done.result c.split_at.result.0.now rest c.octets_done.ensures fits c.split_at.ensures.front in
    let can = turn-can calls i no_call c.loop-call-test.true rest was.count p was.can in
    subst (λ (x : Change). CanChange x c.loop-call.pending.reads.items) (sym change)
    (subst (CanChange (change_of call.done rest)) (ap (λ (f : DiskFile). f.reads) (same-file call.file.n c.args.file.n p same) ∙ sym was.shows.reads) can)

pub loop-call-preserved : goal.loop-call-preserved
loop-call-preserved c =
    let calls = c.args.calls.now in let i = c.loop-call.call-index in let call = get_or calls i no_call in let rest = c.loop-call.rest.now in
    let was = c.loop-call.invariant in let p = was.now in let m = made_by call rest in
    let fits = turn-fits calls i no_call c.loop-call-test.true rest was.count in
    let change = front-is call.done c.octets_done.result c.split_at.result.0.now rest c.octets_done.ensures fits c.split_at.ensures.front in
    let back : c.split_at.result.1.now ≡ drop (octets_done call.done) rest = c.split_at.ensures.back ∙ ap (λ k. drop k rest) c.octets_done.ensures in
    let behind : c.if-is_same.rest.now ≡ drop (octets_done call.done) rest
    = elim c.if-is_same.branch [ then-is_same+in_ok-make w ↦ ap (λ r. r.now) w.rest-is ∙ back | else-is_same w ↦ ap (λ r. r.now) w.rest-is ∙ back ] in
    let shows : Shows c.if-is_same.pending (file_of c.args.file.n (step m p))
    = elim c.if-is_same.branch [
      | then-is_same+in_ok-make w ↦
          let made = w.in_ok-make.ensures (file_of c.args.file.n p) was.shows in
          let same = file_of-same call.file.n c.args.file.n (changed_by (change_of call.done rest)) p (sym c.is_same.ensures ∙ w.if-is_same.true) in
          subst (λ x. Shows x (file_of c.args.file.n (step m p))) (sym w.pending-is)
          (subst (Shows w.make.new.self) (ap (λ (x : Change). changed_by x (file_of c.args.file.n p)) change ∙ sym same) made)
      | else-is_same w ↦
          let other = file_of-other call.file.n c.args.file.n (changed_by (change_of call.done rest)) p (sym c.is_same.ensures ∙ w.if-is_same.false) in
          subst (λ x. Shows x (file_of c.args.file.n (step m p))) (sym w.pending-is) (subst (Shows c.loop-call.pending) (sym other) was.shows)
    ] in
    record {
      count = ap length behind ∙ turn-count calls i no_call c.loop-call-test.true rest was.count;
      now = step m p;
      can = subst (λ (r : List ℕ). CanReplay (made_in (drop (i + 1) calls) r) (step m p)) (sym behind) (turn-rest calls i no_call c.loop-call-test.true rest was.count p was.can);
      shows = shows;
      left = ap (λ (r : List ℕ). replay (made_in (drop (i + 1) calls) r) (step m p)) behind ∙ turn-left calls i no_call c.loop-call-test.true rest was.count p was.can _ was.left;
    }
