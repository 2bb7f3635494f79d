use Rattle.std.proofs.Common.{◌≡◌, ◌≤◌, ◌+◌, ◌-◌, ◌++◌, ℕ, Err, Option, List, length, take, sym, ap, ◌∙◌, arith}
use Rattle.std.proofs.lemmas.List.{length-take-le}
use Rattle.std.proofs.lemmas.Result.{err_from_is_err_and}
use Rattle.output_model.specs.Attached.{octets_told}
use Rattle.cues_seekhead.proofs.AppendingLemmas.{AppendsOnly-then, AppendsOnly-more, AppendsOnly-same, no_refusal, KeepsOthers-content, octets_told-more}
use Rattle.cues_seekhead.proofs.copying.copy_data.Goals as goal

-- The file that is read is unchanged.
pub copy_chunk-requires : goal.copy_chunk-requires
copy_chunk-requires g c =
    let kept = c.loop-done.invariant.copied.kept in
    let count = c.min-count.result in
    let fits : count ≤ length c.loop-done.buffer = omega (arith, c.min-count.ensures) in
    record {
      from = kept.live c.args.from.n ∙ c.requires.from;
      to = kept.live c.args.to.n ∙ c.requires.to;
      inside = omega (
        arith,
        c.min-count.ensures,
        c.requires.inside,
        length-take-le count c.loop-done.buffer fits,
        (kept.others c.args.from.n (λ same. c.requires.apart (sym same), tt)).size c.requires.from,
      );
    }

-- One more chunk is copied.
pub loop-done-preserved : goal.loop-done-preserved
loop-done-preserved g c =
    let before = c.loop-done.invariant.copied in
    let count = c.min-count.result in
    let fits : count ≤ length c.loop-done.buffer = omega (arith, c.min-count.ensures) in
    let content = (g.F.Reads.files (g.F.Reads.standing c.args.files.now)).content c.args.from.n in
    let still = KeepsOthers-content g.F.Reads g.F.Files (g.F.Files.holder c.args.files.now c.args.to.n) c.args.files.now c.loop-done.files c.args.from.n before.kept c.requires.from c.requires.apart in
    let chunk = c.in_ok-copy_chunk.ensures in
    record {
      copied = AppendsOnly-same g.F.Reads g.F.Files c.args.to _ (octets_told content c.args.at (c.loop-done.done + count)) _ (c.loop-done.done + count) c.args.files.now c.copy_chunk.new.files no_refusal
          (ap (λ (bytes : Option (List ℕ)). octets_told content c.args.at c.loop-done.done ++ octets_told bytes (c.args.at + c.loop-done.done) (length (take count c.loop-done.buffer))) still
          ∙ ap (λ n. octets_told content c.args.at c.loop-done.done ++ octets_told content (c.args.at + c.loop-done.done) n) (length-take-le count c.loop-done.buffer fits)
          ∙ octets_told-more content c.args.at c.loop-done.done count)
          (ap (λ n. c.loop-done.done + n) (length-take-le count c.loop-done.buffer fits))
          (AppendsOnly-then g.F.Reads g.F.Files c.args.to c.args.files.now c.loop-done.files c.copy_chunk.new.files _ _ _ _ 0 no_refusal c.requires.to before
          (record { appended = chunk.appended; size = chunk.size; kept = chunk.kept; cause = record { reading = chunk.cause.reading; writing = chunk.cause.writing }; reads = chunk.reads }));
      within = omega (arith, c.min-count.ensures);
    }

-- A chunk wasn't copied.
pub returns-in_err-copy_chunk : goal.returns-in_err-copy_chunk
returns-in_err-copy_chunk g c =
    let before = c.loop-done.invariant.copied in
    let count = c.min-count.result in
    let fits : count ≤ length c.loop-done.buffer = omega (arith, c.min-count.ensures) in
    let content = (g.F.Reads.files (g.F.Reads.standing c.args.files.now)).content c.args.from.n in
    let still = KeepsOthers-content g.F.Reads g.F.Files (g.F.Files.holder c.args.files.now c.args.to.n) c.args.files.now c.loop-done.files c.args.from.n before.kept c.requires.from c.requires.apart in
    let left = c.args.len - (c.loop-done.done + count) in
    let within : c.loop-done.done + count ≤ c.args.len = omega (arith, c.min-count.ensures) in
    let whole : c.loop-done.done + count + left ≡ c.args.len = omega (arith, within) in
    let p = err_from_is_err_and c.from_residual.result c.from_residual.ensures.1 in
    rw (p.1, p.2)
    (AppendsOnly-more g.F.Reads g.F.Files c.args.to (octets_told content c.args.at (c.loop-done.done + count)) (octets_told content (c.args.at + (c.loop-done.done + count)) left) (octets_told content c.args.at c.args.len)
    (c.loop-done.done + count) c.args.len c.args.files.now c.copy_chunk.new.files c.in_err-copy_chunk.field-0.0
    (octets_told-more content c.args.at (c.loop-done.done + count) left ∙ ap (octets_told content c.args.at) whole) within
    (AppendsOnly-same g.F.Reads g.F.Files c.args.to _ (octets_told content c.args.at (c.loop-done.done + count)) _ (c.loop-done.done + count) c.args.files.now c.copy_chunk.new.files _
    (ap (λ (bytes : Option (List ℕ)). octets_told content c.args.at c.loop-done.done ++ octets_told bytes (c.args.at + c.loop-done.done) (length (take count c.loop-done.buffer))) still
    ∙ ap (λ n. octets_told content c.args.at c.loop-done.done ++ octets_told content (c.args.at + c.loop-done.done) n) (length-take-le count c.loop-done.buffer fits)
    ∙ octets_told-more content c.args.at c.loop-done.done count)
    (ap (λ n. c.loop-done.done + n) (length-take-le count c.loop-done.buffer fits))
    (AppendsOnly-then g.F.Reads g.F.Files c.args.to c.args.files.now c.loop-done.files c.copy_chunk.new.files _ _ _ _ 0 (Err c.in_err-copy_chunk.field-0.0) c.requires.to before c.in_err-copy_chunk.ensures)))
