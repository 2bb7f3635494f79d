use Rattle.std.proofs.Common.{◌≡◌, ◌<◌, List, length, get_or, ap, ◌∙◌, sym, arith}
use Rattle.mkv_io.specs.declared.outside.FileId.{FileId}
use Rattle.mkv_outputs.specs.Sinks.{ids_of}
use Rattle.mkv_outputs.specs.declared.sink.Sink.{Sink}
use Rattle.mkv_io.proofs.WritingLemmas.{IsSameFile-twice}
use Rattle.mkv_outputs.proofs.FilesLemmas.{closed-more, still-live}
use Rattle.mkv_outputs.proofs.GivenLemmas.{ids_of-at, length-ids_of}
use Rattle.mkv_outputs.proofs.outputs.Outputs.close.Goals as goal

-- The file isn't one that was closed before.
pub close-requires : goal.close-requires
close-requires g c =
    let items : c.deref-sink-items.result.now ≡ c.args.self = c.deref-sink-items.ensures.value ∙ c.self.view_is in
    let below : c.loop-sink.sink-index < length c.args.self = omega (arith, c.loop-sink-test.true, ap length items) in
    let is : c.sink-item.result ≡ get_or c.args.self c.loop-sink.sink-index c.sink-item.result =
    c.sink-item.is ∙ ap (λ (ss : List Sink). get_or ss c.loop-sink.sink-index c.sink-item.result) items in
    ap (λ (s : Sink). (g.F.Reads.files (g.F.Reads.standing c.loop-sink.files)).live s.file.n) is
    ∙ ap (λ (f : FileId). (g.F.Reads.files (g.F.Reads.standing c.loop-sink.files)).live f.n) (sym (ids_of-at c.args.self c.loop-sink.sink-index c.sink-item.result c.sink-item.result.file below))
    ∙ c.loop-sink.invariant.left c.loop-sink.sink-index c.sink-item.result.file (omega arith) (omega (arith, length-ids_of c.args.self))

-- One more file is closed.
pub loop-sink-preserved : goal.loop-sink-preserved
loop-sink-preserved g c =
    let items : c.deref-sink-items.result.now ≡ c.args.self = c.deref-sink-items.ensures.value ∙ c.self.view_is in
    let below : c.loop-sink.sink-index < length c.args.self = omega (arith, c.loop-sink-test.true, ap length items) in
    let is : c.sink-item.result ≡ get_or c.args.self c.loop-sink.sink-index c.sink-item.result =
    c.sink-item.is ∙ ap (λ (ss : List Sink). get_or ss c.loop-sink.sink-index c.sink-item.result) items in
    let at : (d : FileId) → get_or (ids_of c.args.self) c.loop-sink.sink-index d ≡ c.sink-item.result.file =
    λ d. ids_of-at c.args.self c.loop-sink.sink-index c.sink-item.result d below ∙ ap (λ (s : Sink). s.file) (sym is) in
    let within : c.loop-sink.sink-index < length (ids_of c.args.self) = omega (arith, length-ids_of c.args.self) in
    let more = closed-more (g.F.Reads.files (g.F.Reads.standing c.loop-sink.files)).live (g.F.Reads.files (g.F.Reads.standing c.close.new.self)).live (ids_of c.args.self) c.loop-sink.sink-index c.sink-item.result.file
    c.requires.rising within at c.close.ensures.ended (λ file other. (c.close.ensures.stays.others file other).alive) c.loop-sink.invariant.ended c.loop-sink.invariant.left in
    record {
      ended = more.0;
      left = more.1;
      others = λ file other. IsSameFile-twice _ _ _ file (c.loop-sink.invariant.others file other)
          (c.close.ensures.stays.others file (λ same. other c.loop-sink.sink-index c.sink-item.result.file within (ap (λ (f : FileId). f.n) (at c.sink-item.result.file) ∙ sym same)));
      names = c.close.ensures.stays.names ∙ c.loop-sink.invariant.names;
      holders = λ file live.
          let other = still-live (g.F.Reads.files (g.F.Reads.standing c.close.new.self)).live c.sink-item.result.file.n file c.close.ensures.ended live in
          c.close.ensures.stays.holders file live ∙ c.loop-sink.invariant.holders file (sym (c.close.ensures.stays.others file other).alive ∙ live);
      numbers = c.close.ensures.stays.given ∙ c.loop-sink.invariant.numbers;
      asked = c.close.ensures.stays.asks ∙ c.loop-sink.invariant.asked;
      writing = c.close.ensures.stays.writing ∙ c.loop-sink.invariant.writing;
      reading = c.close.ensures.unread.reading ∙ c.loop-sink.invariant.reading;
      octets = c.close.ensures.unread.octets ∙ c.loop-sink.invariant.octets;
    }
