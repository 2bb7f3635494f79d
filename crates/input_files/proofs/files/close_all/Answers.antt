use Rattle.std.proofs.Common.{◌≡◌, get_or, sym, ◌∙◌}
use Rattle.std.proofs.lemmas.List.{get_or_default}
use Rattle.mkv_io.specs.declared.outside.FileId.{FileId}
use Rattle.mkv_io.proofs.WritingLemmas.{IsSameFile-twice}
use Rattle.mkv_outputs.proofs.FilesLemmas.{closed-more, still-live}
use Rattle.input_files.proofs.files.close_all.Goals as goal

-- One more file is closed.
pub loop-id-preserved : goal.loop-id-preserved
loop-id-preserved g c =
    let closed : FileId = get_or c.args.ids.now c.loop-id.id-index (record { n = 0 }) in
    let at : (d : FileId) → get_or c.args.ids.now c.loop-id.id-index d ≡ closed =
    λ d. get_or_default c.args.ids.now c.loop-id.id-index d (record { n = 0 }) c.loop-id-test.true in
    let more = closed-more (g.F.Reads.files (g.F.Reads.standing c.loop-id.files)).live (g.F.Reads.files (g.F.Reads.standing c.close.new.self)).live c.args.ids.now c.loop-id.id-index closed
    c.requires.rising c.loop-id-test.true at c.close.ensures.ended (λ file other. (c.close.ensures.stays.others file other).alive) c.loop-id.invariant.ended c.loop-id.invariant.left in
    record {
      ended = more.0;
      left = more.1;
      others = λ file other. IsSameFile-twice _ _ _ file (c.loop-id.invariant.others file other)
          (c.close.ensures.stays.others file (λ same. other c.loop-id.id-index (record { n = 0 }) c.loop-id-test.true (sym same)));
      names = c.close.ensures.stays.names ∙ c.loop-id.invariant.names;
      holders = λ file live.
          let other = still-live (g.F.Reads.files (g.F.Reads.standing c.close.new.self)).live closed.n file c.close.ensures.ended live in
          c.close.ensures.stays.holders file live ∙ c.loop-id.invariant.holders file (sym (c.close.ensures.stays.others file other).alive ∙ live);
      numbers = c.close.ensures.stays.given ∙ c.loop-id.invariant.numbers;
      asked = c.close.ensures.stays.asks ∙ c.loop-id.invariant.asked;
      writing = c.close.ensures.stays.writing ∙ c.loop-id.invariant.writing;
      reading = c.close.ensures.unread.reading ∙ c.loop-id.invariant.reading;
      octets = c.close.ensures.unread.octets ∙ c.loop-id.invariant.octets;
    }
