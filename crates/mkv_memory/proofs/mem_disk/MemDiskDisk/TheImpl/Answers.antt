use Rattle.std.proofs.Common.{◌+◌, ◌∙◌, max, ap, length, refl, sym}
use Rattle.std.proofs.lemmas.List.{length-take-le}
use Rattle.mkv_disk.specs.Pair.{file_of}
use Rattle.mkv_disk.proofs.ImageLemmas.{length-overwritten}
use Rattle.mkv_memory.specs.Changes.{cut, synced, written}
use Rattle.mkv_memory.specs.DiskIn.{seen}
use Rattle.mkv_memory.specs.SeenDisk.{pair_in}
use Rattle.mkv_memory.proofs.DiskLemmas.{live-size, makes-grown, makes-octets, makes-ok, makes-opened, makes-others, makes-reading, makes-size, makes-synced, on_ok}
use Rattle.mkv_memory.proofs.mem_disk.MemDiskDisk.TheImpl.Goals as goal

-- The effects of each call of a disk in memory fulfil the clauses of the trait.

pub write_at-tells : goal.write_at-tells
write_at-tells c =
    let old = seen c.args.self.now in let new = seen c.new.self.now in let file = c.args.file.n in let change = written c.args.at c.args.bytes.now in let reads = (file_of file (pair_in old)).reads in
    let live = c.requires.live in
    let run = makes-grown old new file change c.result (λ is. cc) c.ensures.exact in
    record {
      ok = λ told. makes-ok old new file change c.result c.ensures.exact;
      any_moment = λ told. record { later = run.later; each = run.each; before = run.before; keeps = run.keeps };
      size = on_ok _ _ c.result (λ is. is ∙ length-overwritten reads c.args.at c.args.bytes.now (c.requires.inside refl) ∙ ap (λ n. max n (c.args.at + length c.args.bytes.now)) (sym (live-size old.opened file (pair_in old) live))) (makes-size old new file change c.result live c.ensures.exact);
      others = makes-others old new file change c.result live c.ensures.exact;
      opened = makes-opened old new file change c.result c.ensures.exact;
      cause = c.ensures.cause;
      unread = record { reading = makes-reading old new file change c.result c.ensures.exact; octets = makes-octets old new file change c.result c.ensures.exact };
    }

pub cut-tells : goal.cut-tells
cut-tells c =
    let old = seen c.args.self.now in let new = seen c.new.self.now in let file = c.args.file.n in let change = cut c.args.len in let reads = (file_of file (pair_in old)).reads in
    let live = c.requires.live in
    let run = makes-grown old new file change c.result (λ is. cc) c.ensures.exact in
    record {
      ok = λ told. makes-ok old new file change c.result c.ensures.exact;
      any_moment = λ told. record { later = run.later; each = run.each; before = run.before; keeps = run.keeps };
      size = on_ok _ _ c.result (λ is. is ∙ length-take-le c.args.len reads (c.requires.inside refl)) (makes-size old new file change c.result live c.ensures.exact);
      others = makes-others old new file change c.result live c.ensures.exact;
      opened = makes-opened old new file change c.result c.ensures.exact;
      cause = c.ensures.cause;
      unread = record { reading = makes-reading old new file change c.result c.ensures.exact; octets = makes-octets old new file change c.result c.ensures.exact };
    }

pub sync-tells : goal.sync-tells
sync-tells c =
    let old = seen c.args.self.now in let new = seen c.new.self.now in let file = c.args.file.n in let change = synced in let reads = (file_of file (pair_in old)).reads in
    let live = c.requires in
    let run = makes-synced old new file c.result c.args.self.now.media_sound c.args.self.now.sidecar_sound c.ensures.exact in
    record {
      ok = λ told. makes-ok old new file change c.result c.ensures.exact;
      any_moment = λ told. record { later = run.later; each = run.each; before = run.before; keeps = run.keeps };
      size = on_ok _ _ c.result (λ is. is ∙ sym (live-size old.opened file (pair_in old) live)) (makes-size old new file change c.result live c.ensures.exact);
      others = makes-others old new file change c.result live c.ensures.exact;
      opened = makes-opened old new file change c.result c.ensures.exact;
      cause = c.ensures.cause;
      unread = record { reading = makes-reading old new file change c.result c.ensures.exact; octets = makes-octets old new file change c.result c.ensures.exact };
    }
