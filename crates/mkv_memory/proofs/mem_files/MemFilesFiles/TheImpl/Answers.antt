use Rattle.std.proofs.Common.{arith}
use Rattle.std.proofs.lemmas.Grind.{common_steps}
use Rattle.mkv_memory.specs.FilesIn.{seen}
use Rattle.mkv_memory.proofs.SeenFilesLemmas.{AppendsTo-failed, AppendsTo-ok, AppendsTo-others, CreatesName-alone, CreatesName-others, CreatesName-refused, CreatesName-size, OpensName-alone, OpensName-content, OverwritesIn-err, OverwritesIn-ok, OverwritesIn-others}
use Rattle.mkv_memory.proofs.NewFileLemmas.{made, opened}
use Rattle.mkv_memory.proofs.mem_files.MemFilesFiles.TheImpl.Goals as goal

-- The effects of each call of files in memory fulfil the clauses of the traits.

pub open_file-tells : goal.open_file-tells
open_file-tells c = record {
  missing = grind (arith, common_steps);
  opened = opened _ _ _ _ _ _ c.args.name.now c.result (grind (arith, common_steps)) (grind (arith, common_steps))
      (OpensName-alone (seen c.args.self.now) (seen c.new.self.now) c.args.name.now c.result c.ensures.exact) (grind (arith, common_steps))
      (OpensName-content (seen c.args.self.now) (seen c.new.self.now) c.args.name.now c.result c.ensures.exact);
  full = grind (arith, common_steps);
  err = grind (arith, common_steps);
  stays = record {
    names = grind (arith, common_steps);
    others = grind (arith, common_steps);
    holders = grind (arith, common_steps);
    counts = record { writing = grind (arith, common_steps); octets = grind (arith, common_steps) };
  };
  cause = c.ensures.cause;
  asks = grind (arith, common_steps);
}

pub create-tells : goal.create-tells
create-tells c = record {
  made = made _ _ _ _ _ _ c.args.name.now c.result (grind (arith, common_steps)) (grind (arith, common_steps))
      (CreatesName-alone (seen c.args.self.now) (seen c.new.self.now) c.args.name.now c.result c.ensures.exact) (grind (arith, common_steps))
      (CreatesName-size (seen c.args.self.now) (seen c.new.self.now) c.args.name.now c.result c.ensures.exact) (grind (arith, common_steps));
  full = grind (arith, common_steps);
  refused = record {
    live = CreatesName-refused (seen c.args.self.now) (seen c.new.self.now) c.args.name.now c.result c.ensures.exact;
    names = grind (arith, common_steps);
    memory = grind (arith, common_steps);
  };
  stays = record {
    given = grind (arith, common_steps);
    alive = grind (arith, common_steps);
    others = CreatesName-others (seen c.args.self.now) (seen c.new.self.now) c.args.name.now c.result c.ensures.exact;
    holders = grind (arith, common_steps);
  };
  asks = grind (arith, common_steps);
  cause = c.ensures.cause;
  unread = record { reading = grind (arith, common_steps); octets = grind (arith, common_steps) };
}

pub append-tells : goal.append-tells
append-tells c = record {
  ok = AppendsTo-ok (seen c.args.self.now) (seen c.new.self.now) c.args.file.n c.args.bytes.now c.result c.requires (record { short = c.args.self.now.store.short; there = c.args.self.now.store.there }) c.ensures.exact;
  failed = AppendsTo-failed (seen c.args.self.now) (seen c.new.self.now) c.args.file.n c.args.bytes.now c.result c.requires (record { short = c.args.self.now.store.short; there = c.args.self.now.store.there }) c.ensures.exact;
  memory = grind (arith, common_steps);
  short = grind (arith, common_steps);
  stays = record {
    given = grind (arith, common_steps);
    alive = grind (arith, common_steps);
    others = AppendsTo-others (seen c.args.self.now) (seen c.new.self.now) c.args.file.n c.args.bytes.now c.result c.requires (record { short = c.args.self.now.store.short; there = c.args.self.now.store.there }) c.ensures.exact;
    holders = grind (arith, common_steps);
    asks = grind (arith, common_steps);
  };
  cause = c.ensures.cause;
  unread = record { reading = grind (arith, common_steps); octets = grind (arith, common_steps) };
}

pub overwrite-tells : goal.overwrite-tells
overwrite-tells c = record {
  ok = OverwritesIn-ok (seen c.args.self.now) (seen c.new.self.now) c.args.file.n c.args.at c.args.bytes.now c.result c.requires.live (record { short = c.args.self.now.store.short; there = c.args.self.now.store.there }) c.requires.range c.ensures.exact;
  err = OverwritesIn-err (seen c.args.self.now) (seen c.new.self.now) c.args.file.n c.args.at c.args.bytes.now c.result c.requires.live c.requires.range c.ensures.exact;
  stays = record {
    given = grind (arith, common_steps);
    alive = grind (arith, common_steps);
    others = OverwritesIn-others (seen c.args.self.now) (seen c.new.self.now) c.args.file.n c.args.at c.args.bytes.now c.result c.requires.live (record { short = c.args.self.now.store.short; there = c.args.self.now.store.there }) c.requires.range c.ensures.exact;
    holders = grind (arith, common_steps);
    asks = grind (arith, common_steps);
  };
  cause = c.ensures.cause;
  unread = record { reading = grind (arith, common_steps); octets = grind (arith, common_steps) };
}
