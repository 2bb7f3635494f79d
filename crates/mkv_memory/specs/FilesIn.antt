-- The observable state of the type for files in memory.
use Rattle.std.specs.BTreeMap.{get}
use Rattle.std.specs.Ordering.{nat_cmp}
use Rattle.mkv_memory.specs.SeenFiles.{SeenFiles}
use Rattle.mkv_memory.specs.StoreIn.{stored_in}
use Rattle.mkv_memory.specs.declared.mem_files.MemFiles.{MemFiles}

-- the observable state of files in memory, `files`, which their contracts are about
abbrev pub seen : MemFiles → SeenFiles
seen files = record {
  stored = stored_in files.store;
  to_fail = get nat_cmp files.failing;
  calls = files.calls;
  reading_faults = files.reading_faults;
  writing_faults = files.writing_faults;
  octets_read = files.octets_read;
  asked = files.asked.items;
}
