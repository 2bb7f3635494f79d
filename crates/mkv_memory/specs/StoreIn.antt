-- The contents of a store.
use Rattle.mkv_memory.specs.Stored.{Stored, content_of_name}
use Rattle.mkv_memory.specs.declared.store.Store.{Store}

-- the contents and the open files of the store `store`, as plain values, which its contracts are about. Used by `new`, `is_full` and others.
abbrev pub stored_in : Store → Stored
stored_in store = record { world = content_of_name store.contents.entries; opened = store.opened.items }
