pub mod EntryLemmas
pub mod EntriesLemmas
pub mod RefusalLemmas
pub mod TracksLemmas
pub mod StandLemmas
pub mod SameLemmas
pub mod UsableLemmas
