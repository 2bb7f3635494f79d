pub mod DraftsLemmas
pub mod FilesLemmas
pub mod GivenLemmas
pub mod OutputsLemmas
pub mod StartsLemmas
mod WrittenLemmas
