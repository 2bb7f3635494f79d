pub mod CutsLemmas
pub mod NamesLemmas
pub mod SeenFilesLemmas
pub mod NewFileLemmas
pub mod StoredLemmas
pub mod DiskLemmas
pub mod LogLemmas
pub mod SoundLemmas
