pub mod MergeLemmas
pub mod FilesLemmas
pub mod ItemsLemmas
pub mod SoundLemmas
pub mod PlaceLemmas
pub mod AttachedLemmas
