pub mod ChaptersLemmas
pub mod ExtractedLemmas
pub mod SoundLemmas
