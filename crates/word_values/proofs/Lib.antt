pub mod NumbersLemmas
pub mod ListsLemmas
pub mod PlaceLemmas
pub mod AnswerLemmas
pub mod SoundLemmas
