pub mod SignLemmas
pub mod NumberLemmas
pub mod SpelledLemmas
pub mod StandardFacts
pub mod WidthLemmas
