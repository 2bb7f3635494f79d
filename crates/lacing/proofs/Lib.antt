pub mod LaceLemmas
pub mod SettledLemmas
pub mod StandardFacts
pub mod WritingLemmas
