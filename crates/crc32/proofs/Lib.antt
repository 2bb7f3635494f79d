pub mod RegisterLemmas
pub mod ShiftLemmas
pub mod StandardFacts
