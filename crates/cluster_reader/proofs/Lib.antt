pub mod ChildLemmas
pub mod PassedLemmas
pub mod LeftLemmas
pub mod ToldDamagesLemmas
pub mod TurnLemmas
pub mod TakesLemmas
pub mod ReadingLemmas
