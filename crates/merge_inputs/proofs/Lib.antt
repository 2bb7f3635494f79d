pub mod InputLemmas
pub mod StandardFacts
pub mod TakenLemmas
pub mod TitleLemmas
mod TextLemmas
