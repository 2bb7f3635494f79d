pub mod SaidLemmas
pub mod ShownLemmas
pub mod VerdictLemmas
pub mod StandardFacts
