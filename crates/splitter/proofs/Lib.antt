pub mod SectionLemmas
pub mod NameLemmas
pub mod StandardFacts
