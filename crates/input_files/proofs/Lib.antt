pub mod InputsLemmas
pub mod NamesLemmas
pub mod LooksLemmas
pub mod TextLemmas
pub mod TimesLemmas
pub mod TrackLemmas
pub mod TextFacts
