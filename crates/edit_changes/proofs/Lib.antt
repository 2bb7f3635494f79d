pub mod PropertyLemmas
pub mod SelectLemmas
pub mod ChangeLemmas
pub mod TrackLemmas
pub mod StandardFacts
pub mod SpanLemmas
pub mod OutlineLemmas
