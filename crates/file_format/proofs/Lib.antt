pub mod FirstLemmas
pub mod EncodingLemmas
pub mod TracksLemmas
pub mod FileLemmas
pub mod TrackFacts
pub mod InfoLemmas
pub mod InfoFacts
