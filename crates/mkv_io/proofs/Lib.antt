pub mod NamesLemmas
pub mod WritingLemmas
pub mod EndsLemmas
pub mod AskedLemmas
pub mod OctetsLemmas
