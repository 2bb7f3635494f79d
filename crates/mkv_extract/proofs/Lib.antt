pub mod ExtractLemmas
pub mod ReadLemmas
pub mod ToldLemmas
