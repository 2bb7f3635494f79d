pub mod GeneratedLemmas
pub mod KeptLemmas
pub mod MergedLemmas
pub mod SeenLemmas
