pub mod KeptLemmas
pub mod LineLemmas
pub mod QueueLemmas
pub mod StandLemmas
pub mod TakenLemmas
