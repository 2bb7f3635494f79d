pub mod FreeLemmas
pub mod GivenLemmas
pub mod TakenLemmas
pub mod TargetLemmas
pub mod TagFacts
pub mod ChapterFacts
pub mod StandLemmas
pub mod AtomLemmas
pub mod NumberLemmas
pub mod ShiftLemmas
pub mod CutLemmas
mod StatisticsLemmas
