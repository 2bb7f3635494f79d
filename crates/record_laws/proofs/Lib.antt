pub mod SameLemmas
pub mod EntryLemmas
pub mod TrackLemmas
pub mod WholeLemmas
pub mod DifferenceLemmas
pub mod AtomLemmas
mod NumberLemmas
pub mod StayLemmas
mod EditionLemmas
pub mod SettledLemmas
mod FileLemmas
pub mod TagLemmas
pub mod DigitsLemmas
pub mod LineLemmas
pub mod ChaptersLemmas
pub mod PartsLemmas
pub mod ArrowLemmas
pub mod SubRipLemmas
mod ChapterExamples
mod ShiftExamples
mod IdentifierExamples
mod ChapterIdentifierExamples
mod TagExamples
mod SubRipExamples
mod SimpleChapterExamples
mod TextExamples
mod StatisticsLemmas
mod KeptLemmas
