mod TreeLemmas
pub mod EntryLemmas
pub mod TracksLemmas
mod TextLemmas
mod GivenLemmas
mod PlaceLemmas
pub mod SourceLemmas
pub mod LaneLemmas
pub mod TakenLemmas
pub mod HeldLemmas
mod FrontLemmas
mod OrderLemmas
mod OrderTagLemmas
mod OrderVerdictLemmas
mod AddedLemmas
mod WholeFileLemmas
mod LoadLemmas
mod ChapterLemmas
mod PartLemmas
pub mod DocumentLemmas
mod OutputLemmas
mod AttachedLemmas
mod BoundLemmas
mod ExactLemmas
pub mod MergeLemmas
