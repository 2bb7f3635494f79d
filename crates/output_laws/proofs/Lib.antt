mod FlagLemmas
mod ContentLemmas
pub mod GroupLemmas
pub mod BlockLemmas
pub mod ClusterLemmas
pub mod SegmentLemmas
pub mod CueLemmas
pub mod KeptLemmas
pub mod FrameLemmas
pub mod EventLemmas
pub mod ReadFrameLemmas
pub mod ReadGroupLemmas
pub mod LimitLemmas
pub mod SmallLemmas
pub mod WalkLemmas
mod PartLemmas
pub mod AreaLemmas
mod ScaleLemmas
pub mod InfoLemmas
mod HeaderLemmas
mod RecordLemmas
pub mod LayoutLemmas
mod MergedLemmas
pub mod MergedClusterLemmas
mod RisingLemmas
mod CutLemmas
mod TickLemmas
pub mod AgainLemmas
pub mod OrderLemmas
pub mod SoundLemmas
pub mod KindLemmas
