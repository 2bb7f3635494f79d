pub mod AppendLemmas
pub mod ChainLemmas
pub mod ListLemmas
pub mod OrderLemmas
pub mod RecordLemmas
pub mod LaneLemmas
pub mod RefusalLemmas
pub mod PlanLemmas
pub mod FileLemmas
pub mod OrderedLemmas
mod LinkLemmas
pub mod PlaceLemmas
pub mod TimesLemmas
pub mod AttachedLemmas
