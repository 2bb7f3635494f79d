pub mod ContentLemmas
pub mod LoopLemmas
pub mod EndLemmas
pub mod CompactLemmas
pub mod TextLemmas
pub mod BuildLemmas
pub mod LeafLemmas
