pub mod RunLemmas
pub mod SayLemmas
