pub mod FindLemmas
pub mod SchemaLemmas
pub mod StandardFacts
pub mod BodyDamageLemmas
pub mod ElementLemmas
pub mod ElementsLemmas
pub mod OutlineFacts
pub mod OutlineLemmas
