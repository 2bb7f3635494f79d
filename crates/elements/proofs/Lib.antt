pub mod BodyLemmas
pub mod TextLemmas
pub mod HeldLemmas
pub mod WindowLemmas
pub mod LevelOneLemmas
pub mod WalkLemmas
