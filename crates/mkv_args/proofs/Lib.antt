pub mod PropeditLemmas
pub mod ExplainLemmas
pub mod HelpLemmas
pub mod SoundLemmas
pub mod TargetNamesLemmas
pub mod TextLemmas
pub mod StandardFacts
