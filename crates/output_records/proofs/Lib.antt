pub mod RecordLemmas
pub mod UidLemmas
pub mod ListLemmas
pub mod KeptLemmas
pub mod OutputLemmas
pub mod StandardFacts
pub mod AttachedLemmas
