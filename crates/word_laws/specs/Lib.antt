pub mod Values
pub mod Names
pub mod SpelledMerge
pub mod SpellableMerge
pub mod Spelled
pub mod Spellable
pub mod Laws
