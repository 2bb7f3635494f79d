pub mod Asked
pub mod ByWords
pub mod Ends
pub mod Run
pub mod RunSeen
pub mod Touched
