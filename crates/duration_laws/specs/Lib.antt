pub mod Ends
pub mod Floats
pub mod Changes
