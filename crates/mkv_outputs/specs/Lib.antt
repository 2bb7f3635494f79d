pub mod Drafts
pub mod Outputs
pub mod Sinks
pub mod Starts
pub mod Waiting
pub mod Written
