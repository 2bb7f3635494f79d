pub mod Exit
pub mod Generated
pub mod Kept
pub mod Outside
pub mod Runs
