pub mod Plan
pub mod Uuids
pub mod Parts
pub mod Summary
