pub mod Points
pub mod Index
pub mod Clusters
pub mod Reading
pub mod Plan
pub mod Found
