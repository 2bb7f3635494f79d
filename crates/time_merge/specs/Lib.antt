pub mod Laws
pub mod Line
pub mod Merge
pub mod Queues
