pub mod Buffered
pub mod Front
pub mod Group
pub mod Lendable
pub mod Made
pub mod Spelled
pub mod Time
pub mod Says
