pub mod Sources
pub mod Merge
pub mod Bound
pub mod Laws
pub mod Order
pub mod Attached
