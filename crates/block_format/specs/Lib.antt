pub mod Block
pub mod Content
pub mod Elements
pub mod Events
