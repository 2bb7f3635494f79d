pub mod View
pub mod Falls
pub mod Outcome
pub mod Texts
pub mod Building
pub mod Leaves
pub mod Again
