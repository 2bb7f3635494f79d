pub mod End
pub mod Input
pub mod Laws
pub mod Select
pub mod Taken
pub mod Title
