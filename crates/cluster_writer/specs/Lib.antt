pub mod Lent
pub mod Lengths
pub mod Gathered
pub mod Buffer
pub mod Room
pub mod Staying
