pub mod Extractions
pub mod Identifications
pub mod Plans
