pub mod Laws
pub mod IndexLaws
