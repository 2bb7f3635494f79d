pub mod Laws
pub mod BadLine
pub mod Given
pub mod GivenBack
