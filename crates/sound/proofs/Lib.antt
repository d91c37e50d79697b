pub mod Sizes
pub mod Clock
pub mod Zeros
