pub mod Parts
pub mod Sizes
pub mod Cut
