pub mod Fits
pub mod Lent
