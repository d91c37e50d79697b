pub mod Cases
pub mod Below
pub mod Fold
pub mod Each
pub mod Index
pub mod Runs
