pub mod Places
pub mod Stretch
