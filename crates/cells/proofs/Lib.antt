pub mod Room
pub mod Offsets
pub mod Offers
