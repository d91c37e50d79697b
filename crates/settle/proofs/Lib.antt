pub mod Lane
pub mod Lanes
pub mod Part
