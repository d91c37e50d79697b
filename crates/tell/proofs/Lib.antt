pub mod Logs
pub mod Cues
pub mod Turns
pub mod Steady
pub mod Parts
pub mod Cut
