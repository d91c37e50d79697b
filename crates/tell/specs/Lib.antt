pub mod Log
pub mod Cues
pub mod Turns
pub mod Parts
pub mod Cut
