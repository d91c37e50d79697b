pub mod Playable
pub mod Rack
