pub mod Night
pub mod Cut
