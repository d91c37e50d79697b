pub mod Counts
pub mod Got
