pub mod Itself
