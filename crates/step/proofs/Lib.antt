pub mod Places
pub mod Ready
pub mod Arms
