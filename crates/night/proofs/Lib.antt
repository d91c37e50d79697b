pub mod Nights
pub mod Refuted
pub mod RightRules
pub mod View
pub mod Demand
pub mod Alike
pub mod Determined
