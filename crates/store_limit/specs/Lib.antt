pub mod Charges
pub mod Level
pub mod Limits
