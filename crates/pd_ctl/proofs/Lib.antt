pub mod Again
pub mod Faults
pub mod Lists
pub mod Named
pub mod Shown
pub mod Utf8
pub mod Whole
pub mod Written
