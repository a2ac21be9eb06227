pub mod Founds
pub mod Allowed
pub mod Giving
pub mod Risings
pub mod Gathers
pub mod Whose
