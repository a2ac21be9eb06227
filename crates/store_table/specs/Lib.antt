pub mod Entries
pub mod Places
pub mod Live
pub mod StateText
pub mod Calls
