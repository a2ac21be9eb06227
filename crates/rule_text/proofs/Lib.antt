pub mod Again
pub mod LawLemmas
pub mod Lists
pub mod Printed
pub mod Readable
pub mod TestLemmas
