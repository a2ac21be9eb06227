pub mod Fields
pub mod Meaning
pub mod Readable
pub mod Tests
pub mod Words
