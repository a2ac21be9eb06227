pub mod Benches
pub mod Schedulers
