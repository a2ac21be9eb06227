pub mod Settled
pub mod Drivers
pub mod Driving
pub mod Moments
