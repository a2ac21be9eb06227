pub mod Each
pub mod Hands
pub mod Items
pub mod Laws
pub mod Tickets
