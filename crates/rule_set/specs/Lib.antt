pub mod Order
pub mod InForce
pub mod Borders
pub mod Changes
pub mod RuleSets
