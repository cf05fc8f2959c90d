pub mod Knowing
pub mod Noting
pub mod Orders
pub mod PrivateTelling
