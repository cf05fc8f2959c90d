pub mod Rollouts
pub mod Steps
pub mod Orders
pub mod PrivateBetter
pub mod Objects
pub mod Text
pub mod OrderPlans
