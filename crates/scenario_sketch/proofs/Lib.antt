pub mod Keys
pub mod Counting
pub mod Found
pub mod Orders
pub mod Texts
pub mod Walks
pub mod Refusals
pub mod Fairness
