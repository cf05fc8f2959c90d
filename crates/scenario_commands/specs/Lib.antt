pub mod Scenarios
pub mod Listings
pub mod Parts
pub mod Turned
