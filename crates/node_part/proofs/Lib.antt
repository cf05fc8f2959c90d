pub mod Parts
pub mod Cores
pub mod Orders
pub mod Wholes
pub mod Ends
