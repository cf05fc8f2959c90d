pub mod Zeros
pub mod Clocked
pub mod Steps
pub mod Kept
pub mod Told
pub mod Counts
pub mod Alone
pub mod Reckoned
