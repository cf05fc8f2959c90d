pub mod Places
pub mod Follows
pub mod Passes
