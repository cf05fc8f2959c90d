pub mod Limits
pub mod Setup
pub mod Times
pub mod Steps
pub mod Told
pub mod Meaning
pub mod Alike
pub mod Places
