pub mod Among
pub mod Counts
pub mod Halves
pub mod Places
pub mod Tables
pub mod Versions
pub mod Sources
pub mod Sharing
