pub mod Walks
pub mod Chunks
pub mod Numbers
pub mod Sparings
pub mod Stores
pub mod Parts
