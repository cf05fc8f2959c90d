pub mod Lookups
pub mod Words
pub mod Keys
pub mod Formats
