pub mod Lists
pub mod Meant
