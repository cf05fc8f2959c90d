pub mod Best
pub mod Lists
pub mod Stable
pub mod Texts
pub mod Shown
