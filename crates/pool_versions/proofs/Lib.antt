pub mod AfterSort
pub mod Ascending
pub mod Limits
pub mod Stable
pub mod Alike
