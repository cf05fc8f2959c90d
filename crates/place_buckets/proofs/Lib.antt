pub mod Walks
pub mod Removal
pub mod Chaining
pub mod Laning
pub mod Grouping
pub mod Seeking
pub mod Comparing
