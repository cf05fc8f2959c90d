pub mod Sizes
pub mod NameText
pub mod NameFields
