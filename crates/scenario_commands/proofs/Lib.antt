pub mod Unkept
pub mod Listed
