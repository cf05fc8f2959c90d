pub mod Parts
pub mod Wholes
pub mod Played
