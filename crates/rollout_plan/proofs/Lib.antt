pub mod ByName
pub mod SlotCounts
pub mod Least
pub mod Once
pub mod Shown
pub mod Blocks
