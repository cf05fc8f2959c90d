pub mod Audits
pub mod Wanted
pub mod Kept
