pub mod Timed
pub mod Copies
pub mod Laws
