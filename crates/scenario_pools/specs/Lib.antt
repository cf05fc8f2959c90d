pub mod Changes
pub mod Writing
pub mod Older
pub mod Laws
pub mod BadWords
pub mod Brought
pub mod PrivateWalk
