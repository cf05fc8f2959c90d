pub mod Picking
pub mod Laws
