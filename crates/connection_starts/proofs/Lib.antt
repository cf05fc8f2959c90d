pub mod Quiet
pub mod Begun
pub mod Put
pub mod Walks
