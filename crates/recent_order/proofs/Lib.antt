pub mod Others
pub mod Chains
pub mod Rings
pub mod Sides
