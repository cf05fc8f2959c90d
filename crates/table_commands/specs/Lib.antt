pub mod Objects
pub mod Text
pub mod Refusals
pub mod Compare
pub mod Pick
