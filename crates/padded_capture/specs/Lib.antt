pub mod Padding
pub mod Stages
pub mod Playing
pub mod Either
