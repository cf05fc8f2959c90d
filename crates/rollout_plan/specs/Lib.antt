pub mod Tables
pub mod Counts
pub mod Text
pub mod Objects
pub mod Forms
pub mod Plans
pub mod Laws
