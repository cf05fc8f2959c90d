pub mod Counting
pub mod Named
pub mod Faults
pub mod Filled
pub mod Written
