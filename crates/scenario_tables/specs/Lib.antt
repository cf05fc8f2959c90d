pub mod Services
pub mod Tables
pub mod Picking
