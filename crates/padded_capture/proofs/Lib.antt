pub mod Records
pub mod Coming
pub mod Known
pub mod Fields
pub mod Numbers
pub mod Whole
