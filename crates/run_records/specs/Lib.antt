pub mod Sends
pub mod Inputs
pub mod Firsts
pub mod Store
pub mod Traffic
