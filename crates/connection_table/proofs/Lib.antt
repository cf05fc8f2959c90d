pub mod Standing
pub mod Places
pub mod Links
pub mod Once
pub mod Shown
pub mod Picked
pub mod Tied
