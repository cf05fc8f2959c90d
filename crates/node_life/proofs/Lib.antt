pub mod Homed
pub mod Idling
pub mod Judging
pub mod Telling
