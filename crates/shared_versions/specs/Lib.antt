pub mod Installed
pub mod PrivateHeld
pub mod PrivateAudits
