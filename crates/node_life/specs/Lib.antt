pub mod Judged
pub mod PrivateHomes
pub mod Told
