pub mod Bare
pub mod Causes
pub mod Lasts
pub mod Looks
pub mod Noted
pub mod Settled
