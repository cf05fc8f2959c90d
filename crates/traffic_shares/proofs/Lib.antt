pub mod Zeros
pub mod Placing
pub mod Walks
pub mod Same
pub mod Kept
pub mod Told
pub mod Noted
pub mod Sums
