pub mod PrivateFirsts
pub mod Runs
pub mod Kept
pub mod Turned
pub mod PrivateFailures
pub mod PrivateHistories
