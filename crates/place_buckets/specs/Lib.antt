pub mod Groups
pub mod PrivateLanes
