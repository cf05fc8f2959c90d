pub mod Queues
pub mod Mirrors
