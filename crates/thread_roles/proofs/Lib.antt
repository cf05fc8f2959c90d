pub mod Counting
pub mod Goes
pub mod Taking
pub mod Showing
pub mod Steps
