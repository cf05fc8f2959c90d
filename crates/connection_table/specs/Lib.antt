pub mod Touches
pub mod Recency
pub mod Renewal
pub mod Tables
pub mod Slots
pub mod Hashing
pub mod Tied
pub mod Picked
