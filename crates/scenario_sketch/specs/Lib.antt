pub mod Hops
pub mod Counts
pub mod Entries
pub mod Text
pub mod Reading
pub mod Sketch
pub mod Fairness
