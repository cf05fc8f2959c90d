pub mod Assigned
pub mod Counts
pub mod Faults
pub mod Going
pub mod Pushed
pub mod Shown
pub mod Taken
