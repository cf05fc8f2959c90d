pub mod Segments
pub mod Ordinals
pub mod Captures
pub mod Known
pub mod Laws
