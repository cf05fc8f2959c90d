pub mod Maps
pub mod PrivateMaps
