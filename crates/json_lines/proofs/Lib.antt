pub mod Told
pub mod Listed
pub mod Pieces
pub mod Rows
