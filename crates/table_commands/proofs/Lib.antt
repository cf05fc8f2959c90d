pub mod Lines
pub mod OtherWords
pub mod Entrants
