pub mod Bare
pub mod Books
pub mod Lasts
pub mod Looks
pub mod Sents
