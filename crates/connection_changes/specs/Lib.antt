pub mod Sites
pub mod Changes
pub mod Texts
pub mod Books
pub mod Turns
pub mod TurnedBooks
pub mod Laws
