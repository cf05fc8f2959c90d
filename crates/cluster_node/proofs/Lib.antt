pub mod Below
pub mod Books
pub mod Clearing
pub mod Records
pub mod Passing
