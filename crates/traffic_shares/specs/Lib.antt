pub mod Sends
pub mod Holders
pub mod Equals
pub mod Shares
pub mod Books
pub mod Texts
pub mod Laws
