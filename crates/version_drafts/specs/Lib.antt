pub mod Plain
pub mod Changes
pub mod Drafts
pub mod Words
pub mod Reading
pub mod Places
