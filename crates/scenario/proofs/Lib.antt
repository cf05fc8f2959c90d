pub mod Telling
pub mod Refusals
pub mod Alike
pub mod Allowed
pub mod OneByOne
pub mod Until
