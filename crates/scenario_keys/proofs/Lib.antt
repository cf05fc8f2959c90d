pub mod Views
pub mod KeyNames
