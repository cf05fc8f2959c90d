mod Items
pub mod PoolLaws
pub mod Adding
