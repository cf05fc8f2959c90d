pub mod Adding
pub mod MemberPlaces
pub mod PoolPlaces
pub mod Catalogues
pub mod PrivatePlacing
