pub mod Places
pub mod Dimensions
pub mod Coordinates
pub mod Equality
