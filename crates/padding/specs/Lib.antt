pub mod Rounding
pub mod Padding
pub mod Clearing
pub mod Padded
pub mod Rounded
