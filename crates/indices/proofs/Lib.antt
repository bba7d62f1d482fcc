pub mod Equal
pub mod Entries
pub mod Within
