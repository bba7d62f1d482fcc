pub mod Plain
pub mod Opening
pub mod Calls
pub mod Writing
pub mod Lists
pub mod Agreement
