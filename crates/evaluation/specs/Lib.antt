pub mod Value
pub mod Law
pub mod Machine
pub mod Sources
pub mod Tray
