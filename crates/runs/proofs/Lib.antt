pub mod Chains
pub mod Opened
pub mod Standing
pub mod Stepping
pub mod Taken
pub mod Writes
