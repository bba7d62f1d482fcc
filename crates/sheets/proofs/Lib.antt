pub mod Infos
pub mod Typing
pub mod Matching
pub mod Passing
pub mod Writing
pub mod Judged
