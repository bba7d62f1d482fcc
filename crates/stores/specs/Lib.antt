pub mod Meaning
pub mod Cells
pub mod Matching
pub mod Flat
