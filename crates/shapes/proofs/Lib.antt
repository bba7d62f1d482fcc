pub mod Numbering
pub mod Extents
pub mod Tables
pub mod Asked
pub mod Columns
pub mod Held
