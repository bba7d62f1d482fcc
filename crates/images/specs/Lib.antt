pub mod Bytes
pub mod Layout
pub mod Filled
pub mod Image
pub mod Cells
pub mod Numbers
pub mod Patches
