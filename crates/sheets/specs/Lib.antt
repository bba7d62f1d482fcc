pub mod Forms
pub mod Rules
pub mod Verdict
pub mod Sheets
pub mod Language
pub mod Writers
pub mod Terms
